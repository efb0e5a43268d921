use Rattle.sap_expect.proofs.TooDeepWords.{one_is_expected, one_wrong}
use Rattle.sap_expect.proofs.expected_laws.one_expected.Goals as goal

pub returns : goal.returns
returns c = record { word = one_wrong; one = one_is_expected }
