use Rattle.sap_expect.proofs.NoLetter.{letterless_follows, letterless_none}
use Rattle.sap_expect.proofs.part_laws.names_without_letters.Goals as goal

pub returns : goal.returns
returns c = record { follows = letterless_follows; spelled_not = letterless_none }
