use Rattle.std.proofs.Common.{refl}
use Rattle.std.specs.Fmt.{digits}
use Rattle.sap_verdicts.proofs.laws.verdict_lines_by_hand.Goals as goal

pub returns-clause-alone : goal.returns-clause-alone
unfolding digits
returns-clause-alone c = (refl, (refl, (refl, (refl, (refl, (refl, (refl, (refl, (refl, (refl, (refl, (refl, tt))))))))))))

pub returns-clause-two : goal.returns-clause-two
returns-clause-two c = refl
