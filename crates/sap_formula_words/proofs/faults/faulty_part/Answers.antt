use Rattle.std.proofs.Common.{refl}
use Rattle.sap_formula_words.proofs.Faulty.{carried}
use Rattle.sap_formula_words.proofs.faults.faulty_part.Goals as goal

pub returns-in-Some : goal.returns-in-Some
returns-in-Some c = λ r w n e first.
    let is = rw c.in-Some.is at (c.aim_of.ensures w n e) in
    carried c.part_of.result r is.0 refl is.1 is.2 (λ i. c.part_of.ensures r i) first

pub returns-in-None : goal.returns-in-None
returns-in-None c = λ r w n e first. absurd (rw c.in-None.is at (c.aim_of.ensures w n e))
