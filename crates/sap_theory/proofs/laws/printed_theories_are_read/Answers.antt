use Rattle.sap_theory.specs.TheoryText.{theory_text}
use Rattle.sap_theory.proofs.laws.printed_theories_are_read.Goals as goal

pub returns : goal.returns
returns c = λ z t u r s.
    let was = c.read_theories_are_spelled.ensures z t r in
    c.one_theory.ensures (theory_text t) t u (c.printed_theories.ensures.spelled z t was.0.spelled was.1) (c.read_theories_are_spelled.ensures (theory_text t) u s).0.spelled
