use Rattle.sap_rewrite.proofs.Patterns.{pattern-stays}
use Rattle.sap_rewrite.proofs.laws.patterns_stay.Goals as goal

pub returns : goal.returns
returns c = λ g σ p h given. pattern-stays c.destructors_head_left_sides.ensures g σ given p h
