use Rattle.std.proofs.Common.{◌+◌, ◌*◌}
use Rattle.sap_formula.specs.View.{form}
use Rattle.sap_formula_words.specs.code.Walk.{form_count}
use Rattle.sap_formula_words.proofs.walk.+walk.Given as goal

abbrev pub decreases-walk_both : goal.decreases-walk_both
decreases-walk_both l = 2 * (form_count (form l.left.now) + form_count (form l.right.now)) + 1

abbrev pub decreases-walk_bound : goal.decreases-walk_bound
decreases-walk_bound l = 2 * form_count (form l.body.now) + 1

abbrev pub decreases-walk_formula : goal.decreases-walk_formula
decreases-walk_formula l = 2 * form_count (form l.formula.now)
