use Rattle.std.proofs.Common.{◌+◌, ◌*◌}
use Rattle.sap_formula.specs.View.{form}
use Rattle.sap_formula_words.specs.code.Walk.{form_count}
use Rattle.sap_formula_words.proofs.faults.+in_form.Given as goal

abbrev pub decreases-in_form : goal.decreases-in_form
decreases-in_form l = 2 * form_count (form l.f.now)

abbrev pub decreases-in_both : goal.decreases-in_both
decreases-in_both l = 2 * (form_count (form l.f.now) + form_count (form l.h.now)) + 1

abbrev pub decreases-in_body : goal.decreases-in_body
decreases-in_body l = 2 * form_count (form l.f.now) + 1
