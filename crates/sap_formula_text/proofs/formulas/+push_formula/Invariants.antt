use Rattle.std.proofs.Common.{◌≡◌, ◌≤◌, ◌+◌, ◌*◌, ◌++◌, drop, length, map}
use Rattle.sap_formula.specs.View.{form}
use Rattle.sap_formula_text.specs.code.Chains.{behind_text}
use Rattle.sap_formula_text.proofs.Sizes.{form_size}
use Rattle.sap_formula_text.proofs.Chains.{forms_size}
use Rattle.sap_formula_text.proofs.formulas.+push_formula.Given as goal

abbrev pub decreases-push_formula : goal.decreases-push_formula
decreases-push_formula l = 5 * form_size (form l.f.now) + 2

abbrev pub decreases-push_open : goal.decreases-push_open
decreases-push_open l = 5 * form_size (form l.f.now)

abbrev pub decreases-push_not : goal.decreases-push_not
decreases-push_not l = 5 * form_size (form l.f.now) + 4

abbrev pub decreases-push_two : goal.decreases-push_two
decreases-push_two l = 5 * (form_size (form l.f.now) + form_size (form l.g.now)) + 4

abbrev pub decreases-push_quantified : goal.decreases-push_quantified
decreases-push_quantified l = 5 * form_size (form l.f.now) + 4

abbrev pub decreases-push_both : goal.decreases-push_both
decreases-push_both l = 5 * (form_size (form l.f.now) + form_size (form l.g.now)) + 4

abbrev pub decreases-push_chain : goal.decreases-push_chain
decreases-push_chain l = 5 * form_size (form l.f.now) + 3

abbrev pub decreases-push_behind : goal.decreases-push_behind
decreases-push_behind l = 5 * forms_size (map (λ g. form g.now) l.behind.now)

abbrev pub invariant-push_behind-loop-left : goal.invariant-push_behind-loop-left
invariant-push_behind-loop-left l = record {
  within : l.left ≤ length l.behind;
  text : l.text ≡ l.initial.text ++ behind_text (drop l.left (map (λ g. form g.now) l.behind));
}

abbrev pub decreases-push_behind-loop-left : goal.decreases-push_behind-loop-left
decreases-push_behind-loop-left l = l.left
