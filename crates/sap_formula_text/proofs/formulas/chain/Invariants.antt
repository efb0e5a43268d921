use Rattle.std.proofs.Common.{◌≡◌, map}
use Rattle.sap_formula.specs.View.{form}
use Rattle.sap_formula_text.specs.code.Chains.{chained}
use Rattle.sap_formula_text.proofs.Sizes.{form_size}
use Rattle.sap_formula_text.proofs.formulas.chain.Given as goal

abbrev pub invariant-loop-first : goal.invariant-loop-first
invariant-loop-first l = form l.f ≡ chained (form l.first) (map (λ g. form g.now) l.behind.items)

abbrev pub decreases-loop-first : goal.decreases-loop-first
decreases-loop-first l = form_size (form l.first)
