-- The rules of a process are those of its root and those below.
use Rattle.std.proofs.Common.{◌≡◌, ℕ, List, ◌++◌, append_assoc, refl, sym, ap, ◌∙◌}
use Rattle.sap_terms.specs.declared.var.Var.{Var}
use Rattle.sap_process.specs.Proc.{Proc, nil, parallel, replicated, act, test, lookup}
use Rattle.sap_rule.specs.declared.rule.Rule.{Rule}
use Rattle.sap_outlines.specs.Places.{scope_handed_down}
use Rattle.sap_outlines.specs.Templates.{own_rules, place_rules}
use Rattle.sap_templates.specs.code.Inside.{rules_below}

cut : (path : List ℕ) (v : List Var) (p : Proc) → place_rules path v p ≡ own_rules path v p ++ rules_below path v (scope_handed_down v p 1) p
cut path v nil = refl
cut path v (parallel p q) = refl
cut path v (replicated p) = refl
cut path v (act a p) = refl
cut path v (test t u p q) = refl
cut path v (lookup t x p q) = refl

-- where the inner scope is that at the first child
pub cut_at_root : (path : List ℕ) (v inner : List Var) (p : Proc) → inner ≡ scope_handed_down v p 1 → place_rules path v p ≡ own_rules path v p ++ rules_below path v inner p
cut_at_root path v inner p e = cut path v p ∙ ap (λ w. own_rules path v p ++ rules_below path v w p) (sym e)

-- one list after another
pub after : (rs own below whole : List Rule) → whole ≡ own ++ below → (rs ++ own) ++ below ≡ rs ++ whole
after rs own below whole e = append_assoc rs own below ∙ ap (λ v. rs ++ v) (sym e)
