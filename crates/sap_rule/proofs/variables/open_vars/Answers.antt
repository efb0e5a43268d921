use Rattle.std.proofs.Common.{◌≡◌, List, ℕ, ◌∙◌, ap, map}
use Rattle.std.specs.Prelude.{Result, Ok, Err, IfOk}
use Rattle.sap_terms.specs.declared.var.Var.{Var}
use Rattle.sap_terms.specs.Variables.{is_known, new_vars}
use Rattle.sap_rule.specs.Variables.{facts_outer_vars, rule_vars}
use Rattle.sap_rule.proofs.Known.{same_new}
use Rattle.sap_rule.proofs.variables.open_vars.Goals as goal

-- the new variables are the open ones
opened : {E : Type 0} (r : Result (List Var) E) (ks : List (List ℕ)) (all whole outer : List Var) → all ≡ whole → ((n : List ℕ) → is_known ks n ≡ is_known (map (λ (v : Var). v.name) outer) n) → IfOk r (λ vs. vs ≡ new_vars ks all) → IfOk r (λ vs. vs ≡ new_vars (map (λ (v : Var). v.name) outer) whole)
opened (Ok vs) ks all whole outer w h e = e ∙ ap (new_vars ks) w ∙ same_new ks (map (λ (v : Var). v.name) outer) whole h
opened (Err e) ks all whole outer w h is = tt

pub returns : goal.returns
returns c =
    opened c.first_occurrences.result c.in_ok-known.known c.in_ok-all.all (rule_vars c.args.r.now) (facts_outer_vars c.args.sig.now c.args.r.now.left) c.in_ok-all.ensures c.in_ok-known.ensures c.first_occurrences.ensures
