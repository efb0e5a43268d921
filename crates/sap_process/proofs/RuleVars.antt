-- The variables of the three sides of a rule, one side after another.
use Rattle.std.proofs.Common.{◌≡◌, List, [], ◌∷◌, ◌++◌, refl, sym, ap, ◌∙◌}
use Rattle.std.proofs.lemmas.List.{append_assoc}
use Rattle.sap_terms.specs.Tree.{trees_of}
use Rattle.sap_terms.specs.Variables.{trees_vars, facts_vars}
use Rattle.sap_terms.specs.declared.fact.Fact.{Fact}

facts-append : (fs hs : List Fact) → facts_vars (fs ++ hs) ≡ facts_vars fs ++ facts_vars hs
facts-append [] hs = refl
facts-append (f ∷ fs) hs =
    ap (λ vs. trees_vars (trees_of f.args) ++ vs) (facts-append fs hs) ∙ sym (append_assoc (trees_vars (trees_of f.args)) (facts_vars fs) (facts_vars hs))

pub vars_of_rule : (l e r : List Fact) → facts_vars (l ++ (e ++ r)) ≡ (facts_vars l ++ facts_vars e) ++ facts_vars r
vars_of_rule l e r =
    facts-append l (e ++ r) ∙ ap (λ vs. facts_vars l ++ vs) (facts-append e r) ∙ sym (append_assoc (facts_vars l) (facts_vars e) (facts_vars r))
