use Rattle.std.proofs.Common.{◌≡◌, ℕ, [], ◌∷◌, Option, None, Some, MatchOption, sym, ap, ◌∙◌}
use Rattle.std.specs.Prelude.{codes}
use Rattle.std.proofs.lemmas.Option.{MatchOption-at_some, same_Some}
use Rattle.sap_terms.specs.AdversaryFacts.{linear, fr_fact}
use Rattle.sap_terms.specs.Tree.{Tree, fresh}
use Rattle.sap_terms.specs.declared.fact.Fact.{Fact}
use Rattle.sap_share.specs.Shared.{tree_at}
use Rattle.sap_steps.proofs.adversary.name_made.Goals as goal

made_of : (f : Option Fact) (t u : Tree) (r : Option ℕ) → f ≡ Some (linear (codes "Fr") (t ∷ [])) → u ≡ t → MatchOption r ((n : ℕ) → ¬ (u ≡ fresh n)) (λ n. u ≡ fresh n)
    → MatchOption r ((n : ℕ) → ¬ (f ≡ Some (fr_fact n))) (λ n. f ≡ Some (fr_fact n))
made_of f t u None is at other = λ n e.
    let facts : linear (codes "Fr") (t ∷ []) ≡ fr_fact n = same_Some _ _ (sym is ∙ e) in
    let args : t ∷ [] ≡ fresh n ∷ [] = ap (λ (f : Fact). f.args) facts in
    let same : t ≡ fresh n = cc in
    other n (at ∙ same)
made_of f t u (Some n) is at same = is ∙ ap (λ v. Some (linear (codes "Fr") (v ∷ []))) (sym at ∙ same)

pub returns-in-Some : goal.returns-in-Some
returns-in-Some c =
    let ts = c.args.facts.now.trees in
    let there = MatchOption-at_some _ _ c.in-Some.number c.in-Some.is c.argument.ensures in
    made_of _ (tree_at ts c.in-Some.number) _ c.number_of_fresh.result there.1 (rw c.table.ensures at c.node.ensures.tree) (c.number_of_fresh.ensures ts)
