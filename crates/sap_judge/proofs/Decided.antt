-- Tests that decide.
use Rattle.std.proofs.Common.{◌≡◌, List, [], ◌∷◌, Bool, true, subst}
use Rattle.std.specs.Bool.{Decides}
use Rattle.std.specs.List.{AllZip}
use Rattle.sap_terms.specs.Equal.{same as no_step}
use Rattle.sap_terms.proofs.PlainLaws.Tests.{same_tree-refl, same_tree-sound}
use Rattle.sap_terms.specs.Choice.{Choice, instance, instances}
use Rattle.sap_terms.specs.Equal.{IsTheoryEqual}
use Rattle.sap_terms.specs.Same.{same_tree}
use Rattle.sap_terms.specs.Equations.{Equations}
use Rattle.sap_terms.specs.Tree.{Tree, trees_of}

pub args-equal : (e : Equations) (σ : Choice) (ss ts : List Tree) → instances σ (trees_of ss) ≡ trees_of ts → AllZip (λ s t. IsTheoryEqual e (instance σ s) t) ss ts
args-equal e σ [] [] h = tt
args-equal e σ [] (t ∷ ts) h = absurd (cc)
args-equal e σ (s ∷ ss) [] h = absurd (cc)
args-equal e σ (s ∷ ss) (t ∷ ts) h =
    let p : instance σ s ≡ t = cc in
    let q : instances σ (trees_of ss) ≡ trees_of ts = cc in
    (subst (λ u. IsTheoryEqual e (instance σ s) u) p no_step, args-equal e σ ss ts q)

pub decides_tree : (t u : Tree) → Decides (same_tree t u) (t ≡ u)
decides_tree t u = (λ h. same_tree-sound t u h, λ e. subst (λ v. same_tree t v ≡ true) e (same_tree-refl t))

pub along : (b : Bool) (A B : Type 0) → (A → B) → (B → A) → Decides b A → Decides b B
along b A B f g d = (λ h. f (d.0 h), λ x. d.1 (g x))
