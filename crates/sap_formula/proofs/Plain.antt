-- Terms without destructors stay normal under a substitution of normal terms.
use Rattle.std.proofs.Common.{◌≡◌, ℕ, List, [], ◌∷◌, false, refl}
use Rattle.std.specs.List.{AllZip}
use Rattle.sap_formula.specs.Checked.{AreCheckedTerms, IsCheckedTerm}
use Rattle.sap_formula.specs.declared.binder.Binder.{Binder}
use Rattle.sap_formula.specs.Laws.{CheckedArgsLaw, CheckedTermLaw}
use Rattle.sap_formula.specs.Messages.{IsNormalEnv}
use Rattle.sap_rewrite.specs.Laws.{NormalTermsDecide}
use Rattle.sap_terms.specs.Choice.{Choice, instance, instances}
use Rattle.sap_terms.specs.Equal.{IsTheoryEqual}
use Rattle.sap_terms.specs.Equations.{Equations, equations, IsDestructor}
use Rattle.sap_terms.specs.Laws.{LeavesAreNormal, DestructorsHeadLeftSides}
use Rattle.sap_terms.specs.Normal.{AreNormal, EachSubtermWithin, IsNoLeftSide, IsNormal}
use Rattle.sap_terms.specs.Signature.{Sig, is_destructor_of}
use Rattle.sap_terms.specs.Tree.{Tree, Trees, apply, fresh, more, none, public, trees_of, variable}
use Rattle.sap_terms.specs.declared.var.Var.{Var}

-- what the crates below say of normal terms
pub record NormalLaws : Type 0 where
  pub decide : NormalTermsDecide
  pub leaves : LeavesAreNormal
  pub heads : DestructorsHeadLeftSides

pub leaf-normal : NormalLaws → (e : Equations) (v : Var) → IsNormal e (variable v)
leaf-normal w e v = w.leaves.of_variable e v

pub public-normal : NormalLaws → (e : Equations) (n : List ℕ) → IsNormal e (public n)
public-normal w e n = w.leaves.of_public_name e n

pub fresh-normal : NormalLaws → (e : Equations) (k : ℕ) → IsNormal e (fresh k)
fresh-normal w e k = w.leaves.of_fresh_name e k

no_head : NormalLaws → (g : Sig) (f : List ℕ) → is_destructor_of g f ≡ false → IsDestructor (equations g) f → ⊥
no_head w g f h d = let yes = (w.heads g f).1 d in cc

mutual
  pub plain-normal : NormalLaws → CheckedTermLaw
  plain-normal w g scope σ (variable v) c n = n v
  plain-normal w g scope σ (public m) c n = public-normal w (equations g) m
  plain-normal w g scope σ (fresh k) c n = fresh-normal w (equations g) k
  plain-normal w g scope σ (apply f ts) c n = w.leaves.of_symbol (equations g) f (instances σ ts) (no_head w g f c.1) (plains-normal w g scope σ ts c.2 n)

  pub plains-normal : NormalLaws → (g : Sig) (scope : List Binder) (σ : Choice) (ps : Trees) → AreCheckedTerms g scope ps → IsNormalEnv (equations g) σ → AreNormal (equations g) (instances σ ps)
  plains-normal w g scope σ none c n = tt
  plains-normal w g scope σ (more t ts) c n = (plain-normal w g scope σ t c.0 n, plains-normal w g scope σ ts c.1 n)

-- normal terms that are theory-equal are the same
pub same_from_equal : NormalLaws → (e : Equations) (t u : Tree) → IsNormal e t → IsNormal e u → IsTheoryEqual e t u → t ≡ u
same_from_equal w e t u n m h = (w.decide e t u n m).0 h

pub args-same : NormalLaws → CheckedArgsLaw
args-same w g scope σ [] [] c n m h = refl
args-same w g scope σ [] (t ∷ ts) c n m h = absurd h
args-same w g scope σ (s ∷ ss) [] c n m h = absurd h
args-same w g scope σ (s ∷ ss) (t ∷ ts) c n m h =
    let p = same_from_equal w (equations g) (instance σ s) t (plain-normal w g scope σ s c.0 n) m.0 h.0 in
    let q = args-same w g scope σ ss ts c.1 n m.1 h.1 in
    λ i. more (p i) (q i)
