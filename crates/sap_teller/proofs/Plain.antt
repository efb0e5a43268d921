-- A term without destructors is its own normal form.
use Rattle.std.proofs.Common.{◌≡◌, refl, Bool, true, false, ◌||◌}
use Rattle.sap_terms.specs.Equal.{IsTheoryEqual}
use Rattle.sap_terms.specs.Equations.{equations}
use Rattle.sap_terms.specs.Laws.{DestructorsHeadLeftSides, LeavesAreNormal}
use Rattle.sap_terms.specs.Normal.{AreNormal, IsNormal, IsNormalForm}
use Rattle.sap_terms.specs.Signature.{Sig, is_destructor_of}
use Rattle.sap_terms.specs.TermTests.{any_has_destructor, has_destructor}
use Rattle.sap_terms.specs.Tree.{Tree, Trees, variable, public, fresh, apply, none, more}

neither : (a b : Bool) → (a || b) ≡ false → (a ≡ false) × (b ≡ false)
neither true b e = absurd (cc)
neither false b e = (refl, e)

module _ (leaves : LeavesAreNormal) (heads : DestructorsHeadLeftSides) (g : Sig) where
  mutual
    plain_normal : (t : Tree) → has_destructor g t ≡ false → IsNormal (equations g) t
    plain_normal (variable v) e = leaves.of_variable (equations g) v
    plain_normal (public n) e = leaves.of_public_name (equations g) n
    plain_normal (fresh k) e = leaves.of_fresh_name (equations g) k
    plain_normal (apply f ts) e =
        let h = neither (is_destructor_of g f) (any_has_destructor g ts) e in
        leaves.of_symbol (equations g) f ts (λ d. let yes = (heads g f).1 d in let no = h.0 in absurd (cc)) (plain_all ts h.1)

    plain_all : (ts : Trees) → any_has_destructor g ts ≡ false → AreNormal (equations g) ts
    plain_all none e = tt
    plain_all (more t ts) e = let h = neither (has_destructor g t) (any_has_destructor g ts) e in (plain_normal t h.0, plain_all ts h.1)

  pub plain_form : (t : Tree) → has_destructor g t ≡ false → IsNormalForm (equations g) t t
  plain_form t e = record { equal = IsTheoryEqual.same; normal = plain_normal t e }
