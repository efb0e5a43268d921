-- The tests of terms say what the definitions say.
use Rattle.std.proofs.Common.{◌≡◌, ℕ, List, Bool, true, false, ◌&&◌, ◌||◌, IsTrue, Option, Some, None, length, inl, inr, refl, sym, ap, ◌∙◌}
use Rattle.std.specs.Prelude.{◌⊎◌}
use Rattle.std.proofs.lemmas.Bool.Decides.{Decides-eqb}
use Rattle.sap_terms.specs.Destructors.{HasDestructor, AnyHasDestructor}
use Rattle.sap_terms.specs.Ground.{IsGround, AreGround}
use Rattle.sap_terms.specs.Message.{IsOver, AreOver}
use Rattle.sap_terms.specs.Signature.{Sig, arity_of, is_destructor_of}
use Rattle.sap_terms.specs.Tree.{Tree, variable, public, fresh, apply, Trees, none, more, trees_of, list_of, list_of-trees_of}
use Rattle.sap_terms.specs.TermTests.{has_arity, is_over, are_over, is_ground, are_ground, has_destructor, any_has_destructor}
use Rattle.sap_terms.specs.code.SameLaws.{and_left, and_right, and_true}
use Rattle.sap_terms.proofs.PlainLaws.Trees.{item_le-trees_count}

-- a symbol on a list of terms
pub over-apply : (g : Sig) (f : List ℕ) (ts : List Tree) → is_over g (apply f (trees_of ts)) ≡ (has_arity (arity_of g f) (length ts) && are_over g (trees_of ts))
over-apply g f ts = ap (λ us. has_arity (arity_of g f) (length us) && are_over g (trees_of ts)) (list_of-trees_of ts)

arity_there : (o : Option ℕ) (k : ℕ) → has_arity o k ≡ true → o ≡ Some k
arity_there None k h = cc
arity_there (Some n) k h = ap Some ((Decides-eqb n k).0 h)

arity_tested : (o : Option ℕ) (k : ℕ) → o ≡ Some k → has_arity o k ≡ true
arity_tested o k h = rw h ((Decides-eqb k k).1 refl)

mutual
  over-sound : (g : Sig) (t : Tree) → is_over g t ≡ true → IsOver g t
  over-sound g (variable v) h = tt
  over-sound g (public n) h = tt
  over-sound g (fresh k) h = tt
  over-sound g (apply f ts) h =
      (arity_there (arity_of g f) (length (list_of ts)) (and_left _ _ h), are_over-sound g ts (and_right _ _ h))

  are_over-sound : (g : Sig) (ts : Trees) → are_over g ts ≡ true → AreOver g ts
  are_over-sound g none h = tt
  are_over-sound g (more t ts) h = (over-sound g t (and_left _ _ h), are_over-sound g ts (and_right _ _ h))

mutual
  over-complete : (g : Sig) (t : Tree) → IsOver g t → is_over g t ≡ true
  over-complete g (variable v) o = refl
  over-complete g (public n) o = refl
  over-complete g (fresh k) o = refl
  over-complete g (apply f ts) o =
      and_true _ _ (arity_tested (arity_of g f) (length (list_of ts)) o.0) (are_over-complete g ts o.1)

  are_over-complete : (g : Sig) (ts : Trees) → AreOver g ts → are_over g ts ≡ true
  are_over-complete g none o = refl
  are_over-complete g (more t ts) o = and_true _ _ (over-complete g t o.0) (are_over-complete g ts o.1)

mutual
  ground-sound : (t : Tree) → is_ground t ≡ true → IsGround t
  ground-sound (variable v) h = cc
  ground-sound (public n) h = tt
  ground-sound (fresh k) h = tt
  ground-sound (apply f ts) h = are_ground-sound ts h

  are_ground-sound : (ts : Trees) → are_ground ts ≡ true → AreGround ts
  are_ground-sound none h = tt
  are_ground-sound (more t ts) h = (ground-sound t (and_left _ _ h), are_ground-sound ts (and_right _ _ h))

mutual
  ground-complete : (t : Tree) → IsGround t → is_ground t ≡ true
  ground-complete (variable v) o = absurd o
  ground-complete (public n) o = refl
  ground-complete (fresh k) o = refl
  ground-complete (apply f ts) o = are_ground-complete ts o

  are_ground-complete : (ts : Trees) → AreGround ts → are_ground ts ≡ true
  are_ground-complete none o = refl
  are_ground-complete (more t ts) o = and_true _ _ (ground-complete t o.0) (are_ground-complete ts o.1)

or_either : (a b : Bool) → (a || b) ≡ true → (a ≡ true) ⊎ (b ≡ true)
or_either true b h = inl refl
or_either false b h = inr h

or_first : (a b : Bool) → a ≡ true → (a || b) ≡ true
or_first true b h = refl
or_first false b h = cc

or_second : (a b : Bool) → b ≡ true → (a || b) ≡ true
or_second true b h = refl
or_second false b h = h

mutual
  destructor-sound : (g : Sig) (t : Tree) → has_destructor g t ≡ true → HasDestructor g t
  destructor-sound g (variable v) h = cc
  destructor-sound g (public n) h = cc
  destructor-sound g (fresh k) h = cc
  destructor-sound g (apply f ts) h =
      elim (or_either (is_destructor_of g f) (any_has_destructor g ts) h) [ inl a ↦ inl a | inr b ↦ inr (any_destructor-sound g ts b) ]

  any_destructor-sound : (g : Sig) (ts : Trees) → any_has_destructor g ts ≡ true → AnyHasDestructor g ts
  any_destructor-sound g none h = cc
  any_destructor-sound g (more t ts) h =
      elim (or_either (has_destructor g t) (any_has_destructor g ts) h) [ inl a ↦ inl (destructor-sound g t a) | inr b ↦ inr (any_destructor-sound g ts b) ]

mutual
  destructor-complete : (g : Sig) (t : Tree) → HasDestructor g t → has_destructor g t ≡ true
  destructor-complete g (variable v) o = absurd o
  destructor-complete g (public n) o = absurd o
  destructor-complete g (fresh k) o = absurd o
  destructor-complete g (apply f ts) (inl o) = or_first _ _ o
  destructor-complete g (apply f ts) (inr o) = or_second _ _ (any_destructor-complete g ts o)

  any_destructor-complete : (g : Sig) (ts : Trees) → AnyHasDestructor g ts → any_has_destructor g ts ≡ true
  any_destructor-complete g none o = absurd o
  any_destructor-complete g (more t ts) (inl o) = or_first _ _ (destructor-complete g t o)
  any_destructor-complete g (more t ts) (inr o) = or_second _ _ (any_destructor-complete g ts o)

-- what each test's answer says
pub over-iff : (g : Sig) (t : Tree) (r : Bool) → r ≡ is_over g t → (IsTrue r → IsOver g t) × (IsOver g t → IsTrue r)
over-iff g t r e = (λ h. over-sound g t (sym e ∙ h), λ o. e ∙ over-complete g t o)

pub are_over-iff : (g : Sig) (ts : Trees) (r : Bool) → r ≡ are_over g ts → (IsTrue r → AreOver g ts) × (AreOver g ts → IsTrue r)
are_over-iff g ts r e = (λ h. are_over-sound g ts (sym e ∙ h), λ o. e ∙ are_over-complete g ts o)

pub ground-iff : (t : Tree) (r : Bool) → r ≡ is_ground t → (IsTrue r → IsGround t) × (IsGround t → IsTrue r)
ground-iff t r e = (λ h. ground-sound t (sym e ∙ h), λ o. e ∙ ground-complete t o)

pub destructor-iff : (g : Sig) (t : Tree) (r : Bool) → r ≡ has_destructor g t → (IsTrue r → HasDestructor g t) × (HasDestructor g t → IsTrue r)
destructor-iff g t r e = (λ h. destructor-sound g t (sym e ∙ h), λ o. e ∙ destructor-complete g t o)

pub any_destructor-iff : (g : Sig) (ts : Trees) (r : Bool) → r ≡ any_has_destructor g ts → (IsTrue r → AnyHasDestructor g ts) × (AnyHasDestructor g ts → IsTrue r)
any_destructor-iff g ts r e = (λ h. any_destructor-sound g ts (sym e ∙ h), λ o. e ∙ any_destructor-complete g ts o)

pub ruleset test_laws = (over-apply, item_le-trees_count)

pub ruleset test_answers = (over-iff, are_over-iff, ground-iff, destructor-iff, any_destructor-iff)
