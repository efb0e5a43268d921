-- Flags that are set one after another.
use Rattle.std.proofs.Common.{◌≡◌, ◌<◌, ◌+◌, ◌⊎◌, ◌↔◌, inl, inr, ℕ, zero, suc, Bool, true, List, [], ◌∷◌, ◌++◌, length, take, Option, Some, None, set, refl, sym, ap, ◌∙◌, subst, arith}
use Rattle.std.proofs.lemmas.List.{length-set}
use Rattle.std.proofs.lemmas.List.Elements.{Contains-append_left, Contains-push_cases, Contains-push}
use Rattle.std.specs.Prelude.{Contains, slice_get}
use Rattle.sap_terms.proofs.PlainLaws.Items.{none_contained}
use Rattle.sap_terms.proofs.PlainLaws.Lists.{take_got, front_self}
use Rattle.sap_captures.specs.code.Flags.{IsFlagged, IsGrown}
use Rattle.sap_captures.specs.code.Marks.{HasIndexIn, IsIndexAt}
use Rattle.sap_captures.specs.declared.desk.Desk.{Desk}
use Rattle.sap_captures.specs.declared.kind.Kind.{Kind}

some_same : {A : Type 0} {a b : A} → ◌≡◌ {A = Option A} (Some a) (Some b) → a ≡ b
some_same e = cc (e)

-- ---- one flag

set_there : (fs : List Bool) (i : ℕ) → i < length fs → IsFlagged (set fs i true) i
set_there [] i low = absurd (omega (arith, low))
set_there (f ∷ fs) zero low = refl
set_there (f ∷ fs) (suc i) low = set_there fs i (omega (arith, low))

set_kept : (fs : List Bool) (i j : ℕ) → IsFlagged fs j → IsFlagged (set fs i true) j
set_kept [] i j h = absurd (cc (h))
set_kept (f ∷ fs) zero zero h = refl
set_kept (f ∷ fs) zero (suc j) h = h
set_kept (f ∷ fs) (suc i) zero h = h
set_kept (f ∷ fs) (suc i) (suc j) h = set_kept fs i j h

set_cases : (fs : List Bool) (i j : ℕ) → IsFlagged (set fs i true) j → IsFlagged fs j ⊎ (i ≡ j)
set_cases [] i j h = absurd (cc (h))
set_cases (f ∷ fs) zero zero h = inr refl
set_cases (f ∷ fs) zero (suc j) h = inl h
set_cases (f ∷ fs) (suc i) zero h = inl h
set_cases (f ∷ fs) (suc i) (suc j) h = by (set_cases fs i j h) where
  by : IsFlagged fs j ⊎ (i ≡ j) → IsFlagged fs j ⊎ (suc i ≡ suc j)
  by (inl g) = inl g
  by (inr e) = inr (ap (λ (n : ℕ). suc n) e)

-- where no more are, nothing is set
pub grown_none : (more : ℕ → Type 0) (fs : List Bool) → ((i : ℕ) → more i → ⊥) → IsGrown more fs fs
grown_none more fs none = record { length_is = refl; set = λ i. (λ h. inl h, both i) } where
  both : (i : ℕ) → IsFlagged fs i ⊎ more i → IsFlagged fs i
  both i (inl h) = h
  both i (inr m) = absurd (none i m)

-- where one is, it is set
pub grown_one : (more : ℕ → Type 0) (fs gs : List Bool) (i : ℕ) → i < length fs → gs ≡ set fs i true → more i → ((j : ℕ) → more j → i ≡ j) → IsGrown more fs gs
grown_one more fs gs i low e here only = subst (λ (hs : List Bool). IsGrown more fs hs) (sym e) (record { length_is = length-set fs i true; set = λ j. (to j, from j) }) where
  from : (j : ℕ) → IsFlagged fs j ⊎ more j → IsFlagged (set fs i true) j
  from j (inl h) = set_kept fs i j h
  from j (inr m) = subst (λ (n : ℕ). IsFlagged (set fs i true) n) (only j m) (set_there fs i low)

  to : (j : ℕ) → IsFlagged (set fs i true) j → IsFlagged fs j ⊎ more j
  to j h = by (set_cases fs i j h) where
    by : IsFlagged fs j ⊎ (i ≡ j) → IsFlagged fs j ⊎ more j
    by (inl g) = inl g
    by (inr s) = inr (subst (λ (n : ℕ). more n) s here)

-- what an answer tells is set
pub grown_answer : (more : ℕ → Type 0) (fs : List Bool) (o : Option ℕ) → ((i : ℕ) → (o ≡ Some i) ↔ more i) → o ≡ None → IsGrown more fs fs
grown_answer more fs o told none = grown_none more fs (λ i m. let clash : ◌≡◌ {A = Option ℕ} None (Some i) = sym none ∙ (told i).1 m in cc (clash))

pub grown_told : (more : ℕ → Type 0) (fs gs : List Bool) (o : Option ℕ) (i : ℕ) → ((i : ℕ) → (o ≡ Some i) ↔ more i) → o ≡ Some i → i < length fs → gs ≡ set fs i true → IsGrown more fs gs
grown_told more fs gs o i told is low e = grown_one more fs gs i low e ((told i).0 is) (λ j m. some_same (sym is ∙ (told j).1 m))

-- ---- one after another

pub grown_both : (m n k : ℕ → Type 0) (fs gs hs : List Bool) → IsGrown m fs gs → IsGrown n gs hs → ((i : ℕ) → m i → k i) → ((i : ℕ) → n i → k i) → ((i : ℕ) → k i → m i ⊎ n i) → IsGrown k fs hs
grown_both m n k fs gs hs a b left right cases = record { length_is = b.length_is ∙ a.length_is; set = λ i. (to i, from i) } where
  to : (i : ℕ) → IsFlagged hs i → IsFlagged fs i ⊎ k i
  to i h = second ((b.set i).0 h) where
    first : IsFlagged fs i ⊎ m i → IsFlagged fs i ⊎ k i
    first (inl g) = inl g
    first (inr x) = inr (left i x)

    second : IsFlagged gs i ⊎ n i → IsFlagged fs i ⊎ k i
    second (inl g) = first ((a.set i).0 g)
    second (inr x) = inr (right i x)

  from : (i : ℕ) → IsFlagged fs i ⊎ k i → IsFlagged hs i
  from i (inl h) = (b.set i).1 (inl ((a.set i).1 (inl h)))
  from i (inr x) = one (cases i x) where
    one : m i ⊎ n i → IsFlagged hs i
    one (inl y) = (b.set i).1 (inl ((a.set i).1 (inr y)))
    one (inr y) = (b.set i).1 (inr y)

-- the same numbers
pub grown_same : (m n : ℕ → Type 0) (fs gs : List Bool) → IsGrown m fs gs → ((i : ℕ) → m i → n i) → ((i : ℕ) → n i → m i) → IsGrown n fs gs
grown_same m n fs gs a to from = grown_both m (λ i. ⊥) n fs gs gs a (grown_none (λ i. ⊥) gs (λ i x. x)) to (λ i x. absurd x) (λ i x. inl (from i x))

-- ---- the nodes of a list

module _ (d : Desk) (kind : Kind) (path : List ℕ) where
  pub no_nodes : (fs : List Bool) → IsGrown (λ i. HasIndexIn d kind path [] i) fs fs
  no_nodes fs = grown_none (λ i. HasIndexIn d kind path [] i) fs (λ i x. none_contained x.1)

  pub more_nodes : (ks : List ℕ) (at k : ℕ) (fs gs hs : List Bool) → slice_get ks at ≡ Some k → IsGrown (λ i. HasIndexIn d kind path (take at ks) i) fs gs
      → IsGrown (λ i. IsIndexAt d kind path k i) gs hs → IsGrown (λ i. HasIndexIn d kind path (take (at + 1) ks) i) fs hs
  more_nodes ks at k fs gs hs got a b =
      subst (λ (js : List ℕ). IsGrown (λ i. HasIndexIn d kind path js i) fs hs) (sym (take_got ks at k got))
      (grown_both (λ i. HasIndexIn d kind path (take at ks) i) (λ i. IsIndexAt d kind path k i) (λ i. HasIndexIn d kind path (take at ks ++ k ∷ []) i) fs gs hs a b
      (λ i x. (x.0, Contains-append_left (take at ks) (k ∷ []) x.0 x.1, x.2))
      (λ i x. (k, Contains-push (take at ks) k, x))
      cases)
    where
      cases : (i : ℕ) → HasIndexIn d kind path (take at ks ++ k ∷ []) i → HasIndexIn d kind path (take at ks) i ⊎ IsIndexAt d kind path k i
      cases i x = by (Contains-push_cases (take at ks) k x.0 x.1) where
        by : Contains (take at ks) x.0 ⊎ (k ≡ x.0) → HasIndexIn d kind path (take at ks) i ⊎ IsIndexAt d kind path k i
        by (inl c) = inl (x.0, c, x.2)
        by (inr e) = inr (subst (λ (n : ℕ). IsIndexAt d kind path n i) (sym e) x.2)

  pub all_nodes : (ks : List ℕ) (at : ℕ) (fs gs : List Bool) → at ≡ length ks → IsGrown (λ i. HasIndexIn d kind path (take at ks) i) fs gs → IsGrown (λ i. HasIndexIn d kind path ks i) fs gs
  all_nodes ks at fs gs e a = subst (λ (js : List ℕ). IsGrown (λ i. HasIndexIn d kind path js i) fs gs) (ap (λ (n : ℕ). take n ks) e ∙ front_self ks) a
