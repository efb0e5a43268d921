-- What taking facts leaves.
use Rattle.sap_terms.specs.Piles.{Takes, nothing, one, used}
use Rattle.sap_terms.specs.declared.fact.Fact.{Fact}
use Rattle.std.proofs.Common.{◌≡◌, ℕ, zero, suc, List, [], ◌∷◌, Option, Some, None, refl, arith, Bool, true, false, length, slice_get, slice_set}
use Rattle.std.specs.Prelude.{if◌then◌else◌}

-- where one is taken, the others stay
set_none_kept : (xs : List (Option Fact)) (i j : ℕ) (x : Fact) → slice_get (slice_set xs i None) j ≡ Some (Some x) → slice_get xs j ≡ Some (Some x)
set_none_kept [] i j x e = e
set_none_kept (y ∷ xs) zero zero x e = absurd (cc)
set_none_kept (y ∷ xs) zero (suc j) x e = e
set_none_kept (y ∷ xs) (suc i) zero x e = e
set_none_kept (y ∷ xs) (suc i) (suc j) x e = set_none_kept xs i j x e

set_none_gone : (xs : List (Option Fact)) (i : ℕ) (x : Fact) → slice_get (slice_set xs i None) i ≡ Some (Some x) → ⊥
set_none_gone [] i x e = cc
set_none_gone (y ∷ xs) zero x e = cc
set_none_gone (y ∷ xs) (suc i) x e = set_none_gone xs i x e

pub length_set : {A : Type 0} (xs : List A) (i : ℕ) (x : A) → length (slice_set xs i x) ≡ length xs
length_set [] i x = refl
length_set (y ∷ xs) zero x = omega arith
length_set (y ∷ xs) (suc i) x = let h = length_set xs i x in omega arith

pub used_kept : (facts : List (Option Fact)) (k j : ℕ) (f h : Fact) → slice_get (used facts k f) j ≡ Some (Some h) → slice_get facts j ≡ Some (Some h)
used_kept facts k j f h e = go f.persistent e
  where
    go : (b : Bool) → slice_get (if b then facts else slice_set facts k None) j ≡ Some (Some h) → slice_get facts j ≡ Some (Some h)
    go true e = e
    go false e = set_none_kept facts k j h e

used_length : (facts : List (Option Fact)) (k : ℕ) (f : Fact) → length (used facts k f) ≡ length facts
used_length facts k f = go f.persistent
  where
    go : (b : Bool) → length (if b then facts else slice_set facts k None) ≡ length facts
    go true = refl
    go false = length_set facts k None

pub used_gone : (facts : List (Option Fact)) (k : ℕ) (f h : Fact) → f.persistent ≡ false → slice_get (used facts k f) k ≡ Some (Some h) → ⊥
used_gone facts k f h linear e = go f.persistent linear e
  where
    go : (b : Bool) → b ≡ false → slice_get (if b then facts else slice_set facts k None) k ≡ Some (Some h) → ⊥
    go true l e = cc
    go false l e = set_none_gone facts k h e

-- what is left was there, under the same numbers
pub takes_kept : {facts rest : List (Option Fact)} {ks : List ℕ} {fs : List Fact} → Takes facts ks fs rest → (j : ℕ) (h : Fact) → slice_get rest j ≡ Some (Some h) → slice_get facts j ≡ Some (Some h)
takes_kept nothing j h e = e
takes_kept (one {facts = facts} {k = k} {f = f} i t) j h e = used_kept facts k j f h (takes_kept t j h e)

pub takes_length : {facts rest : List (Option Fact)} {ks : List ℕ} {fs : List Fact} → Takes facts ks fs rest → length rest ≡ length facts
takes_length nothing = refl
takes_length (one {facts = facts} {k = k} {f = f} i t) = let h = takes_length t in let l = used_length facts k f in omega arith

pub takes_later : {facts rest : List (Option Fact)} {k : ℕ} {ks : List ℕ} {f : Fact} {fs : List Fact} → Takes facts (k ∷ ks) (f ∷ fs) rest → Takes (used facts k f) ks fs rest
takes_later (one i t) = t

-- the first that is taken is gone, where it is linear
pub first_gone : {facts rest : List (Option Fact)} {k : ℕ} {ks : List ℕ} {f : Fact} {fs : List Fact} → Takes facts (k ∷ ks) (f ∷ fs) rest → f.persistent ≡ false → (h : Fact) → slice_get rest k ≡ Some (Some h) → ⊥
first_gone {facts = facts} {k = k} {f = f} t linear h e = used_gone facts k f h linear (takes_kept (takes_later t) k h e)

pub first_there : {facts rest : List (Option Fact)} {k : ℕ} {ks : List ℕ} {f : Fact} {fs : List Fact} → Takes facts (k ∷ ks) (f ∷ fs) rest → slice_get facts k ≡ Some (Some f)
first_there (one i t) = i

pub second_there : {facts rest : List (Option Fact)} {k j : ℕ} {ks : List ℕ} {f h : Fact} {fs : List Fact} → Takes facts (k ∷ j ∷ ks) (f ∷ h ∷ fs) rest → slice_get facts j ≡ Some (Some h)
second_there {facts = facts} {k = k} {j = j} {f = f} {h = h} t = used_kept facts k j f h (first_there (takes_later t))
