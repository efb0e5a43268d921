-- What is left of facts that are taken one by one.
use Rattle.std.proofs.Common.{◌≡◌, ◌≢◌, ℕ, zero, suc, Bool, true, false, nat_eq, List, [], ◌∷◌, Option, Some, None, slice_get, slice_set, ◌⊎◌, refl, ap, arith}
use Rattle.sap_terms.specs.Piles.{Pile, used, Takes, nothing, one}
use Rattle.sap_terms.specs.declared.fact.Fact.{Fact}
use Rattle.sap_facts.specs.Facts.{standing, fact_at, slots_without}

standing-some : (o : Option (Option Fact)) (f : Fact) → standing o ≡ Some f → o ≡ Some (Some f)
standing-some None f e = cc
standing-some (Some slot) f e = ap Some e

pub fact_at-live : (facts : Pile) (k : ℕ) (f : Fact) → fact_at facts k ≡ Some f → slice_get facts k ≡ Some (Some f)
fact_at-live facts k f e = standing-some (slice_get facts k) f e

pub used-without : (facts : Pile) (k : ℕ) (f : Fact) → fact_at facts k ≡ Some f → slots_without facts k ≡ used facts k f
used-without facts k f e = by f.persistent refl where
  by : (b : Bool) → f.persistent ≡ b → slots_without facts k ≡ used facts k f
  by true p = rw (e, p) refl
  by false p = rw (e, p) refl

pub take_one : (facts : Pile) (k : ℕ) (f : Fact) → fact_at facts k ≡ Some f → Takes facts (k ∷ []) (f ∷ []) (slots_without facts k)
take_one facts k f e = rw (used-without facts k f e) (one (fact_at-live facts k f e) nothing)

pub get-set_other : {X : Type 0} (xs : List X) (k j : ℕ) (y : X) → k ≢ j → slice_get (slice_set xs k y) j ≡ slice_get xs j
get-set_other [] k j y n = refl
get-set_other (z ∷ zs) zero zero y n = absurd (n refl)
get-set_other (z ∷ zs) zero (suc j) y n = refl
get-set_other (z ∷ zs) (suc k) zero y n = refl
get-set_other (z ∷ zs) (suc k) (suc j) y n = get-set_other zs k j y (λ e. n (ap suc e))

pub gone_at : (facts : Pile) (k : ℕ) → fact_at (slice_set facts k None) k ≡ None
gone_at [] k = refl
gone_at (z ∷ zs) zero = refl
gone_at (z ∷ zs) (suc k) = gone_at zs k

pub nat_cases : (k j : ℕ) → ((nat_eq k j ≡ true) × (k ≡ j)) ⊎ ((nat_eq k j ≡ false) × (k ≢ j))
nat_cases k j = grind arith
