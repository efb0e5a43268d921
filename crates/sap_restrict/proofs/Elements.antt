-- Elements of a list, and what some one or each of them has.
use Rattle.std.proofs.Common.{◌≡◌, zero, ◌⊎◌, inl, inr, List, [], ◌∷◌, Bool, true, false, cond, refl, sym, subst, arith}
use Rattle.std.specs.Prelude.{Contains, All, filter}
use Rattle.std.proofs.lemmas.List.Elements.{All-cons, All-head, All-nil, All-tail, Contains-append_cases, Contains-append_right, Contains-push_cases}
use Rattle.sap_formula.specs.Truth.{AnyIn, EachIn}

pub first_of : {X : Type 0} (x : X) (xs : List X) → Contains (x ∷ xs) x
first_of x xs = (zero, omega arith, refl)

pub behind : {X : Type 0} (y : X) (xs : List X) (x : X) → Contains xs x → Contains (y ∷ xs) x
behind y xs x c = Contains-append_right (y ∷ []) xs x c

pub none_in : {X : Type 0} (x : X) → Contains [] x → ⊥
none_in x c = let l = c.1 in omega arith

pub first_or_behind : {X : Type 0} (y : X) (xs : List X) (x : X) → Contains (y ∷ xs) x → (y ≡ x) ⊎ Contains xs x
first_or_behind y xs x c =
    elim (Contains-append_cases (y ∷ []) xs x c) [
      | inl a ↦ elim (Contains-push_cases [] y x a) [ inl n ↦ absurd (none_in x n) | inr e ↦ inl e ]
      | inr b ↦ inr b
    ]

-- what some element has, an element has
pub some_one : {X : Type 0} (P : X → Type 0) (xs : List X) → AnyIn P xs → (x : X) × Contains xs x × P x
some_one P [] h = absurd h
some_one P (x ∷ xs) (inl h) = (x, first_of x xs, h)
some_one P (x ∷ xs) (inr h) = let r = some_one P xs h in (r.0, behind x xs r.0 r.1, r.2)

pub any_of : {X : Type 0} (P : X → Type 0) (xs : List X) (x : X) → Contains xs x → P x → AnyIn P xs
any_of P [] x c h = none_in x c
any_of P (y ∷ xs) x c h = elim (first_or_behind y xs x c) [ inl e ↦ inl (subst P (sym e) h) | inr d ↦ inr (any_of P xs x d h) ]

-- what each element has
pub each_one : {X : Type 0} (P : X → Type 0) (xs : List X) → All P xs → EachIn P xs
each_one P [] a = tt
each_one P (x ∷ xs) a = (All-head P x xs a, each_one P xs (All-tail P x xs a))

pub each_at : {X : Type 0} (P : X → Type 0) (xs : List X) → ((x : X) → P x) → EachIn P xs
each_at P [] h = tt
each_at P (x ∷ xs) h = (h x, each_at P xs h)

pub each_contains : {X : Type 0} (P : X → Type 0) (xs : List X) (x : X) → EachIn P xs → Contains xs x → P x
each_contains P [] x h c = absurd (none_in x c)
each_contains P (y ∷ xs) x h c = elim (first_or_behind y xs x c) [ inl e ↦ subst P e h.0 | inr d ↦ each_contains P xs x h.1 d ]

-- a filter keeps what passes the test
pub kept_or_not : {X : Type 0} (test : X → Bool) (xs : List X) (x : X) → Contains xs x → Contains (filter test xs) x ⊎ (test x ≡ false)
kept_or_not test [] x c = absurd (none_in x c)
kept_or_not {X} test (y ∷ xs) x c = go (test y) refl (first_or_behind y xs x c) (λ d. kept_or_not test xs x d) where
  go : (b : Bool) → test y ≡ b → (y ≡ x) ⊎ Contains xs x → (Contains xs x → Contains (filter test xs) x ⊎ (test x ≡ false)) → Contains (cond b (y ∷ filter test xs) (filter test xs)) x ⊎ (test x ≡ false)
  go true e (inl h) f = inl (subst (λ z. Contains (y ∷ filter test xs) z) h (first_of y (filter test xs)))
  go false e (inl h) f = inr (subst (λ z. test z ≡ false) h e)
  go true e (inr d) f = elim (f d) [ inl k ↦ inl (behind y (filter test xs) x k) | inr n ↦ inr n ]
  go false e (inr d) f = f d

pub all_of_each : {X : Type 0} (P : X → Type 0) (xs : List X) → EachIn P xs → All P xs
all_of_each P [] h = All-nil P
all_of_each P (x ∷ xs) h = All-cons P x xs h.0 (all_of_each P xs h.1)
