-- What an optional value has, and that it is none.
use Rattle.std.proofs.Common.{◌≡◌, Option, None, Some, sym, subst}
use Rattle.std.specs.Prelude.{IsSomeAnd}

-- a value that is there, and what it has
pub is_some_and : {A : Type 0} (o : Option A) (x : A) (P : A → Type 0) → o ≡ Some x → P x → IsSomeAnd o P
is_some_and o x P is has = subst (λ (y : Option _). IsSomeAnd y P) (sym is) has

-- what it has in two ways
pub of_both_some : {A R : Type 0} (o : Option A) (P Q : A → Type 0) → ((x : A) → P x → Q x → R) → IsSomeAnd o P → IsSomeAnd o Q → R
of_both_some None P Q f p q = absurd p
of_both_some (Some x) P Q f p q = f x p q

-- none has nothing
pub none_has : {A : Type 0} (o : Option A) (P : A → Type 0) → o ≡ None → IsSomeAnd o P → ⊥
none_has None P is has = has
none_has (Some x) P is has = absurd (cc (is))

-- one value is there
pub one_some : {A : Type 0} (x y : A) → ◌≡◌ {A = Option A} (Some x) (Some y) → x ≡ y
one_some x y e = cc
