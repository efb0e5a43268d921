-- What is known where an option has a value, or none.
use Rattle.std.proofs.Common.{◌≡◌, true, false, Some, None, refl}
use Rattle.std.specs.Prelude.{Option, IfSome, IfNone, is_some, Result, Ok, Err, OnOk, OnErr}

pub from-some : {X : Type 0} (o : Option X) (P : X → Type 0) → IfSome o P → is_some o ≡ true → (x : X) × P x
from-some None P h e = cc
from-some (Some x) P h e = (x, h)

pub from-none : {X : Type 0} (o : Option X) (P : Type 0) → IfNone o P → is_some o ≡ false → P
from-none None P h e = h
from-none (Some x) P h e = cc

pub is_some-decides : {X : Type 0} (o : Option X) (Q : Type 0) {P : X → Type 0} → ((x : X) → P x → Q) → IfSome o P → IfNone o (Q → ⊥) → (is_some o ≡ true → Q) × (Q → is_some o ≡ true)
is_some-decides None Q f h e = (λ t. cc, λ q. absurd (e q))
is_some-decides (Some x) Q f h e = (λ t. f x h, λ q. refl)

-- what holds at all events holds at a refusal
pub at-err : {T E P : Type 0} (r : Result T E) → P → OnErr r P
at-err (Ok t) p = tt
at-err (Err e) p = p

-- where two things hold if all went well, so does what follows from both
pub ok-both : {T E A B P : Type 0} (r : Result T E) → (A → B → P) → OnOk r A → OnOk r B → OnOk r P
ok-both (Ok t) f a b = f a b
ok-both (Err e) f a b = tt
