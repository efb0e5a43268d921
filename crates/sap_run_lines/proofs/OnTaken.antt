-- What holds of what was taken.
use Rattle.std.proofs.Common.{◌≡◌, ℕ, Bool, true, false, List, Option, Some, None, refl, subst}
use Rattle.std.specs.Prelude.{if◌then◌else◌, ⊤}
use Rattle.sap_run_lines.specs.code.Taking.{Taken, after, given}

abbrev pub Says : Type 0 → Type 1
Says A = A → List ℕ → Type 0

-- a value, if there is one, has this property
abbrev pub OnSome : {A : Type 0} → (A → Type 0) → Option A → Type 0
OnSome P None = ⊤
OnSome P (Some x) = P x

-- the property of a value with the bytes behind it
abbrev pub both : {A : Type 0} → Says A → A × List ℕ → Type 0
both P p = P p.0 p.1

-- what was taken has this property
abbrev pub OnTaken : {A : Type 0} → Says A → Taken A → Type 0
OnTaken P r = OnSome (both P) r

pub after_on : {A B : Type 0} (P : Says A) (Q : B → Type 0) (r : Taken A) (k : A → List ℕ → Option B) → OnTaken P r → ((v : A) (b : List ℕ) → P v b → OnSome Q (k v b)) → OnSome Q (after r k)
unfolding after
after_on P Q None k h f = tt
after_on P Q (Some p) k h f = f p.0 p.1 h

pub given_on : {A B : Type 0} (Q : B → Type 0) (o : Option A) (k : A → Option B) → ((x : A) → o ≡ Some x → OnSome Q (k x)) → OnSome Q (given o k)
unfolding given
given_on Q None k f = tt
given_on Q (Some x) k f = f x refl

pub if_on : {B : Type 0} (Q : B → Type 0) (c : Bool) (x y : Option B) → (c ≡ true → OnSome Q x) → (c ≡ false → OnSome Q y) → OnSome Q (if c then x else y)
if_on Q true x y t f = t refl
if_on Q false x y t f = f refl

-- what was taken has the property of all that can be
pub taken_on : {A : Type 0} (P : Says A) (r : Taken A) (v : A) (b : List ℕ) → r ≡ Some (v, b) → OnTaken P r → P v b
taken_on P r v b e h = subst (OnTaken P) e h

pub some_on : {A : Type 0} (P : A → Type 0) (o : Option A) (v : A) → o ≡ Some v → OnSome P o → P v
some_on P o v e h = subst (OnSome P) e h

-- what follows from the property
pub onward : {A : Type 0} (P Q : A → Type 0) (o : Option A) → OnSome P o → ((x : A) → P x → Q x) → OnSome Q o
onward P Q None h f = tt
onward P Q (Some x) h f = f x h
