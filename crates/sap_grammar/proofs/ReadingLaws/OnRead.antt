-- What is so of what was read.
use Rattle.std.proofs.Common.{◌≡◌, ℕ, Bool, true, false, List, [], ◌∷◌, ◌++◌, drop, Option, Some, None, refl, ap, subst}
use Rattle.std.specs.Prelude.{if◌then◌else◌, ⊤}
use Rattle.std.specs.Str.{bytes_eq}
use Rattle.std.proofs.lemmas.Slice.Eq.{bytes_eq-Decides}
use Rattle.sap_grammar.specs.Words.{Word, mark, name, number, quoted, starts}
use Rattle.sap_grammar.specs.Reading.{Read, Reader, after, given, behind, name_at, names, past, bare}

abbrev pub Says : Type 0 → Type 1
Says A = A → List Word → Type 0

-- what was read has this property
abbrev pub OnRead : {A : Type 0} → Says A → Read A → Type 0
OnRead P None = ⊤
OnRead P (Some p) = P p.0 p.1

-- whatever is read has it
pub on_all : {A : Type 0} (P : Says A) (r : Read A) → ((v : A) (b : List Word) → r ≡ Some (v, b) → P v b) → OnRead P r
on_all P None f = tt
on_all P (Some p) f = f p.0 p.1 refl

-- what was read has the property
pub on_read : {A : Type 0} (P : Says A) {r : Read A} (v : A) (b : List Word) → r ≡ Some (v, b) → OnRead P r → P v b
on_read P v b e h = subst (OnRead P) e h

pub after_on : {A B : Type 0} (P : Says A) (Q : Says B) (r : Read A) (k : A → Reader B) → OnRead P r → ((v : A) (b : List Word) → P v b → OnRead Q (k v b)) → OnRead Q (after r k)
unfolding after
after_on P Q None k h f = tt
after_on P Q (Some p) k h f = f p.0 p.1 h

pub given_on : {A B : Type 0} (Q : Says B) (o : Option A) (k : A → Read B) → ((x : A) → o ≡ Some x → OnRead Q (k x)) → OnRead Q (given o k)
unfolding given
given_on Q None k f = tt
given_on Q (Some x) k f = f x refl

pub behind_on : {A : Type 0} (P Q : Says (List A)) (xs : List A) (r : Read (List A)) → OnRead P r → ((us : List A) (b : List Word) → P us b → Q (xs ++ us) b) → OnRead Q (behind xs r)
behind_on P Q xs None h f = tt
behind_on P Q xs (Some p) h f = f p.0 p.1 h

pub if_on : {B : Type 0} (Q : Says B) (c : Bool) (x y : Read B) → (c ≡ true → OnRead Q x) → (c ≡ false → OnRead Q y) → OnRead Q (if c then x else y)
if_on Q true x y t f = t refl
if_on Q false x y t f = f refl

pub same_bytes : (m s : List ℕ) → bytes_eq m s ≡ true → m ≡ s
same_bytes m s e = (bytes_eq-Decides m s).0 e

pub starts_is : (m : List ℕ) (ts : List Word) → starts m ts ≡ true → ts ≡ mark m ∷ drop 1 ts
starts_is m [] e = absurd (cc)
starts_is m (mark s ∷ ts) e = let same : s ≡ m = same_bytes s m e in cc
starts_is m (name s ∷ ts) e = absurd (cc)
starts_is m (number s ∷ ts) e = absurd (cc)
starts_is m (quoted s ∷ ts) e = absurd (cc)

pub name_is : (ts : List Word) (x : List ℕ) → name_at ts ≡ Some x → ts ≡ name x ∷ drop 1 ts
name_is [] x e = absurd (cc)
name_is (mark s ∷ ts) x e = absurd (cc)
name_is (name s ∷ ts) x e = cc
name_is (number s ∷ ts) x e = absurd (cc)
name_is (quoted s ∷ ts) x e = absurd (cc)

-- a name that stands first, by its bytes
pub named_is : (x : List ℕ) (ws : List Word) → names x ws ≡ true → ws ≡ name x ∷ drop 1 ws
named_is x [] e = absurd (cc (e))
named_is x (mark s ∷ ws) e = absurd (cc (e))
named_is x (name s ∷ ws) e = ap (λ (y : List ℕ). name y ∷ ws) (same_bytes s x e)
named_is x (number s ∷ ws) e = absurd (cc (e))
named_is x (quoted s ∷ ws) e = absurd (cc (e))

-- what goes on behind a mark
pub past_on : {B : Type 0} (Q : Says B) (m : List ℕ) (ts : List Word) (k : Reader B) → (ts ≡ mark m ∷ drop 1 ts → OnRead Q (k (drop 1 ts))) → OnRead Q (past m ts k)
unfolding past
past_on Q m ts k f = if_on Q (starts m ts) (k (drop 1 ts)) None (λ e. f (starts_is m ts e)) (λ e. tt)

pub bare_sound : (ts : List Word) → OnRead (λ x b. ts ≡ name x ∷ b) (bare ts)
bare_sound ts = given_on (λ x b. ts ≡ name x ∷ b) (name_at ts) _ (λ x e. name_is ts x e)
