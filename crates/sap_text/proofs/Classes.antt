-- The first byte of a token tells its kind.
use Rattle.std.proofs.Common.{◌≡◌, ◌≤◌, ℕ, Bool, true, false, List, [], ◌∷◌, ◌++◌, length, refl, sym, ap, ◌∙◌, arith}
use Rattle.std.specs.Prelude.{◌==◌, ◌&&◌, nat_le, if◌then◌else◌}
use Rattle.std.specs.List.{list_all, list_any}
use Rattle.std.specs.Char.{is_ascii_alphabetic, is_ascii_digit}
use Rattle.std.specs.Str.{bytes_eq}
use Rattle.std.proofs.lemmas.Slice.Eq.{bytes_eq-Decides}
use Rattle.sap_text.specs.declared.token.Kind.{Kind}
use Rattle.sap_text.specs.declared.token.Kind.TheVariants as kind
use Rattle.sap_text.specs.Tokens.{is_blank, is_symbol, symbols, IsToken, ident, number, quoted, symbol}

abbrev pub class : ℕ → ℕ
class b = if is_ascii_alphabetic b then 0 else if is_ascii_digit b then 1 else if b == 39 then 2 else if is_blank b then 4 else 3

abbrev pub class_of : Kind → ℕ
class_of kind.Ident = 0
class_of kind.Number = 1
class_of kind.Quoted = 2
class_of kind.Symbol = 3

abbrev pub head : List ℕ → ℕ
head [] = 32
head (b ∷ z) = b

left : (a b : Bool) → (a && b) ≡ true → a ≡ true
left true b e = refl
left false b e = absurd (cc)

right : (a b : Bool) → (a && b) ≡ true → b ≡ true
right true b e = e
right false b e = absurd (cc)

pass : (f : List ℕ → Bool) (ts : List (List ℕ)) (s : List ℕ) → list_all f ts ≡ true → list_any (λ t. bytes_eq s t) ts ≡ true → f s ≡ true
pass f [] s all any = absurd (cc)
pass f (t ∷ ts) s all any = one (bytes_eq s t) refl (pass f ts s (right (f t) (list_all f ts) all))
  where
    one : (b : Bool) → bytes_eq s t ≡ b → (list_any (λ u. bytes_eq s u) ts ≡ true → f s ≡ true) → f s ≡ true
    one true e later = let same : s ≡ t = (bytes_eq-Decides s t).0 e in rw same (left (f t) (list_all f ts) all)
    one false e later = let more : list_any (λ u. bytes_eq s u) ts ≡ true = rw e at any in later more

pub symbol_fact : (f : List ℕ → Bool) → list_all f symbols ≡ true → (s : List ℕ) → is_symbol s ≡ true → f s ≡ true
symbol_fact f all s is = pass f symbols s all is

pub digit_no_letter : (b : ℕ) → is_ascii_digit b ≡ true → is_ascii_alphabetic b ≡ false
digit_no_letter b e = grind arith

pub letter_class : (b : ℕ) → is_ascii_alphabetic b ≡ true → class b ≡ 0
letter_class b e = rw e refl

pub digit_class : (b : ℕ) → is_ascii_digit b ≡ true → class b ≡ 1
digit_class b e = rw (digit_no_letter b e, e) refl

num : (a b : ℕ) → (a == b) ≡ true → a ≡ b
num a b e = grind arith

pub token_class : {k : Kind} {p : List ℕ} → IsToken k p → class (head p) ≡ class_of k
token_class (ident {b = b} l w) = letter_class b l
token_class (number {b = b} l w) = digit_class b l
token_class (quoted z w) = refl
token_class (symbol {s = s} is) = num (class (head s)) 3 (symbol_fact (λ t. class (head t) == 3) refl s is)

pub symbol_short : (s : List ℕ) → is_symbol s ≡ true → nat_le (length s) 3 ≡ true
symbol_short s is = symbol_fact (λ t. nat_le (length t) 3) refl s is

pub token_some : {k : Kind} {p : List ℕ} → IsToken k p → 1 ≤ length p
token_some (ident l w) = omega arith
token_some (number l w) = omega arith
token_some (quoted z w) = omega arith
token_some (symbol {s = s} is) = let e : nat_le 1 (length s) ≡ true = symbol_fact (λ t. nat_le 1 (length t)) refl s is in grind arith

pub same_class : (j k : Kind) → class_of j ≡ class_of k → j ≡ k
same_class kind.Ident kind.Ident e = refl
same_class kind.Number kind.Number e = refl
same_class kind.Quoted kind.Quoted e = refl
same_class kind.Symbol kind.Symbol e = refl
same_class kind.Ident kind.Number e = absurd (cc)
same_class kind.Ident kind.Quoted e = absurd (cc)
same_class kind.Ident kind.Symbol e = absurd (cc)
same_class kind.Number kind.Ident e = absurd (cc)
same_class kind.Number kind.Quoted e = absurd (cc)
same_class kind.Number kind.Symbol e = absurd (cc)
same_class kind.Quoted kind.Ident e = absurd (cc)
same_class kind.Quoted kind.Number e = absurd (cc)
same_class kind.Quoted kind.Symbol e = absurd (cc)
same_class kind.Symbol kind.Ident e = absurd (cc)
same_class kind.Symbol kind.Number e = absurd (cc)
same_class kind.Symbol kind.Quoted e = absurd (cc)

-- two fronts of one list, neither of them empty, begin with the same byte
pub same_head : (p q b c : List ℕ) → p ++ b ≡ q ++ c → 1 ≤ length p → 1 ≤ length q → head p ≡ head q
same_head [] q b c e m n = absurd (omega (arith, m))
same_head (x ∷ p) [] b c e m n = absurd (omega (arith, n))
same_head (x ∷ p) (y ∷ q) b c e m n = cc

-- tokens that begin at one place are of one kind
pub same_kind : {j k : Kind} {p q : List ℕ} (b c : List ℕ) → IsToken j p → IsToken k q → p ++ b ≡ q ++ c → j ≡ k
same_kind {j = j} {k = k} {p = p} {q = q} b c r s e =
    let h : head p ≡ head q = same_head p q b c e (token_some r) (token_some s) in
    let l : class (head p) ≡ class_of j = token_class r in
    let m : class (head q) ≡ class_of k = token_class s in
    same_class j k (sym l ∙ (ap class h ∙ m))
