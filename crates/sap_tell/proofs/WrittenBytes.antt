-- What is written for bytes stands for them alone, and has no marks.
use Rattle.std.proofs.Common.{◌≡◌, ◌==◌, ℕ, Bool, true, false, cond, codes, List, [], ◌∷◌, ◌++◌, get_or, drop, refl, sym, ap, ◌∙◌, arith}
use Rattle.std.specs.List.{list_all}
use Rattle.std.proofs.lemmas.Bool.{eqb-true}
use Rattle.std.proofs.lemmas.Grind.{common_steps}
use Rattle.sap_tell.specs.Escaped.{has_meaning, IsWrittenByte, itself, quotation, ampersand, apostrophe, less, greater, StandsFor, nothing, further, escaped_byte, escaped, is_no_mark}

-- what is so of the five bytes, and of each that is written as it is, is so of each
each : (P : ℕ → List ℕ → Type 0) → P 34 (codes "&quot;") → P 38 (codes "&amp;") → P 39 (codes "&apos;") → P 60 (codes "&lt;") → P 62 (codes "&gt;")
    → ((x : ℕ) → has_meaning x ≡ false → P x (x ∷ [])) → (x : ℕ) → P x (escaped_byte x)
unfolding escaped_byte
each P q a p l g other x = first (x == 34) refl
  where
    is : (n : ℕ) (t : List ℕ) → (x == n) ≡ true → escaped_byte n ≡ t → P n t → P x (escaped_byte x)
    is n t e w h = let same : x ≡ n = eqb-true x n e in rw (same, w) h

    fifth : (b : Bool) → (x == 62) ≡ b → (x == 34) ≡ false → (x == 38) ≡ false → (x == 39) ≡ false → (x == 60) ≡ false → P x (escaped_byte x)
    fifth true e n34 n38 n39 n60 = is 62 (codes "&gt;") e refl g
    fifth false e n34 n38 n39 n60 =
        let none : has_meaning x ≡ false = rw (n34, n38, n39, n60, e) refl in
        rw (n34, n38, n39, n60, e) (other x none)

    fourth : (b : Bool) → (x == 60) ≡ b → (x == 34) ≡ false → (x == 38) ≡ false → (x == 39) ≡ false → P x (escaped_byte x)
    fourth true e n34 n38 n39 = is 60 (codes "&lt;") e refl l
    fourth false e n34 n38 n39 = fifth (x == 62) refl n34 n38 n39 e

    third : (b : Bool) → (x == 39) ≡ b → (x == 34) ≡ false → (x == 38) ≡ false → P x (escaped_byte x)
    third true e n34 n38 = is 39 (codes "&apos;") e refl p
    third false e n34 n38 = fourth (x == 60) refl n34 n38 e

    second : (b : Bool) → (x == 38) ≡ b → (x == 34) ≡ false → P x (escaped_byte x)
    second true e n34 = is 38 (codes "&amp;") e refl a
    second false e n34 = third (x == 39) refl n34 e

    first : (b : Bool) → (x == 34) ≡ b → P x (escaped_byte x)
    first true e = is 34 (codes "&quot;") e refl q
    first false e = second (x == 38) refl e

written : (x : ℕ) → IsWrittenByte (escaped_byte x) x
written = each (λ x t. IsWrittenByte t x) quotation ampersand apostrophe less greater itself

pub read_back : (z : List ℕ) → StandsFor (escaped z) z
read_back [] = nothing
read_back (x ∷ z) = further (escaped_byte x) x (written x) (read_back z)

plain_no_mark : (x : ℕ) → has_meaning x ≡ false → list_all is_no_mark (x ∷ []) ≡ true
plain_no_mark x h = grind arith

no_marks_written : (x : ℕ) → list_all is_no_mark (escaped_byte x) ≡ true
no_marks_written = each (λ x t. list_all is_no_mark t ≡ true) refl refl refl refl refl plain_no_mark

all_joined : (a b : List ℕ) → list_all is_no_mark a ≡ true → list_all is_no_mark b ≡ true → list_all is_no_mark (a ++ b) ≡ true
all_joined a b h k = grind (arith, common_steps)

pub no_marks : (z : List ℕ) → list_all is_no_mark (escaped z) ≡ true
no_marks [] = refl
no_marks (x ∷ z) = all_joined (escaped_byte x) (escaped z) (no_marks_written x) (no_marks z)

-- the byte that text begins with, and the bytes that are written for it
first_byte : List ℕ → ℕ
first_byte s = cond (get_or s 0 0 == 38) (cond (get_or s 1 0 == 113) 34 (cond (get_or s 1 0 == 108) 60 (cond (get_or s 1 0 == 103) 62 (cond (get_or s 2 0 == 109) 38 39)))) (get_or s 0 0)

first_size : List ℕ → ℕ
first_size s = cond (get_or s 0 0 == 38) (cond (get_or s 1 0 == 113) 6 (cond (get_or s 1 0 == 108) 4 (cond (get_or s 1 0 == 103) 4 (cond (get_or s 2 0 == 109) 5 6)))) 1

no_ampersand : (x : ℕ) → has_meaning x ≡ false → (x == 38) ≡ false
no_ampersand x h = grind arith

first_is : {p : List ℕ} {x : ℕ} → IsWrittenByte p x → (t : List ℕ) → (first_byte (p ++ t) ≡ x) × (drop (first_size (p ++ t)) (p ++ t) ≡ t)
unfolding first_byte first_size
first_is (itself x h) t = let e : (x == 38) ≡ false = no_ampersand x h in rw e (refl, refl)
first_is quotation t = (refl, refl)
first_is ampersand t = (refl, refl)
first_is apostrophe t = (refl, refl)
first_is less t = (refl, refl)
first_is greater t = (refl, refl)

not_none : {p : List ℕ} {x : ℕ} {A : Type 0} → IsWrittenByte p x → (t : List ℕ) → p ++ t ≡ [] → A
not_none (itself x h) t e = absurd (cc)
not_none quotation t e = absurd (cc)
not_none ampersand t e = absurd (cc)
not_none apostrophe t e = absurd (cc)
not_none less t e = absurd (cc)
not_none greater t e = absurd (cc)

-- what text stands for, by its first byte
pub after : {s z : List ℕ} → StandsFor s z → (p : List ℕ) (x : ℕ) (t : List ℕ) → IsWrittenByte p x → s ≡ p ++ t → (y : List ℕ) × (z ≡ x ∷ y) × StandsFor t y
after nothing p x t w e = not_none w t (sym e)
after (further {t = u} {z = y} q k v h) p x t w e =
    let one = first_is v u in
    let two = first_is w t in
    let byte : k ≡ x = sym one.0 ∙ (ap first_byte e ∙ two.0) in
    let rest : u ≡ t = sym one.1 ∙ (ap (λ s. drop (first_size s) s) e ∙ two.1) in
    (y, ap (λ b. b ∷ y) byte, rw (sym rest) h)

only_nothing : {s z : List ℕ} → StandsFor s z → s ≡ [] → z ≡ []
only_nothing nothing e = refl
only_nothing (further {t = t} p x w h) e = not_none w t e

same : {s u t z : List ℕ} → StandsFor s u → StandsFor t z → t ≡ s → u ≡ z
same nothing k e = sym (only_nothing k e)
same (further {t = t} p x w h) k e =
    let rest = after k p x t w e in
    ap (λ y. x ∷ y) (same h rest.2 refl) ∙ sym rest.1

pub one : (t y z : List ℕ) → StandsFor t y → StandsFor t z → y ≡ z
one t y z h k = same h k refl
