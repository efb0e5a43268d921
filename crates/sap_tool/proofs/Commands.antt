-- The words of a command.
use Rattle.std.proofs.Common.{◌≡◌, ◌<◌, ◌≤◌, ℕ, List, [], ◌∷◌, length, get_or, sym, ap, ◌∙◌, arith, String, string_bytes}
use Rattle.std.specs.declared.alloc.Global.{Global}
use Rattle.sap_tool.specs.Call.{bytes_of}

pub one_word : {A : Type 0} (xs : List A) (a : A) → 1 ≤ length xs → length xs < 2 → a ≡ get_or xs 0 a → xs ≡ a ∷ []
one_word [] a more less first = absurd (omega arith)
one_word (x ∷ []) a more less first = λ i. sym first i ∷ []
one_word (x ∷ y ∷ zs) a more less first = absurd (omega arith)

pub two_words : {A : Type 0} (xs : List A) (a b : A) → 2 ≤ length xs → length xs < 3 → a ≡ get_or xs 0 a → b ≡ get_or xs 1 b → xs ≡ a ∷ b ∷ []
two_words [] a b more less first second = absurd (omega arith)
two_words (x ∷ []) a b more less first second = absurd (omega arith)
two_words (x ∷ y ∷ []) a b more less first second = λ i. sym first i ∷ sym second i ∷ []
two_words (x ∷ y ∷ z ∷ zs) a b more less first second = absurd (omega arith)

pub three_words : {A : Type 0} (xs : List A) (a b c : A) → 3 ≤ length xs → length xs < 4 → a ≡ get_or xs 0 a → b ≡ get_or xs 1 b → c ≡ get_or xs 2 c → xs ≡ a ∷ b ∷ c ∷ []
three_words [] a b c more less first second third = absurd (omega arith)
three_words (x ∷ []) a b c more less first second third = absurd (omega arith)
three_words (x ∷ y ∷ []) a b c more less first second third = absurd (omega arith)
three_words (x ∷ y ∷ z ∷ []) a b c more less first second third = λ i. sym first i ∷ sym second i ∷ sym third i ∷ []
three_words (x ∷ y ∷ z ∷ w ∷ ws) a b c more less first second third = absurd (omega arith)

-- the bytes of one word, of two, and of three
pub are_one : (words : List (String Global)) (a : String Global) (word : List ℕ) → words ≡ a ∷ [] → word ≡ string_bytes a → bytes_of words ≡ word ∷ []
are_one words a word e first = ap bytes_of e ∙ (λ i. sym first i ∷ [])

pub are_two : (words : List (String Global)) (a b : String Global) (word name : List ℕ) → words ≡ a ∷ b ∷ [] → word ≡ string_bytes a → name ≡ string_bytes b
    → bytes_of words ≡ word ∷ name ∷ []
are_two words a b word name e first second = ap bytes_of e ∙ (λ i. sym first i ∷ sym second i ∷ [])

pub are_three : (words : List (String Global)) (a b c : String Global) (word name run : List ℕ) → words ≡ a ∷ b ∷ c ∷ [] → word ≡ string_bytes a
    → name ≡ string_bytes b → run ≡ string_bytes c → bytes_of words ≡ word ∷ name ∷ run ∷ []
are_three words a b c word name run e first second third = ap bytes_of e ∙ (λ i. sym first i ∷ sym second i ∷ sym third i ∷ [])
