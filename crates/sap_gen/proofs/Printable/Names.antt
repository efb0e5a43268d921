-- The names of rules, of facts that rules use themselves, and of the variables of locks are names of the grammar.
use Rattle.std.proofs.Common.{◌≡◌, ◌≤◌, ◌<◌, ◌^◌, ◌+◌, ◌%◌, ℕ, zero, suc, Bool, true, false, List, [], ◌∷◌, ◌++◌, length, refl, ◌∙◌, arith}
use Rattle.std.specs.List.{list_all}
use Rattle.std.specs.Prelude.{codes, decimal}
use Rattle.std.specs.Char.{is_ascii_alphabetic}
use Rattle.std.proofs.Common.{length-append}
use Rattle.std.proofs.lemmas.Fmt.{decimal_by_steps, length-decimal-le}
use Rattle.std.proofs.lemmas.List.Folds.{list_all-append}
use Rattle.sap_terms.proofs.PlainLaws.Tests.{and_true, and_right}
use Rattle.sap_text.specs.Tokens.{is_word, ident}
use Rattle.sap_grammar.specs.Words.{is_grammar_word}
use Rattle.sap_grammar.specs.ByteWords.{IsName}
use Rattle.sap_formula.specs.Truth.{EachIn}
use Rattle.sap_process.specs.Scopes.{lock_var}
use Rattle.sap_place.specs.StateFacts.{digits}

-- the first byte is a letter
abbrev pub begins_letter : List ℕ → Bool
begins_letter [] = false
begins_letter (b ∷ z) = is_ascii_alphabetic b

pub letters_name : (most : ℕ) (x : List ℕ) → begins_letter x ≡ true → list_all is_word x ≡ true → is_grammar_word x ≡ false → length x ≤ most → IsName most x
letters_name most [] letter words none short = absurd (let z : false ≡ true = letter in cc)
letters_name most (b ∷ z) letter words none short = record { is = ident letter (and_right (is_word b) (list_all is_word z) words); no_grammar_word = none; short = short }

-- digits

digit_word : (n : ℕ) → n < 10 → is_word (48 + n) ≡ true
digit_word zero h = refl
digit_word (suc zero) h = refl
digit_word (suc (suc zero)) h = refl
digit_word (suc (suc (suc zero))) h = refl
digit_word (suc (suc (suc (suc zero)))) h = refl
digit_word (suc (suc (suc (suc (suc zero))))) h = refl
digit_word (suc (suc (suc (suc (suc (suc zero)))))) h = refl
digit_word (suc (suc (suc (suc (suc (suc (suc zero))))))) h = refl
digit_word (suc (suc (suc (suc (suc (suc (suc (suc zero)))))))) h = refl
digit_word (suc (suc (suc (suc (suc (suc (suc (suc (suc zero))))))))) h = refl
digit_word (suc (suc (suc (suc (suc (suc (suc (suc (suc (suc n)))))))))) h = absurd (omega arith)

-- each step of the path has one digit
abbrev pub HasDigits : List ℕ → Type 0
HasDigits path = EachIn (λ d. d < 10) path

pub digits_more : (path : List ℕ) (d : ℕ) → d < 10 → HasDigits path → HasDigits (path ++ d ∷ [])
digits_more [] d h k = (h, tt)
digits_more (e ∷ path) d h k = (k.0, digits_more path d h k.1)

digits_words : (path : List ℕ) → HasDigits path → list_all is_word (digits path) ≡ true
digits_words [] h = refl
digits_words (d ∷ path) h = and_true (is_word (48 + d)) (list_all is_word (digits path)) (digit_word d h.0) (digits_words path h.1)

digits_length : (path : List ℕ) → length (digits path) ≡ length path
digits_length [] = refl
digits_length (d ∷ path) = let e = digits_length path in omega (arith, e)

words_both : (xs ys : List ℕ) → list_all is_word xs ≡ true → list_all is_word ys ≡ true → list_all is_word (xs ++ ys) ≡ true
words_both xs ys h k = list_all-append is_word xs ys ∙ and_true (list_all is_word xs) (list_all is_word ys) h k

-- a word with the digits of a path
pub placed_name : (most : ℕ) (word path : List ℕ) → begins_letter (word ++ digits path) ≡ true → list_all is_word word ≡ true → is_grammar_word (word ++ digits path) ≡ false → HasDigits path → length word + length path ≤ most → IsName most (word ++ digits path)
placed_name most word path letter words none h short =
    let long : length (word ++ digits path) ≡ length word + length (digits path) = length-append word (digits path) in
    letters_name most (word ++ digits path) letter (words_both word (digits path) words (digits_words path h)) none (omega (arith, short, long, digits_length path))

-- the number of a lock
decimal_words : (n : ℕ) → n < 2 ^ 64 → list_all is_word (decimal n) ≡ true
decimal_words = decimal_by_steps (λ n ds. list_all is_word ds ≡ true) (λ n small. and_true (is_word (48 + n)) true (digit_word n small) refl)
    (λ n ds big h. words_both ds ((48 + n % 10) ∷ []) h (and_true (is_word (48 + n % 10)) true (digit_word (n % 10) (omega arith)) refl))

pub lock_name : (most n : ℕ) → n < 2 ^ 64 → 30 ≤ most → IsName most (lock_var n).name
lock_name most n small room =
    let long : length (codes "sapic_lock" ++ decimal n) ≡ length (codes "sapic_lock") + length (decimal n) = length-append (codes "sapic_lock") (decimal n) in
    let few : length (decimal n) ≤ 20 = length-decimal-le 20 n (omega arith) (omega (arith, small)) small in
    letters_name most (lock_var n).name refl (words_both (codes "sapic_lock") (decimal n) refl (decimal_words n small)) refl (omega (arith, long, few, room))
