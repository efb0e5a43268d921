-- What is written of a value, with a line feed behind it, is read as this value.
use Rattle.std.proofs.Common.{◌≡◌, ℕ, ◌≤◌, Bool, true, false, cond, ◌&&◌, List, [], ◌∷◌, ◌++◌, refl, sym, ap, ap₂, ◌∙◌, append_assoc, append-nil, Some}
use Rattle.std.specs.Prelude.{option_and_then}
use Rattle.json.specs.Token.{Token, begin_object, end_object, begin_array, end_array, key, string, number, boolean, null, bad}
use Rattle.json.specs.Word.{ends_word, word}
use Rattle.json.specs.Lex.{Lexeme, token, comma, colon, string_token, lex, between, fresh, punctuate, tokens}
use Rattle.json.specs.Print.{escape, quoted, token_text, begins, ends, separator, print_from, print, IsPrintable, ArePrintable}
use Rattle.json.specs.Json as json
use Rattle.json.specs.Tree as tree
use Rattle.json.specs.Tree.{json_tokens, HasNumbers}
use Rattle.json.proofs.Printed.Strings.{content-escape, lex-escape}
use Rattle.json.proofs.Printed.Numbers.{lex-number, in_word-ended}
use Rattle.json.proofs.Printed.Tokens.{tokens-print}
use Rattle.json.proofs.Printed.Trees.{value-json_tokens, ArePrintable-json_tokens}
use Rattle.serde_json.specs.Data.{Data}
use Rattle.serde_json.specs.Read.{read, of_json, max_depth}
use Rattle.serde_json.specs.Written.{outline, compact_text}
use Rattle.serde_json.proofs.Texts.{print-outline}

-- ---- a line feed behind printed tokens

abbrev token_lexemes : Token → List Lexeme
token_lexemes begin_object = token begin_object ∷ []
token_lexemes end_object = token end_object ∷ []
token_lexemes begin_array = token begin_array ∷ []
token_lexemes end_array = token end_array ∷ []
token_lexemes (key s) = token (string s) ∷ colon ∷ []
token_lexemes (string s) = token (string s) ∷ []
token_lexemes (number s) = token (number s) ∷ []
token_lexemes (boolean b) = token (boolean b) ∷ []
token_lexemes null = token null ∷ []
token_lexemes bad = []

ends_with : (r : List ℕ) → ends_word r ≡ true → (ts : List Token) → ends_word (print_from true ts ++ r) ≡ true
unfolding print_from
ends_with r h [] = h
ends_with r h (begin_object ∷ ts) = refl
ends_with r h (end_object ∷ ts) = refl
ends_with r h (begin_array ∷ ts) = refl
ends_with r h (end_array ∷ ts) = refl
ends_with r h (key s ∷ ts) = refl
ends_with r h (string s ∷ ts) = refl
ends_with r h (number s ∷ ts) = refl
ends_with r h (boolean b ∷ ts) = refl
ends_with r h (null ∷ ts) = refl
ends_with r h (bad ∷ ts) = refl

lex-quoted : (s r : List ℕ) → lex between (quoted s ++ r) ≡ token (string s) ∷ lex between r
unfolding lex
lex-quoted s r =
    let e = append_assoc (escape s) (34 ∷ []) r in
    ap (λ l. lex between (34 ∷ l)) e ∙ ap₂ (λ o l. token (string_token o) ∷ l) (content-escape s r) (lex-escape s r)

lex-token_text : (t : Token) (r : List ℕ) → IsPrintable t → (ends t ≡ true → ends_word r ≡ true) → lex between (token_text t ++ r) ≡ token_lexemes t ++ lex between r
unfolding lex word
lex-token_text begin_object r h ended = refl
lex-token_text end_object r h ended = refl
lex-token_text begin_array r h ended = refl
lex-token_text end_array r h ended = refl
lex-token_text (key s) r h ended = ap (lex between) (append_assoc (quoted s) (58 ∷ []) r) ∙ lex-quoted s (58 ∷ r)
lex-token_text (string s) r h ended = lex-quoted s r
lex-token_text (number s) r h ended = lex-number s r h (ended refl)
lex-token_text (boolean true) r h ended = ap₂ (λ b l. token (cond b (boolean true) bad) ∷ l) (ended refl) (in_word-ended r (ended refl))
lex-token_text (boolean false) r h ended = ap₂ (λ b l. token (cond b (boolean false) bad) ∷ l) (ended refl) (in_word-ended r (ended refl))
lex-token_text null r h ended = ap₂ (λ b l. token (cond b null bad) ∷ l) (ended refl) (in_word-ended r (ended refl))
lex-token_text bad r h ended = absurd h

lex-separator : (b : Bool) (r : List ℕ) → lex between (cond b (44 ∷ []) [] ++ r) ≡ cond b (comma ∷ []) [] ++ lex between r
unfolding lex
lex-separator true r = refl
lex-separator false r = refl

-- what ends a word and has no lexemes may follow
lex-behind : (r : List ℕ) → ends_word r ≡ true → lex between r ≡ [] → (c : Bool) (ts : List Token) → ArePrintable ts
    → lex between (print_from c ts ++ r) ≡ lex between (print_from c ts)
unfolding lex print_from ArePrintable
lex-behind r e none c [] h = none
lex-behind r e none c (t ∷ ts) h =
    let rest = print_from (ends t) ts in
    let grouped = append_assoc (separator c t) (token_text t ++ rest) r ∙ ap (λ l. separator c t ++ l) (append_assoc (token_text t) rest r) in
    let long = lex-token_text t (rest ++ r) h.0 (λ is. ap (λ b. ends_word (print_from b ts ++ r)) is ∙ ends_with r e ts) in
    let short = lex-token_text t rest h.0 (λ is. ap (λ b. ends_word (print_from b ts)) is ∙ ap ends_word (sym (append-nil (print_from true ts))) ∙ ends_with [] refl ts) in
    ap (lex between) grouped ∙ lex-separator (c && begins t) _
    ∙ ap (λ l. cond (c && begins t) (comma ∷ []) [] ++ l) (long ∙ ap (λ l. token_lexemes t ++ l) (lex-behind r e none (ends t) ts h.1) ∙ sym short)
    ∙ sym (lex-separator (c && begins t) _)

feed_behind : (ts : List Token) → ArePrintable ts → tokens (print ts ++ 10 ∷ []) ≡ ts
unfolding lex
feed_behind ts h = ap (punctuate fresh) (lex-behind (10 ∷ []) refl refl false ts h) ∙ tokens-print ts h

-- the text of a value, with a line feed behind it, is read as the value
pub read_with_feed : (d : Data) → of_json (outline d) ≡ Some d → HasNumbers (outline d) → tree.depth (outline d) ≤ 127 → read (compact_text d ++ 10 ∷ []) ≡ Some d
read_with_feed d same numbers shallow =
    let ts = json_tokens (outline d) in
    let parsed = ap (λ s. tokens (s ++ 10 ∷ [])) (sym (print-outline d)) ∙ feed_behind ts (ArePrintable-json_tokens (outline d) numbers) ∙ sym (append-nil ts) in
    ap (λ us. option_and_then of_json (option_and_then (λ p. json.if_last p.0 p.1) (json.value max_depth us))) parsed
    ∙ ap (λ o. option_and_then of_json (option_and_then (λ p. json.if_last p.0 p.1) o)) (value-json_tokens (outline d) max_depth [] shallow)
    ∙ same
