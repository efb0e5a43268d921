-- Where a spelling ends.
use Rattle.std.proofs.Common.{◌≡◌, ◌≤◌, ◌<◌, ◌-◌, ◌+◌, ℕ, suc, List, ◌∷◌, length, drop, refl, sym, ap, ◌∙◌, arith}
use Rattle.std.proofs.lemmas.List.{drop-drop, length-drop}
use Rattle.sap_terms.specs.declared.fact.Fact.{Fact}
use Rattle.sap_terms.specs.Tree.{Tree}
use Rattle.sap_terms.specs.Signature.{Sig}
use Rattle.sap_text.specs.declared.token.Token.{Token}
use Rattle.sap_grammar.specs.Words.{Word, words_of}
use Rattle.sap_grammar.specs.TermGrammar.{IsTerm, IsRest, IsList, IsArgs, args_none, args_some, list_last, list_more, rest_last, rest_more, term_constant, term_fresh, term_message, term_pub, term_quoted, term_symbol, term_tuple}
use Rattle.sap_grammar.specs.FactGrammar.{IsFact, fact_linear, fact_persistent}
use Rattle.sap_grammar.proofs.ReadingLaws.Tokens.{words-drop, length-words}

-- the second words are the end of the first, and fewer
abbrev pub IsEnd : List Word → List Word → Type 0
IsEnd a b = (n : ℕ) × (0 < n) × (n ≤ length a) × (b ≡ drop n a)

pub one_more : {w : Word} {a b : List Word} → IsEnd a b → IsEnd (w ∷ a) b
one_more h = (suc h.0, omega arith, omega (arith, h.2), h.3)

-- behind a mark
pub mark_end : {w : Word} {a b : List Word} → IsEnd a (w ∷ b) → IsEnd a b
mark_end {w = w} {a = a} {b = b} h =
    let next : b ≡ drop (h.0 + 1) a = ap (λ (y : List Word). drop 1 y) h.3 ∙ drop-drop 1 h.0 a in
    let long : suc (length b) ≡ length a - h.0 = ap (λ (y : List Word). length y) h.3 ∙ length-drop h.0 a in
    (h.0 + 1, omega arith, omega (arith, long, h.2), next)

-- the end of an end
pub end_end : {a b c : List Word} → IsEnd a b → IsEnd b c → IsEnd a c
end_end {a = a} {b = b} {c = c} h k =
    let long : length b ≡ length a - h.0 = ap (λ (y : List Word). length y) h.3 ∙ length-drop h.0 a in
    (h.0 + k.0, omega (arith, h.1), omega (arith, long, k.2, h.2), k.3 ∙ (ap (λ (y : List Word). drop k.0 y) h.3 ∙ drop-drop k.0 h.0 a))

-- the end of an end behind a mark
pub then_end : {w : Word} {a b c : List Word} → IsEnd a (w ∷ b) → IsEnd b c → IsEnd a c
then_end h k = end_end (mark_end h) k

mutual
  pub term_end : {g : Sig} {t : Tree} {a b : List Word} → IsTerm g t a b → IsEnd a b
  term_end (term_constant is) = (1, omega arith, omega arith, refl)
  term_end (term_message is) = (1, omega arith, omega arith, refl)
  term_end term_fresh = (2, omega arith, omega arith, refl)
  term_end term_pub = (2, omega arith, omega arith, refl)
  term_end term_quoted = (1, omega arith, omega arith, refl)
  term_end (term_symbol low r) = one_more (one_more (args_end r))
  term_end (term_tuple r s) = one_more (then_end (term_end r) (rest_end s))

  rest_end : {g : Sig} {t : Tree} {a b : List Word} → IsRest g t a b → IsEnd a b
  rest_end (rest_last r) = mark_end (term_end r)
  rest_end (rest_more r s) = then_end (term_end r) (rest_end s)

  list_end : {g : Sig} {ts : List Tree} {a b : List Word} → IsList g ts a b → IsEnd a b
  list_end (list_last r) = mark_end (term_end r)
  list_end (list_more r s) = then_end (term_end r) (list_end s)

  args_end : {g : Sig} {ts : List Tree} {a b : List Word} → IsArgs g ts a b → IsEnd a b
  args_end args_none = (1, omega arith, omega arith, refl)
  args_end (args_some r) = list_end r

pub fact_end : {g : Sig} {f : Fact} {a b : List Word} → IsFact g f a b → IsEnd a b
fact_end (fact_linear up r) = one_more (one_more (args_end r))
fact_end (fact_persistent up r) = one_more (one_more (one_more (args_end r)))

-- so it is shorter
pub shorter : {a b : List Word} → IsEnd a b → length b < length a
shorter {a = a} h =
    let long = ap (λ (y : List Word). length y) h.3 ∙ length-drop h.0 a in
    omega (arith, long, h.1, h.2)

pub term_shorter : {g : Sig} {t : Tree} {a b : List Word} → IsTerm g t a b → length b < length a
term_shorter r = shorter (term_end r)

pub list_shorter : {g : Sig} {ts : List Tree} {a b : List Word} → IsList g ts a b → length b < length a
list_shorter r = shorter (list_end r)

pub fact_shorter : {g : Sig} {f : Fact} {a b : List Word} → IsFact g f a b → length b < length a
fact_shorter r = shorter (fact_end r)

-- the number of the token that the rest begins with
pub place : (z : List ℕ) (ts rest : List Token) (at : ℕ) → IsEnd (words_of z (drop at ts)) (words_of z rest)
    → (length rest ≤ length ts) × (words_of z rest ≡ drop (length ts - length rest) (words_of z ts))
place z ts rest at h =
    let ws = words_of z ts in
    let here : words_of z rest ≡ drop (at + h.0) ws = h.3 ∙ (ap (λ (y : List Word). drop h.0 y) (words-drop z at ts) ∙ drop-drop h.0 at ws) in
    let long : length (words_of z rest) ≡ length ws - (at + h.0) = ap (λ (y : List Word). length y) here ∙ length-drop (at + h.0) ws in
    let all : length (words_of z (drop at ts)) ≡ length ws - at = ap (λ (y : List Word). length y) (words-drop z at ts) ∙ length-drop at ws in
    let number : at + h.0 ≡ length ts - length rest = omega (arith, long, all, h.1, h.2, length-words z rest, length-words z ts) in
    (omega (arith, long, length-words z rest, length-words z ts), rw number at here)

-- two numbers of the same words
pub one_number : (ws : List Word) (e k : ℕ) → e ≤ length ws → k ≤ length ws → drop e ws ≡ drop k ws → e ≡ k
one_number ws e k le lt same =
    let long : length ws - e ≡ length ws - k = sym (length-drop e ws) ∙ (ap (λ (y : List Word). length y) same ∙ length-drop k ws) in
    omega (arith, long, le, lt)
