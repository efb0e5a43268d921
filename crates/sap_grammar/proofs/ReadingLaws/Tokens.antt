-- The words of tokens.
use Rattle.std.proofs.Common.{◌≡◌, ℕ, List, [], ◌∷◌, drop, length, refl, sym, ap}
use Rattle.std.proofs.lemmas.List.{drop-map, length-map}
use Rattle.sap_text.specs.declared.token.Token.{Token}
use Rattle.sap_grammar.specs.Words.{Word, word_of, words_of}
use Rattle.sap_grammar.specs.Cut.{placed, words}

-- the words of the tokens behind the first n
pub words-drop : (z : List ℕ) (n : ℕ) (ts : List Token) → words_of z (drop n ts) ≡ drop n (words_of z ts)
words-drop z n ts = sym (drop-map (word_of z) n ts)

pub length-words : (z : List ℕ) (ts : List Token) → length (words_of z ts) ≡ length ts
length-words z ts = length-map ts (word_of z)

-- no words, no tokens
pub no_words : (z : List ℕ) (ts : List Token) → words_of z ts ≡ [] → ts ≡ []
no_words z [] e = refl
no_words z (t ∷ ts) e = absurd (cc (e))

-- the words of tokens, with their lines or without
pub words_placed : (z : List ℕ) (ts : List Token) → words (placed z ts) ≡ words_of z ts
words_placed z [] = refl
words_placed z (t ∷ ts) = ap (λ (ws : List Word). word_of z t ∷ ws) (words_placed z ts)

pub ruleset word_steps = (words-drop)
