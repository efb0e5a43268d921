-- The words of tokens.
use Rattle.std.proofs.Common.{◌≡◌, ℕ, zero, suc, List, [], ◌∷◌, drop, refl}
use Rattle.sap_text.specs.declared.token.Token.{Token}
use Rattle.sap_grammar.specs.Words.{words_of}

pub dropped : (z : List ℕ) (n : ℕ) (ts : List Token) → words_of z (drop n ts) ≡ drop n (words_of z ts)
dropped z zero ts = refl
dropped z (suc n) [] = refl
dropped z (suc n) (t ∷ ts) = dropped z n ts
