-- What a walk past nodes comes to.
use Rattle.std.specs.Prelude.{◌≡◌, ℕ, ◌+◌, List, length, slice_get, Some, Result, Ok, Err}
use Rattle.std.specs.Borrow.{Bor}
use Rattle.sap_text.specs.declared.token.Token.{Token}
use Rattle.sap_grammar.specs.Words.{Word, words_of}

-- of nodes with these numbers the number of that at this index; or all of them are before that one, and so many more, and these words
-- are behind
abbrev pub IsPast : List ℕ → List ℕ → ℕ → List Word → Result (ℕ × Bor (List Token)) ℕ → Type 0
IsPast bytes ns k b (Err n) = slice_get ns k ≡ Some n
IsPast bytes ns k b (Ok p) = (p.0 + length ns ≡ k) × (words_of bytes p.1.now ≡ b)
