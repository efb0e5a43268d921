-- Which words are at some tokens.
use Rattle.std.specs.Prelude.{ℕ, Bool, List, drop, is_some}
use Rattle.sap_text.specs.declared.token.Token.{Token}
use Rattle.sap_grammar.specs.Words.{words_of, starts}
use Rattle.sap_grammar.specs.Reading.{name_at}

-- token number k is this symbol or reserved word; it is a name
abbrev pub stands : List ℕ → List Token → List ℕ → ℕ → Bool
stands z ts m k = starts m (words_of z (drop k ts))

abbrev pub is_named : List ℕ → List Token → ℕ → Bool
is_named z ts k = is_some (name_at (words_of z (drop k ts)))
