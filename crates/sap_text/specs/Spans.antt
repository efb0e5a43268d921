-- Spans of tokens, and the bytes in them.
use Rattle.std.specs.Prelude.{◌≤◌, ◌<◌, ℕ, ◌-◌, List, [], ◌∷◌, take, drop, Ok}
use Rattle.sap_text.specs.declared.token.Token.{Token}
use Rattle.sap_text.specs.Tokens.{IsLexed}

-- none empty, none over another, all from this place up to this end
abbrev pub InOrder : ℕ → ℕ → List Token → Type 0
InOrder at end [] = at ≤ end
InOrder at end (t ∷ ts) = (at ≤ t.from) × (t.from < t.to) × InOrder t.to end ts

-- not empty, and inside bytes of this length
abbrev pub IsWithin : ℕ → Token → Type 0
IsWithin size t = (t.from < t.to) × (t.to ≤ size)

-- the bytes of a token
abbrev pub text_of : List ℕ → Token → List ℕ
text_of z t = take (t.to - t.from) (drop t.from z)

-- these are the tokens of the bytes, for some limit of names
abbrev pub AreTokens : List ℕ → List Token → Type 0
AreTokens z ts = (most : ℕ) × IsLexed most 0 1 z (Ok ts)
