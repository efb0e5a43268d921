-- How bytes are parted into tokens, a header and items, where names have so many bytes at most.
use Rattle.std.specs.Prelude.{ℕ, List, Ok}
use Rattle.sap_text.specs.declared.token.Token.{Token}
use Rattle.sap_text.specs.Tokens.{IsLexed}
use Rattle.sap_grammar.specs.Cut.{Placed, placed, IsCut, IsHeader}

-- the bytes are these tokens
abbrev pub AreTokens : ℕ → List ℕ → List Token → Type 0
AreTokens most z ts = IsLexed most 0 1 z (Ok ts)

-- and have this header, and these items as they are cut
pub record IsParted (most : ℕ) (z : List ℕ) (ts : List Token) (x : List ℕ)
    (cut : List (List Placed)) : Type 0 where
  pub tokens : AreTokens most z ts
  pub rest : List Placed
  pub header : IsHeader x (placed z ts) rest
  pub items : IsCut rest cut
