-- The tokens of a file, as they are lent to those who tell places.
use Rattle.std.specs.Prelude.{◌≡◌, ℕ, List, length}
use Rattle.std.specs.List.{All}
use Rattle.sap_text.specs.Spans.{IsWithin}
use Rattle.sap_text.specs.declared.token.Token.{Token}
use Rattle.sap_read.specs.Files.{AreTokens}

-- the bytes are these tokens, each of which stands within them, and no others
pub record HasTokens (z : List ℕ) (ts : List Token) : Type 0 where
  pub are : AreTokens z ts
  pub within : All (IsWithin (length z)) ts
  pub only : (us : List Token) → AreTokens z us → us ≡ ts
