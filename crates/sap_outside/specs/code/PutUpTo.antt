-- How far a text was put in pieces.
use Rattle.std.specs.Prelude.{◌≡◌, ◌≤◌, ◌<◌, ◌+◌, ◌*◌, ℕ, List, length, take, Option}
use Rattle.std.specs.Io.KnownBytes.{Appends}
use Rattle.sap_outside.specs.Outside.{piece_bytes, more}

-- the text was put up to this byte: so many pieces, each as long as a piece may be but the last of the text; of a sink what it told
-- before and after, and how often it was asked
pub record IsPutUpTo (before after : Option (List ℕ)) (asked_before asked_after : Option ℕ) (text : List ℕ) (at : ℕ) : Type 0 where
  pub puts : ℕ
  pub within : at ≤ length text
  pub above : at ≤ puts * piece_bytes
  pub below : puts * piece_bytes < at + piece_bytes
  pub whole : at < length text → at ≡ puts * piece_bytes
  pub gained : Appends before after (take at text)
  pub asked : asked_after ≡ more puts asked_before
