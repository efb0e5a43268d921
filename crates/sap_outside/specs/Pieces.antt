-- Texts that are put in pieces.
use Rattle.std.specs.Prelude.{◌≤◌, ◌<◌, ◌*◌, ◌+◌, ℕ, suc, List, length, take}
use Rattle.std.specs.Int.{div_ceil}
use Rattle.sap_outside.specs.Stream.{Stream, Gained}
use Rattle.sap_outside.specs.Outside.{piece_bytes}

-- how many pieces a text has
abbrev pub pieces : List ℕ → ℕ
pieces text = div_ceil (length text) piece_bytes

-- some pieces were put whole, and the put of the next one was cut short: together they appended so many first bytes of the text
pub record GainedPart (s : Stream) (taken : ℕ) (text : List ℕ) : Type 0 where
  pub whole : ℕ
  pub next : whole < pieces text
  pub behind : whole * piece_bytes ≤ taken
  pub within : taken ≤ whole * piece_bytes + piece_bytes
  pub gained : Gained s (suc whole) (take taken text)
