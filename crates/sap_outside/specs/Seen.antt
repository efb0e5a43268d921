-- What is seen of a shelf, and of a sink.
use Rattle.std.specs.Prelude.{ℕ, List, Option}
use Rattle.sap_outside.specs.Outside.{Files}
use Rattle.sap_outside.specs.Requests.{Request}

-- of a shelf
pub record SeenShelf : Type 0 where
  -- what it holds, where it tells
  pub holds : Option Files
  -- for each name a count that rises each time its file fails, and may rise otherwise; it stops at the greatest u64
  pub faults : List ℕ → ℕ
  -- the list of what it was asked for, the first request first, where it tells that; it may stop to tell it, and doesn't begin anew
  pub asked : Option (List Request)
  -- the name of the file that is open, where one is
  pub opened : Option (List ℕ)
  -- the bytes of the open file that weren't given yet, where it tells
  pub rest : Option (List ℕ)

-- a shelf of which these are seen
abbrev pub seen_shelf : Option Files → (List ℕ → ℕ) → Option (List Request) → Option (List ℕ)
    → Option (List ℕ) → SeenShelf
seen_shelf holds faults asked opened rest = record {
  holds = holds;
  faults = faults;
  asked = asked;
  opened = opened;
  rest = rest;
}

-- of a sink
pub record SeenSink : Type 0 where
  -- what was written, where it tells
  pub written : Option (List ℕ)
  -- a count that rises each time it fails, and may rise otherwise; it stops at the greatest u64
  pub faults : ℕ
  -- a count that rises each time it finds no memory, and may rise otherwise; it stops at the greatest u64
  pub wants : ℕ
  -- how many puts of some bytes there were, where it tells; it stops at the greatest u64
  pub asked : Option ℕ

-- a sink of which these are seen
abbrev pub seen_sink : Option (List ℕ) → ℕ → ℕ → Option ℕ → SeenSink
seen_sink written faults wants asked = record {
  written = written;
  faults = faults;
  wants = wants;
  asked = asked;
}
