-- What a shelf is asked for, and which requests came between.
use Rattle.std.specs.Prelude.{◌≡◌, ℕ, List, ◌∷◌, ◌++◌, replicate, Option, None, Some}
use Rattle.sap_outside.specs.Outside.{piece_bytes}

-- for the first bytes of the file of this name, one more than the limit at most; to open the file of this name; for so many bytes at
-- most of the file that is open
pub data Request : Type 0 where
  fetch : (name : List ℕ) (limit : ℕ) → Request
  begin : (name : List ℕ) → Request
  next : (most : ℕ) → Request

-- These requests were made between, where the list of all is told before and after. Who doesn't tell it before doesn't tell it after.
abbrev pub Requested : List Request → Option (List Request) → Option (List Request) → Type 0
Requested made None after = after ≡ None
Requested made (Some before) None = Unit {0}
Requested made (Some before) (Some after) = after ≡ before ++ made

-- to open the run of this name, and then for so many pieces of it
abbrev pub for_run : List ℕ → ℕ → List Request
for_run name nexts = begin name ∷ replicate nexts (next piece_bytes)
