-- Over what the time variables of formulas range.
use Rattle.std.specs.Prelude.{ℕ, ◌<◌, length}
use Rattle.sap_terms.specs.Trace.{Trace}

-- the number of a time
abbrev pub IsTime : Trace → ℕ → Type 0
IsTime tr k = k < length tr
