-- Slots with facts of numbers, of which linear ones are emptied.
use Rattle.std.specs.Prelude.{ℕ, List, Option, Some, None, slice_get, slice_set, unwrap_or, if◌then◌else◌}
use Rattle.std.specs.List.{filter_map, fold}
use Rattle.sap_sides.specs.declared.shared_fact.SharedFact.{SharedFact}

-- the fact at this number, unless none has it or it was taken
abbrev pub held_at : List (Option SharedFact) → ℕ → Option SharedFact
held_at slots k = unwrap_or (slice_get slots k) None

-- those at these numbers
abbrev pub held_each : List (Option SharedFact) → List ℕ → List SharedFact
held_each slots ks = filter_map (held_at slots) ks

-- the slots, where a linear fact of this number is taken
abbrev pub cleared : List (Option SharedFact) → ℕ → List (Option SharedFact)
cleared slots k = without (held_at slots k) where
  without : Option SharedFact → List (Option SharedFact)
  without None = slots
  without (Some s) = if s.persistent then slots else slice_set slots k None

-- where those of these numbers are, one after another
abbrev pub cleared_each : List (Option SharedFact) → List ℕ → List (Option SharedFact)
cleared_each slots ks = fold cleared slots ks
