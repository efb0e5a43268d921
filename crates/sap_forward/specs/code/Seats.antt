-- The seats of threads.
use Rattle.std.specs.Prelude.{ℕ, List, Option, None, slice_get, unwrap_or}
use Rattle.sap_forward.specs.declared.seats.Seat.{Seat}

-- the seat of this thread, where it has one
abbrev pub seat_at : List (Option Seat) → ℕ → Option Seat
seat_at seats t = unwrap_or (slice_get seats t) None
