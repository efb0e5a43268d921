-- Down along a path to a place and what is in scope there, as the code goes it.
use Rattle.std.specs.Prelude.{◌≡◌, ℕ, List, Option, Some, None, ⊤}
use Rattle.sap_terms.specs.declared.var.Var.{Var}
use Rattle.sap_process.specs.Places.{place, place_from}
use Rattle.sap_process.specs.Proc.{Proc}
use Rattle.sap_process.specs.Sites.{Site, above_of, scope_below}

-- at the place is this process, where these are in scope; or there is none
abbrev pub IsSite : Option Site → List Var → Option Proc → Type 0
IsSite None known None = ⊤
IsSite None known (Some p) = ⊥
IsSite (Some x) known None = ⊥
IsSite (Some x) known (Some p) = (x.above.scope ≡ known) × (x.body ≡ p)

-- these digits lead so to it from a process, wherever that stands, where these are in scope
abbrev pub ComesDown : List Var → Proc → List ℕ → List Var → Option Proc → Type 0
ComesDown known p path after o =
    (pre : List ℕ) (locks : ℕ) → IsSite (place_from scope_below (Some (place pre (above_of known locks) p)) path) after o
