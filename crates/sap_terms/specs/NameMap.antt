-- Maps from names.
use Rattle.std.specs.Prelude.{◌≡◌, ℕ, List, [], Option, if◌then◌else◌}
use Rattle.std.specs.Map.{lookup}
use Rattle.std.specs.Option.{unwrap_or}
use Rattle.std.specs.Str.{bytes_eq}

-- the value of a name
abbrev pub value_at : {X : Type 0} → List (List ℕ × X) → List ℕ → Option X
value_at m n = lookup (bytes_eq n) m

-- the items of a name, none where it has no list
abbrev pub items_at : {X : Type 0} → List (List ℕ × List X) → List ℕ → List X
items_at m n = unwrap_or (value_at m n) []

-- the name has this value behind the change, or none, and each other name what it had
abbrev pub Puts : {X : Type 0} → List (List ℕ × X) → List (List ℕ × X) → List ℕ → Option X → Type 0
Puts old new n o = (k : List ℕ) → value_at new k ≡ (if bytes_eq n k then o else value_at old k)
