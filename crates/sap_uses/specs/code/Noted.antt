-- Names that are noted.
use Rattle.std.specs.Prelude.{◌≡◌, ◌||◌, ℕ, List}
use Rattle.std.specs.List.{list_any}
use Rattle.std.specs.Str.{bytes_eq}

-- to the noted names this one came
abbrev pub AreNoted : List (List ℕ) → List (List ℕ) → List ℕ → Type 0
AreNoted old new n =
    (x : List ℕ) → list_any (bytes_eq x) new ≡ (bytes_eq n x || list_any (bytes_eq x) old)
