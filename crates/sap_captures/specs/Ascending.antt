-- Stretches in the order of the file.
use Rattle.std.specs.Prelude.{◌<◌, ℕ, List, [], ◌∷◌, ⊤}
use Rattle.sap_stretches.specs.declared.stretch.Stretch.{Stretch}

-- each begins behind the beginning of the one before it, and the first behind this
abbrev pub AreBehind : ℕ → List Stretch → Type 0
AreBehind n [] = ⊤
AreBehind n (t ∷ ts) = (n < t.from) × AreBehind t.from ts

-- in the order of the file, each once
abbrev pub AreAscending : List Stretch → Type 0
AreAscending [] = ⊤
AreAscending (t ∷ ts) = AreBehind t.from ts
