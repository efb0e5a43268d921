-- The stretches of the words whose flags are set.
use Rattle.std.specs.Prelude.{ℕ, suc, Bool, List, [], ◌∷◌, if◌then◌else◌}
use Rattle.sap_text.specs.declared.token.Token.{Token}
use Rattle.sap_stretches.specs.Stretches.{stretch_at}
use Rattle.sap_stretches.specs.declared.stretch.Stretch.{Stretch}

-- from the word of this number on
abbrev pub flagged : List Token → ℕ → List Bool → List Stretch
flagged ts k [] = []
flagged ts k (f ∷ fs) = if f then stretch_at ts k ∷ flagged ts (suc k) fs else flagged ts (suc k) fs
