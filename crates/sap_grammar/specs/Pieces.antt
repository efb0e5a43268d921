-- Pieces of text side by side.
use Rattle.std.specs.Prelude.{ℕ, zero, suc, List, [], ◌∷◌, ◌++◌}

-- the pieces with a separator between them
abbrev pub joined : List ℕ → List (List ℕ) → List ℕ
joined separator [] = []
joined separator (piece ∷ []) = piece
joined separator (piece ∷ next ∷ pieces) = piece ++ (separator ++ joined separator (next ∷ pieces))

-- what stands before a piece: the separator, but not before the first
abbrev pub separator_before : ℕ → List ℕ → List ℕ
separator_before zero separator = []
separator_before (suc k) separator = separator
