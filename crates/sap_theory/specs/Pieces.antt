-- Lines of pieces.
use Rattle.std.specs.Prelude.{ℕ, Bool, codes, List, [], ◌∷◌, ◌++◌, if◌then◌else◌}
use Rattle.sap_grammar.specs.Pieces.{joined}

-- a line of pieces behind its heading; no line where there is no piece
abbrev pub line_of : List ℕ → List (List ℕ) → List ℕ
line_of heading [] = []
line_of heading (piece ∷ pieces) = heading ++ (joined (codes ", ") (piece ∷ pieces) ++ codes "\n")

-- what stands before a piece of a line: its heading, or a comma
abbrev pub lead : Bool → List ℕ → List ℕ
lead is_first heading = if is_first then heading else codes ", "
