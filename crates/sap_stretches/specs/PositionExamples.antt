-- Small files, and what is shown of their places.
use Rattle.std.specs.Prelude.{ℕ, codes, decimal, List, [], ◌∷◌, ◌++◌}
use Rattle.sap_stretches.specs.declared.position.Position.{Position}

-- two lines, the second without a line feed
abbrev pub two_lines : List ℕ
two_lines = 97 ∷ 98 ∷ 10 ∷ 99 ∷ 100 ∷ []

abbrev pub at : (line column : ℕ) → Position
at line column = record { line = line; column = column }

-- what is shown of its second line
abbrev pub second_line : List ℕ
second_line = codes "line " ++ decimal 2 ++ codes ", column " ++ decimal 1 ++ codes "\n" ++ codes "cd\n^^\n"

-- and of the second byte in that
abbrev pub second_byte : List ℕ
second_byte = codes "line " ++ decimal 2 ++ codes ", column " ++ decimal 2 ++ codes "\n" ++ codes "cd\n ^\n"
