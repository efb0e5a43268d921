-- Chains of formulas that are joined by `&`, leftmost first.
use Rattle.std.specs.Prelude.{ℕ, List, [], ◌∷◌, ◌++◌, codes}
use Rattle.sap_formula.specs.Form.{Form, both}
use Rattle.sap_formula_text.specs.FormulaText.{formula_text}

-- the formula with each of these behind it, the last of them first
abbrev pub chained : Form → List Form → Form
chained f [] = f
chained f (g ∷ gs) = both (chained f gs) g

-- what is written behind the first of them
abbrev pub behind_text : List Form → List ℕ
behind_text [] = []
behind_text (g ∷ gs) = behind_text gs ++ (codes " & " ++ formula_text 5 g)
