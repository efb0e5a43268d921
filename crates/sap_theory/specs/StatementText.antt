-- How restrictions and lemmas are written.
use Rattle.std.specs.Prelude.{ℕ, codes, List, [], ◌∷◌, ◌++◌}
use Rattle.std.specs.List.{flat_map}
use Rattle.sap_formula.specs.Form.{Form, RestrictionForm, LemmaForm}
use Rattle.sap_formula.specs.declared.lemma.Mode.{Mode}
use Rattle.sap_formula.specs.declared.lemma.Mode.TheVariants.{AllTraces, ExistsTrace}
use Rattle.sap_grammar.specs.Pieces.{joined}
use Rattle.sap_formula_text.specs.FormulaText.{formula_text}

-- a line of the whole formula
abbrev pub quoted : Form → List ℕ
quoted f = codes "  \"" ++ (formula_text 0 f ++ codes "\"\n")

-- a blank line, the line of the name, and the line of the formula
abbrev pub restriction_text : RestrictionForm → List ℕ
restriction_text r = codes "\nrestriction " ++ (r.name ++ (codes ":\n" ++ quoted r.formula))

-- one behind the other
abbrev pub restrictions_text : List RestrictionForm → List ℕ
restrictions_text rs = flat_map restriction_text rs

-- a lemma's attributes, behind its name
abbrev pub attributes_text : List (List ℕ) → List ℕ
attributes_text [] = []
attributes_text (name ∷ names) = codes " [" ++ (joined (codes ", ") (name ∷ names) ++ codes "]")

-- the word of a mode
abbrev pub mode_text : Mode → List ℕ
mode_text AllTraces = codes "all-traces"
mode_text ExistsTrace = codes "exists-trace"

-- a blank line, the line of the name and the attributes, the line of the mode, and the line of the formula
abbrev pub lemma_text : LemmaForm → List ℕ
lemma_text l = codes "\nlemma "
    ++ (l.name ++ (attributes_text l.attributes ++ (codes ":\n  " ++ (mode_text l.mode ++ (codes "\n" ++ quoted l.formula)))))

-- one behind the other
abbrev pub lemmas_text : List LemmaForm → List ℕ
lemmas_text ls = flat_map lemma_text ls
