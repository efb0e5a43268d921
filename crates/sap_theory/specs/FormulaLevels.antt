-- How many levels the printed text of a formula has.
use Rattle.std.specs.Prelude.{ℕ, ◌+◌, max, nat_lt, if◌then◌else◌}
use Rattle.sap_formula.specs.Form.{Form, truth, falsity, action, equal, same_time, earlier, negation, both, either, implies, equivalent, every, exists}
use Rattle.sap_formula_text.specs.FormulaText.{strength}

-- one level more where parentheses stand, since the place asks for more strength than the formula has
abbrev pub levels_in_place : ℕ → Form → ℕ → ℕ
levels_in_place asked f n = if nat_lt (strength f) asked then n + 1 else n

-- the levels of the text in a place that asks for so much strength: an atom has one, and parentheses count
abbrev pub text_levels : ℕ → Form → ℕ
text_levels asked truth = levels_in_place asked truth 1
text_levels asked falsity = levels_in_place asked falsity 1
text_levels asked (action f i) = levels_in_place asked (action f i) 1
text_levels asked (equal s t) = levels_in_place asked (equal s t) 1
text_levels asked (same_time i j) = levels_in_place asked (same_time i j) 1
text_levels asked (earlier i j) = levels_in_place asked (earlier i j) 1
text_levels asked (negation f) = levels_in_place asked (negation f) (text_levels 6 f + 1)
text_levels asked (both f g) = levels_in_place asked (both f g) (max (text_levels 4 f) (text_levels 5 g) + 1)
text_levels asked (either f g) = levels_in_place asked (either f g) (max (text_levels 3 f) (text_levels 4 g) + 1)
text_levels asked (implies f g) = levels_in_place asked (implies f g) (max (text_levels 3 f) (text_levels 2 g) + 1)
text_levels asked (equivalent f g) = levels_in_place asked (equivalent f g) (max (text_levels 2 f) (text_levels 2 g) + 1)
text_levels asked (every bs f) = levels_in_place asked (every bs f) (text_levels 0 f + 1)
text_levels asked (exists bs f) = levels_in_place asked (exists bs f) (text_levels 0 f + 1)
