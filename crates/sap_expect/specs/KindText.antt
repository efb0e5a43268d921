-- How what may stand is put in words.
use Rattle.std.specs.Prelude.{ℕ, Bool, true, false, codes, List, [], ◌∷◌, ◌++◌}
use Rattle.sap_expect.specs.Kinds.{Kind, a_formula, a_name, a_process, a_term, a_zero, an_arity, an_item, capital_name, quoted_name, small_name, this_mark, this_name}

-- how a kind is put
abbrev pub kind_text : Kind → List ℕ
kind_text an_item = codes "an item"
kind_text a_process = codes "a process"
kind_text a_formula = codes "a formula"
kind_text a_term = codes "a term"
kind_text a_name = codes "a name"
kind_text small_name = codes "a name with a small letter first"
kind_text capital_name = codes "a name with a capital first"
kind_text quoted_name = codes "a name in quotes"
kind_text an_arity = codes "a number up to 64"
kind_text a_zero = codes "0"
kind_text (this_mark m) = m
kind_text (this_name x) = x

-- what stands before a kind that isn't the first: before the last, and before another
abbrev pub between : Bool → List ℕ
between true = codes " or "
between false = codes ", "

abbrev pub is_none : List Kind → Bool
is_none [] = true
is_none (k ∷ ks) = false

-- those behind the first
abbrev pub others_text : List Kind → List ℕ
others_text [] = []
others_text (k ∷ ks) = between (is_none ks) ++ (kind_text k ++ others_text ks)

-- all of them
abbrev pub wanted_text : List Kind → List ℕ
wanted_text [] = codes "Nothing may stand here"
wanted_text (k ∷ ks) = codes "Here may stand: " ++ (kind_text k ++ others_text ks)
