-- How formulas are written.
use Rattle.std.specs.Prelude.{ℕ, nat_lt, if◌then◌else◌, codes, List, ◌++◌}
use Rattle.std.specs.List.{flat_map}
use Rattle.sap_formula.specs.Form.{Form, truth, falsity, action, equal, same_time, earlier, negation, both, either, implies, equivalent, every, exists}
use Rattle.sap_formula.specs.declared.binder.Binder.{Binder}
use Rattle.sap_formula.specs.declared.binder.Binder.TheVariants.{Message, Time}
use Rattle.sap_grammar.specs.TermText.{tree_text, variable_text}
use Rattle.sap_grammar.specs.FactText.{fact_text}

-- how strongly a formula holds its parts together: a quantifier least, an atom that is written without blanks most
abbrev pub strength : Form → ℕ
strength truth = 6
strength falsity = 6
strength (action f i) = 6
strength (equal s t) = 5
strength (same_time i j) = 5
strength (earlier i j) = 5
strength (negation f) = 5
strength (both f g) = 4
strength (either f g) = 3
strength (implies f g) = 2
strength (equivalent f g) = 1
strength (every bs f) = 0
strength (exists bs f) = 0

-- the formula's text, in parentheses where its place asks for more strength than it has
abbrev pub in_place : ℕ → Form → List ℕ → List ℕ
in_place asked f text = if nat_lt (strength f) asked then codes "(" ++ (text ++ codes ")") else text

-- a bound variable
abbrev pub binder_text : Binder → List ℕ
binder_text (Message v) = variable_text v
binder_text (Time i) = codes "#" ++ i

-- bound variables, each behind a blank
abbrev pub binders_text : List Binder → List ℕ
binders_text bs = flat_map (λ (b : Binder). codes " " ++ binder_text b) bs

-- two time variables with a sign between them
abbrev pub places_text : List ℕ → List ℕ → List ℕ → List ℕ
places_text i sign j = codes "#" ++ (i ++ (sign ++ (codes "#" ++ j)))

-- a formula in a place that asks for so much strength: the whole and a quantifier's body ask for none
abbrev pub formula_text : ℕ → Form → List ℕ
formula_text asked truth = in_place asked truth (codes "T")
formula_text asked falsity = in_place asked falsity (codes "F")
formula_text asked (action f i) = in_place asked (action f i) (fact_text f ++ (codes "@" ++ i))
formula_text asked (equal s t) =
    in_place asked (equal s t) (tree_text s ++ (codes " = " ++ tree_text t))
formula_text asked (same_time i j) = in_place asked (same_time i j) (places_text i (codes " = ") j)
formula_text asked (earlier i j) = in_place asked (earlier i j) (places_text i (codes " < ") j)
formula_text asked (negation f) = in_place asked (negation f) (codes "not " ++ formula_text 6 f)
formula_text asked (both f g) =
    in_place asked (both f g) (formula_text 4 f ++ (codes " & " ++ formula_text 5 g))
formula_text asked (either f g) =
    in_place asked (either f g) (formula_text 3 f ++ (codes " | " ++ formula_text 4 g))
formula_text asked (implies f g) =
    in_place asked (implies f g) (formula_text 3 f ++ (codes " ==> " ++ formula_text 2 g))
formula_text asked (equivalent f g) =
    in_place asked (equivalent f g) (formula_text 2 f ++ (codes " <=> " ++ formula_text 2 g))
formula_text asked (every bs f) =
    in_place asked (every bs f)
    (codes "All" ++ (binders_text bs ++ (codes ". " ++ formula_text 0 f)))
formula_text asked (exists bs f) =
    in_place asked (exists bs f)
    (codes "Ex" ++ (binders_text bs ++ (codes ". " ++ formula_text 0 f)))
