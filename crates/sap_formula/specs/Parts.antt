-- The parts of a formula at which a fault can stand, in reading order.
use Rattle.std.specs.Prelude.{ℕ, List, [], ◌∷◌, ◌++◌, length, map}
use Rattle.sap_formula.specs.Form.{Form, action, both, earlier, either, equal, equivalent, every, exists, falsity, implies, negation, same_time, truth}
use Rattle.sap_formula.specs.declared.binder.Binder.{Binder}
use Rattle.sap_terms.specs.Tree.{Tree, Trees, apply, fresh, list_of, more, none, public, trees_of, variable}
use Rattle.sap_terms.specs.declared.var.Var.{Var}
use Rattle.sap_formula.specs.Checked.{binder_name, enter, premise}

-- one part
pub data Part : Type 0 where
  -- a symbol, applied to this many terms
  symbol : List ℕ → ℕ → Part
  -- the name of a fact
  fact_name : List ℕ → Part
  -- a message variable's occurrence, with the binders round it
  message : List Binder → Var → Part
  -- a time variable's occurrence, with the binders round it
  time : List Binder → List ℕ → Part
  -- a variable of a quantifier, with the formula where its guards are looked for
  bound : Form → Binder → Part

-- the name that a fault there tells
abbrev pub part_name : Part → List ℕ
part_name (symbol f n) = f
part_name (fact_name n) = n
part_name (message scope v) = v.name
part_name (time scope n) = n
part_name (bound f b) = binder_name b

abbrev mutual
  -- those of a term: a symbol stands before its terms
  pub term_parts : List Binder → Tree → List Part
  term_parts scope (variable v) = message scope v ∷ []
  term_parts scope (public n) = []
  term_parts scope (fresh k) = []
  term_parts scope (apply f ts) = symbol f (length (list_of ts)) ∷ terms_parts scope ts

  -- those of these, one after another
  pub terms_parts : List Binder → Trees → List Part
  terms_parts scope none = []
  terms_parts scope (more t ts) = term_parts scope t ++ terms_parts scope ts

-- those of a formula inside these binders: the name of a fact, its arguments, its time; a quantifier's variables, its body
abbrev pub form_parts : List Binder → Form → List Part
form_parts scope truth = []
form_parts scope falsity = []
form_parts scope (action f i) = fact_name f.name
    ∷ (terms_parts scope (trees_of f.args) ++ time scope i ∷ [])
form_parts scope (equal s t) = term_parts scope s ++ term_parts scope t
form_parts scope (same_time i j) = time scope i ∷ time scope j ∷ []
form_parts scope (earlier i j) = time scope i ∷ time scope j ∷ []
form_parts scope (negation f) = form_parts scope f
form_parts scope (both f g) = form_parts scope f ++ form_parts scope g
form_parts scope (either f g) = form_parts scope f ++ form_parts scope g
form_parts scope (implies f g) = form_parts scope f ++ form_parts scope g
form_parts scope (equivalent f g) = form_parts scope f ++ form_parts scope g
form_parts scope (every bs f) = map (bound (premise f)) bs ++ form_parts (enter bs scope) f
form_parts scope (exists bs f) = map (bound f) bs ++ form_parts (enter bs scope) f
