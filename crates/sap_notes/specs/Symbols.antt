-- Which symbols stand in the terms of what is written.
use Rattle.std.specs.Prelude.{ℕ, List, [], ◌∷◌, ◌++◌}
use Rattle.std.specs.List.{flat_map}
use Rattle.sap_terms.specs.Tree.{Tree, variable, public, fresh, apply, Trees, none, more, trees_of}
use Rattle.sap_terms.specs.declared.fact.Fact.{Fact}
use Rattle.sap_process.specs.Action.{Action, new, out, send, input, receive, event, insert, delete, lock, unlock, embedded}
use Rattle.sap_macro.specs.Written.{Written, nil, call, parallel, replicated, act, test, lookup, Definition}
use Rattle.sap_formula.specs.Form.{Form, truth, falsity, action, equal, same_time, earlier, negation, both, either, implies, equivalent, every, exists}

abbrev mutual
  -- the symbols of a term, each where it stands
  pub term_symbols : Tree → List (List ℕ)
  term_symbols (variable v) = []
  term_symbols (public n) = []
  term_symbols (fresh k) = []
  term_symbols (apply f ts) = f ∷ terms_symbols ts

  -- those of these terms, one after another
  pub terms_symbols : Trees → List (List ℕ)
  terms_symbols none = []
  terms_symbols (more t ts) = term_symbols t ++ terms_symbols ts

-- those of a fact's terms, and of these facts
abbrev pub fact_symbols : Fact → List (List ℕ)
fact_symbols f = terms_symbols (trees_of f.args)

abbrev pub facts_symbols : List Fact → List (List ℕ)
facts_symbols fs = flat_map fact_symbols fs

-- those of an action's terms
abbrev pub action_symbols : Action → List (List ℕ)
action_symbols (new x) = []
action_symbols (out t) = term_symbols t
action_symbols (send t u) = term_symbols t ++ term_symbols u
action_symbols (input t) = term_symbols t
action_symbols (receive t u) = term_symbols t ++ term_symbols u
action_symbols (event f) = fact_symbols f
action_symbols (insert t u) = term_symbols t ++ term_symbols u
action_symbols (delete t) = term_symbols t
action_symbols (lock t n) = term_symbols t
action_symbols (unlock t n) = term_symbols t
action_symbols (embedded l e r) = facts_symbols l ++ (facts_symbols e ++ facts_symbols r)

-- those of a process's terms, arguments of uses included
abbrev pub process_symbols : Written → List (List ℕ)
process_symbols nil = []
process_symbols (call f ts) = terms_symbols (trees_of ts)
process_symbols (parallel p q) = process_symbols p ++ process_symbols q
process_symbols (replicated p) = process_symbols p
process_symbols (act a p) = action_symbols a ++ process_symbols p
process_symbols (test t u p q) = term_symbols t ++ (term_symbols u ++ (process_symbols p ++ process_symbols q))
process_symbols (lookup t x p q) = term_symbols t ++ (process_symbols p ++ process_symbols q)

-- those of a definition's body
abbrev pub definition_symbols : Definition → List (List ℕ)
definition_symbols d = process_symbols d.body

-- those of a formula's terms
abbrev pub formula_symbols : Form → List (List ℕ)
formula_symbols truth = []
formula_symbols falsity = []
formula_symbols (action f i) = fact_symbols f
formula_symbols (equal s t) = term_symbols s ++ term_symbols t
formula_symbols (same_time i j) = []
formula_symbols (earlier i j) = []
formula_symbols (negation f) = formula_symbols f
formula_symbols (both f g) = formula_symbols f ++ formula_symbols g
formula_symbols (either f g) = formula_symbols f ++ formula_symbols g
formula_symbols (implies f g) = formula_symbols f ++ formula_symbols g
formula_symbols (equivalent f g) = formula_symbols f ++ formula_symbols g
formula_symbols (every bs f) = formula_symbols f
formula_symbols (exists bs f) = formula_symbols f
