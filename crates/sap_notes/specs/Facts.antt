-- The facts that formulas speak of, and those that processes show.
use Rattle.std.specs.Prelude.{ℕ, codes, decimal, List, [], ◌∷◌, ◌++◌, length, map}
use Rattle.sap_terms.specs.declared.fact.Fact.{Fact}
use Rattle.sap_process.specs.Action.{Action, new, out, send, input, receive, event, insert, delete, lock, unlock, embedded}
use Rattle.sap_process.specs.Proc.{Proc, nil, parallel, replicated, act, test, lookup}
use Rattle.sap_formula.specs.Form.{Form, truth, falsity, action, equal, same_time, earlier, negation, both, either, implies, equivalent, every, exists}

-- a fact by its name and how many arguments it has, as `F/2`; no name has a slash
abbrev pub by_arity : List ℕ → ℕ → List ℕ
by_arity x n = x ++ codes "/" ++ decimal n

abbrev pub fact_key : Fact → List ℕ
fact_key f = by_arity f.name (length f.args)

-- the facts of a formula, each where it stands
abbrev pub formula_facts : Form → List (List ℕ)
formula_facts truth = []
formula_facts falsity = []
formula_facts (action f i) = fact_key f ∷ []
formula_facts (equal s t) = []
formula_facts (same_time i j) = []
formula_facts (earlier i j) = []
formula_facts (negation f) = formula_facts f
formula_facts (both f g) = formula_facts f ++ formula_facts g
formula_facts (either f g) = formula_facts f ++ formula_facts g
formula_facts (implies f g) = formula_facts f ++ formula_facts g
formula_facts (equivalent f g) = formula_facts f ++ formula_facts g
formula_facts (every bs f) = formula_facts f
formula_facts (exists bs f) = formula_facts f

-- what an action shows of its own: an event, and what an embedded rule shows
abbrev pub action_shown : Action → List (List ℕ)
action_shown (new x) = []
action_shown (out t) = []
action_shown (send t u) = []
action_shown (input t) = []
action_shown (receive t u) = []
action_shown (event f) = fact_key f ∷ []
action_shown (insert t u) = []
action_shown (delete t) = []
action_shown (lock t n) = []
action_shown (unlock t n) = []
action_shown (embedded l e r) = map fact_key e

-- what the places of a process show
abbrev pub process_shown : Proc → List (List ℕ)
process_shown nil = []
process_shown (parallel p q) = process_shown p ++ process_shown q
process_shown (replicated p) = process_shown p
process_shown (act a p) = action_shown a ++ process_shown p
process_shown (test t u p q) = process_shown p ++ process_shown q
process_shown (lookup t x p q) = process_shown p ++ process_shown q

-- what is shown where a process runs: what its places show, and `K` of one term, which the adversary shows
abbrev pub all_shown : Proc → List (List ℕ)
all_shown p = by_arity (codes "K") 1 ∷ process_shown p
