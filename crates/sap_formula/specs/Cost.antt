-- What judging a formula costs.
use Rattle.std.specs.Prelude.{ℕ, ◌+◌, ◌*◌, List, [], ◌∷◌, if◌then◌else◌}
use Rattle.std.specs.Str.{bytes_eq}
use Rattle.sap_formula.specs.Form.{Form, action, both, earlier, either, equal, equivalent, every, exists, falsity, implies, negation, same_time, truth}
use Rattle.sap_terms.specs.Trace.{Trace}
use Rattle.sap_terms.specs.declared.fact.Fact.{Fact}
use Rattle.sap_formula.specs.Checked.{premise}

-- how many facts of this name the time has
abbrev pub time_facts : List ℕ → List Fact → ℕ
time_facts n [] = 0
time_facts n (f ∷ p) = (if bytes_eq f.name n then 1 else 0) + time_facts n p

-- how many the trace has
abbrev pub trace_facts : List ℕ → Trace → ℕ
trace_facts n [] = 0
trace_facts n (p ∷ tr) = time_facts n p + trace_facts n tr

-- the product over the guard atoms
abbrev pub tuples : Trace → Form → ℕ
tuples tr (both f g) = tuples tr f * tuples tr g
tuples tr (action f i) = trace_facts f.name tr
tuples tr truth = 1
tuples tr falsity = 1
tuples tr (equal s t) = 1
tuples tr (same_time i j) = 1
tuples tr (earlier i j) = 1
tuples tr (negation f) = 1
tuples tr (either f g) = 1
tuples tr (implies f g) = 1
tuples tr (equivalent f g) = 1
tuples tr (every bs f) = 1
tuples tr (exists bs f) = 1

-- an atom costs 1; a quantifier as often what is under it and 1 as its guards have tuples of facts
abbrev pub form_cost : Trace → Form → ℕ
form_cost tr truth = 1
form_cost tr falsity = 1
form_cost tr (action f i) = 1
form_cost tr (equal s t) = 1
form_cost tr (same_time i j) = 1
form_cost tr (earlier i j) = 1
form_cost tr (negation f) = form_cost tr f
form_cost tr (both f g) = form_cost tr f + form_cost tr g
form_cost tr (either f g) = form_cost tr f + form_cost tr g
form_cost tr (implies f g) = form_cost tr f + form_cost tr g
form_cost tr (equivalent f g) = form_cost tr f + form_cost tr g
form_cost tr (every bs f) = tuples tr (premise f) * (1 + form_cost tr f)
form_cost tr (exists bs f) = tuples tr f * (1 + form_cost tr f)
