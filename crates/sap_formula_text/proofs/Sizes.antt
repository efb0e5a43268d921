-- How large formulas are.
use Rattle.std.specs.Prelude.{ℕ, ◌+◌}
use Rattle.sap_formula.specs.Form.{Form, truth, falsity, action, equal, same_time, earlier, negation, both, either, implies, equivalent, every, exists}

-- how many connectives, quantifiers and atoms it has
abbrev pub form_size : Form → ℕ
form_size truth = 1
form_size falsity = 1
form_size (action f i) = 1
form_size (equal s t) = 1
form_size (same_time i j) = 1
form_size (earlier i j) = 1
form_size (negation f) = form_size f + 1
form_size (both f g) = form_size f + form_size g + 1
form_size (either f g) = form_size f + form_size g + 1
form_size (implies f g) = form_size f + form_size g + 1
form_size (equivalent f g) = form_size f + form_size g + 1
form_size (every bs f) = form_size f + 1
form_size (exists bs f) = form_size f + 1
