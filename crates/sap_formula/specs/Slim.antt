-- A formula without binders that a later binder of the same quantifier hides.
use Rattle.std.specs.Prelude.{ℕ, Bool, List, [], ◌∷◌, if◌then◌else◌}
use Rattle.std.specs.List.{list_any}
use Rattle.std.specs.Str.{bytes_eq}
use Rattle.sap_formula.specs.Form.{Form, action, both, earlier, either, equal, equivalent, every, exists, falsity, implies, negation, same_time, truth}
use Rattle.sap_formula.specs.declared.binder.Binder.{Binder}
use Rattle.sap_formula.specs.Checked.{binder_name}

-- one of these binders has the name
abbrev pub binds : List Binder → List ℕ → Bool
binds bs n = list_any (λ b. bytes_eq (binder_name b) n) bs

-- the last binder of each name
abbrev pub lasts : List Binder → List Binder
lasts [] = []
lasts (b ∷ bs) = if binds bs (binder_name b) then lasts bs else b ∷ lasts bs

-- the formula with those alone
abbrev pub slim : Form → Form
slim truth = truth
slim falsity = falsity
slim (action f i) = action f i
slim (equal s t) = equal s t
slim (same_time i j) = same_time i j
slim (earlier i j) = earlier i j
slim (negation f) = negation (slim f)
slim (both f g) = both (slim f) (slim g)
slim (either f g) = either (slim f) (slim g)
slim (implies f g) = implies (slim f) (slim g)
slim (equivalent f g) = equivalent (slim f) (slim g)
slim (every bs f) = every (lasts bs) (slim f)
slim (exists bs f) = exists (lasts bs) (slim f)
