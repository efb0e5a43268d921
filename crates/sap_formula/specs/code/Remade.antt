-- Formulas made anew, as the code makes them.
use Rattle.std.specs.Prelude.{ℕ, List}
use Rattle.sap_formula.specs.Checked.{enter}
use Rattle.sap_formula.specs.Form.{Form, action, both, earlier, either, equal, equivalent, every, exists, falsity, implies, negation, same_time, truth}
use Rattle.sap_formula.specs.Sorted.{by_binder}
use Rattle.sap_formula.specs.declared.binder.Binder.{Binder}
use Rattle.sap_formula.specs.declared.remaking.How.{How}
use Rattle.sap_formula.specs.declared.remaking.How.TheVariants.{Same, Sorted}
use Rattle.sap_terms.specs.Choice.{instance}
use Rattle.sap_terms.specs.Modulo.{instance_fact}

-- the connective of a formula between two others
abbrev pub joined : Form → Form → Form → Form
joined (both a b) f g = both f g
joined (either a b) f g = either f g
joined (implies a b) f g = implies f g
joined _ f g = equivalent f g

-- its quantifier over a body
abbrev pub quantified : Form → List Binder → Form → Form
quantified (every bs a) xs f = every xs f
quantified _ xs f = exists xs f

-- its relation between two times
abbrev pub timed : Form → List ℕ → List ℕ → Form
timed (same_time a b) i j = same_time i j
timed _ i j = earlier i j

-- the binders whose sorts count below a quantifier
abbrev pub entered : How → List Binder → List Binder → List Binder
entered Sorted bs scope = enter bs scope
entered Same bs scope = scope

-- the formula made anew, inside these binders
abbrev pub remade : How → List Binder → Form → Form
remade w scope truth = truth
remade w scope falsity = falsity
remade w scope (action f i) = action (instance_fact (by_binder scope) f) i
remade w scope (equal s t) = equal (instance (by_binder scope) s) (instance (by_binder scope) t)
remade w scope (same_time i j) = same_time i j
remade w scope (earlier i j) = earlier i j
remade w scope (negation f) = negation (remade w scope f)
remade w scope (both f g) = both (remade w scope f) (remade w scope g)
remade w scope (either f g) = either (remade w scope f) (remade w scope g)
remade w scope (implies f g) = implies (remade w scope f) (remade w scope g)
remade w scope (equivalent f g) = equivalent (remade w scope f) (remade w scope g)
remade w scope (every bs f) = every bs (remade w (entered w bs scope) f)
remade w scope (exists bs f) = exists bs (remade w (entered w bs scope) f)
