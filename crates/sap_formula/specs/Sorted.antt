-- A formula whose message variables have the sorts of their binders.
use Rattle.std.specs.Prelude.{List, Option, Some, None}
use Rattle.sap_formula.specs.Form.{Form, action, both, earlier, either, equal, equivalent, every, exists, falsity, implies, negation, same_time, truth}
use Rattle.sap_formula.specs.declared.binder.Binder.{Binder}
use Rattle.sap_formula.specs.declared.binder.Binder.TheVariants.{Message, Time}
use Rattle.sap_terms.specs.Choice.{Choice, instance}
use Rattle.sap_terms.specs.Modulo.{instance_fact}
use Rattle.sap_terms.specs.declared.var.Var.{Var}
use Rattle.sap_terms.specs.Tree.{variable}
use Rattle.sap_formula.specs.Checked.{enter, find_binder}

-- the variable with the sort of this binder, where it binds a message
abbrev pub sorted_as : Option Binder → Var → Var
sorted_as None v = v
sorted_as (Some (Time n)) v = v
sorted_as (Some (Message b)) v = record { name = v.name; sort = b.sort }

-- each variable with the sort of its innermost binder
abbrev pub by_binder : List Binder → Choice
by_binder scope v = variable (sorted_as (find_binder scope v.name) v)

-- inside these binders, the formula with the sorts of binders
abbrev pub with_sorts : List Binder → Form → Form
with_sorts scope truth = truth
with_sorts scope falsity = falsity
with_sorts scope (action f i) = action (instance_fact (by_binder scope) f) i
with_sorts scope (equal s t) = equal (instance (by_binder scope) s) (instance (by_binder scope) t)
with_sorts scope (same_time i j) = same_time i j
with_sorts scope (earlier i j) = earlier i j
with_sorts scope (negation f) = negation (with_sorts scope f)
with_sorts scope (both f g) = both (with_sorts scope f) (with_sorts scope g)
with_sorts scope (either f g) = either (with_sorts scope f) (with_sorts scope g)
with_sorts scope (implies f g) = implies (with_sorts scope f) (with_sorts scope g)
with_sorts scope (equivalent f g) = equivalent (with_sorts scope f) (with_sorts scope g)
with_sorts scope (every bs f) = every bs (with_sorts (enter bs scope) f)
with_sorts scope (exists bs f) = exists bs (with_sorts (enter bs scope) f)
