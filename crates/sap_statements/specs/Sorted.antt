-- The sorts that binders give to the variables of a formula that are written without sign.
use Rattle.std.specs.Prelude.{List, [], Option, Some, None}
use Rattle.sap_terms.specs.Choice.{Choice, instance}
use Rattle.sap_terms.specs.Modulo.{instance_fact}
use Rattle.sap_terms.specs.Tree.{variable}
use Rattle.sap_terms.specs.declared.var.Sort.{Sort}
use Rattle.sap_terms.specs.declared.var.Sort.TheVariants.{Msg, Fresh, Pub}
use Rattle.sap_formula.specs.Form.{Form, action, both, earlier, either, equal, equivalent, every, exists, falsity, implies, negation, same_time, truth}
use Rattle.sap_formula.specs.Checked.{enter, find_binder}
use Rattle.sap_formula.specs.declared.binder.Binder.{Binder}
use Rattle.sap_formula.specs.declared.binder.Binder.TheVariants.{Message, Time}
use Rattle.sap_statements.specs.Statements.{Statement, restriction, lemma}

-- a plain variable has the sort of this binder, where it binds a message; one with a sign keeps its own
abbrev pub sort_under : Sort → Option Binder → Sort
sort_under Msg None = Msg
sort_under Msg (Some (Time n)) = Msg
sort_under Msg (Some (Message b)) = b.sort
sort_under Fresh o = Fresh
sort_under Pub o = Pub

-- each variable so under its innermost binder
abbrev pub by_plain_binder : List Binder → Choice
by_plain_binder scope v =
    variable (record { name = v.name; sort = sort_under v.sort (find_binder scope v.name) })

-- inside these binders, the formula with those sorts
abbrev pub plainly_sorted : List Binder → Form → Form
plainly_sorted scope truth = truth
plainly_sorted scope falsity = falsity
plainly_sorted scope (action f i) = action (instance_fact (by_plain_binder scope) f) i
plainly_sorted scope (equal s t) =
    equal (instance (by_plain_binder scope) s) (instance (by_plain_binder scope) t)
plainly_sorted scope (same_time i j) = same_time i j
plainly_sorted scope (earlier i j) = earlier i j
plainly_sorted scope (negation f) = negation (plainly_sorted scope f)
plainly_sorted scope (both f g) = both (plainly_sorted scope f) (plainly_sorted scope g)
plainly_sorted scope (either f g) = either (plainly_sorted scope f) (plainly_sorted scope g)
plainly_sorted scope (implies f g) = implies (plainly_sorted scope f) (plainly_sorted scope g)
plainly_sorted scope (equivalent f g) = equivalent (plainly_sorted scope f) (plainly_sorted scope g)
plainly_sorted scope (every bs f) = every bs (plainly_sorted (enter bs scope) f)
plainly_sorted scope (exists bs f) = exists bs (plainly_sorted (enter bs scope) f)

-- the statement whose formula has those sorts
abbrev pub sorted_statement : Statement → Statement
sorted_statement (restriction r) =
    restriction (record { name = r.name; formula = plainly_sorted [] r.formula })
sorted_statement (lemma l) =
    lemma (record { name = l.name; attributes = l.attributes; mode = l.mode; formula = plainly_sorted [] l.formula })
