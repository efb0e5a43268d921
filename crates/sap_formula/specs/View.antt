-- The plain tree of a formula, without the addresses of its parts.
use Rattle.sap_terms.specs.View.{tree}
use Rattle.sap_formula.specs.Form.{Form, truth, falsity, action, equal, same_time, earlier, negation, both, either, implies, equivalent, every, exists}
use Rattle.sap_formula.specs.declared.formula.Formula.{Formula}
use Rattle.sap_formula.specs.declared.formula.Formula.TheVariants.{True, False, Action, Equal, Same, Less, Not', And', Or', Imp', Iff', All', Ex'}

-- the formula without the addresses of its parts
abbrev pub form : Formula → Form
form True = truth
form False = falsity
form (Action f i) = action f i
form (Equal s t) = equal (tree s) (tree t)
form (Same i j) = same_time i j
form (Less i j) = earlier i j
form (Not' a f) = negation (form f)
form (And' a f b g) = both (form f) (form g)
form (Or' a f b g) = either (form f) (form g)
form (Imp' a f b g) = implies (form f) (form g)
form (Iff' a f b g) = equivalent (form f) (form g)
form (All' bs a f) = every bs (form f)
form (Ex' bs a f) = exists bs (form f)
