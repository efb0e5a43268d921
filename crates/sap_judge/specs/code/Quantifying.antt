-- The parts of a formula that is made ready, as the code tells them apart.
use Rattle.std.specs.Prelude.{ℕ, Bool, true, false, List, [], ◌∷◌}
use Rattle.sap_formula.specs.Checked.{premise}
use Rattle.sap_formula.specs.Form.{Form, both, either, implies, same_time}
use Rattle.sap_judge.specs.code.Folded.{and_by, constant, iff_by, imp_by, or_by}
use Rattle.sap_judge.specs.Guards.{Action, guards}
use Rattle.sap_judge.specs.code.Ready.{Layers, guards_of, left_of_imp, place_of, ready, seen_by, slot_in, under_and}
use Rattle.sap_search.specs.Plan.{Plan, at_once, before, search}
use Rattle.sap_formula.specs.declared.binder.Binder.{Binder}
use Rattle.sap_judge.specs.declared.extent.Extent.{Extent}
use Rattle.sap_judge.specs.declared.extent.Extent.TheVariants.{Whole, Body, Rest}
use Rattle.sap_terms.specs.Trace.{Trace}

-- how much of a connective's first part is left, and of its second
abbrev pub left_part : Form → Extent → Extent
left_part (both f g) e = under_and e
left_part (implies f g) e = left_of_imp e
left_part _ e = Whole

abbrev pub right_part : Form → Extent → Extent
right_part (both f g) e = under_and e
right_part _ e = Whole

-- the connective of a formula between two that are ready
abbrev pub connected : Form → Plan → Plan → Plan
connected (both f g) p q = and_by (constant p) (constant q) p q
connected (either f g) p q = or_by (constant p) (constant q) p q
connected (implies f g) p q = imp_by (constant p) (constant q) p q
connected _ p q = iff_by (constant p) (constant q) p q

-- its relation between two times
abbrev pub related : Layers → Form → List ℕ → List ℕ → Plan
related layers (same_time a b) i j = at_once (slot_in layers i) (slot_in layers j)
related layers _ i j = before (slot_in layers i) (slot_in layers j)

-- the guards of a quantifier over this body; true where it speaks of each value
abbrev pub guards_over : Bool → Form → List Action
guards_over true f = guards (premise f)
guards_over false f = guards f

-- how much of the body is left beside them
abbrev pub beside : Bool → Extent
beside true = Body
beside false = Rest

-- the quantifier made ready
abbrev pub quantified : Trace → Bool → Layers → List Binder → Form → Plan
quantified tr d layers bs f =
    search d (guards_of tr (place_of bs layers) [] (guards_over d f)) (ready tr (beside d) (seen_by (place_of bs layers) [] (guards_over d f) ∷ layers) f)
