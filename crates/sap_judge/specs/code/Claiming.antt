-- Claims that a formula made ready is true or isn't: negations go down to the parts.
use Rattle.std.specs.Prelude.{ℕ, Bool, true, false, not, List, [], ◌∷◌, ◌++◌, if◌then◌else◌}
use Rattle.sap_formula.specs.Checked.{binder_name, premise}
use Rattle.sap_formula.specs.Form.{Form, action, both, earlier, either, equal, equivalent, every, exists, falsity, implies, negation, same_time, truth}
use Rattle.sap_formula.specs.Laws.{IsClosed}
use Rattle.sap_formula.specs.Slim.{lasts}
use Rattle.sap_formula.specs.declared.binder.Binder.{Binder}
use Rattle.sap_judge.specs.Reasons.{Explains}
use Rattle.sap_judge.specs.code.Folded.{are_idle, folded}
use Rattle.sap_judge.specs.code.Quantifying.{beside, guards_over}
use Rattle.sap_judge.specs.code.Ready.{Layers, guards_of, left_of_imp, place_of, ready, seen_by, slot_in, under_and}
use Rattle.sap_judge.specs.declared.extent.Extent.{Extent}
use Rattle.sap_judge.specs.declared.extent.Extent.TheVariants.{Whole}
use Rattle.sap_search.specs.Claims.{Claim, Slotted, choosing, each, first, tested}
use Rattle.sap_search.specs.Explained.{explained}
use Rattle.sap_search.specs.Plan.{Guard, Plan, always}
use Rattle.sap_terms.specs.Message.{IsMessageTrace}
use Rattle.sap_terms.specs.Signature.{Sig}
use Rattle.sap_terms.specs.Trace.{Trace}

-- the binders with the slots of their names, the last one first
abbrev pub slots_of : Layers → List Binder → List Slotted
slots_of layers [] = []
slots_of layers (b ∷ bs) = slots_of layers bs ++ record { binder = b; slot = slot_in layers (binder_name b) } ∷ []

-- a search for a choice; there is none where some guard has no fact
abbrev pub choosing_of : List Guard → List Slotted → Claim → Claim
choosing_of gs ts c = if are_idle gs then tested true (always false) else choosing gs ts c

-- both, or the first that holds
abbrev pub paired : Bool → Claim → Claim → Claim
paired true c d = each c d
paired false c d = first c d

-- the truth value that is claimed of a connective's first part, and whether both parts have to be shown
abbrev pub first_value : Form → Bool → Bool
first_value (implies f g) b = not b
first_value _ b = b

abbrev pub is_each : Form → Bool → Bool
is_each (both f g) b = b
is_each _ b = not b

-- the names that have slots in a quantifier
abbrev pub named_by : Bool → Layers → List Binder → Form → List (List ℕ)
named_by d layers bs f = seen_by (place_of bs layers) [] (guards_over d f)

-- the search for a choice of a quantifier, over this claim on its body; d where it speaks of each value
abbrev pub choosing_over : Trace → Bool → Layers → List Binder → Form → Claim → Claim
choosing_over tr d layers bs f c = choosing_of (guards_of tr (place_of bs layers) [] (guards_over d f)) (slots_of (named_by d layers bs f ∷ layers) (lasts bs)) c

-- that the test of what is left of the formula gives this
abbrev pub claim_test : Trace → Extent → Layers → Bool → Form → Claim
claim_test tr e layers b f = tested b (folded (ready tr e layers f))

-- that what is left of the formula has this truth value, where these names have slots
abbrev pub claim_of : Trace → Extent → Layers → Bool → Form → Claim
claim_of tr e layers b truth = claim_test tr e layers b truth
claim_of tr e layers b falsity = claim_test tr e layers b falsity
claim_of tr e layers b (action f i) = claim_test tr e layers b (action f i)
claim_of tr e layers b (equal s t) = claim_test tr e layers b (equal s t)
claim_of tr e layers b (same_time i j) = claim_test tr e layers b (same_time i j)
claim_of tr e layers b (earlier i j) = claim_test tr e layers b (earlier i j)
claim_of tr e layers b (negation f) = claim_of tr Whole layers (not b) f
claim_of tr e layers b (both f g) = paired b (claim_of tr (under_and e) layers b f) (claim_of tr (under_and e) layers b g)
claim_of tr e layers b (either f g) = paired (not b) (claim_of tr Whole layers b f) (claim_of tr Whole layers b g)
claim_of tr e layers b (implies f g) = paired (not b) (claim_of tr (left_of_imp e) layers (not b) f) (claim_of tr Whole layers b g)
claim_of tr e layers b (equivalent f g) = claim_test tr e layers b (equivalent f g)
claim_of tr e layers true (every bs f) = claim_test tr e layers true (every bs f)
claim_of tr e layers false (every bs f) = choosing_over tr true layers bs f (claim_of tr (beside true) (named_by true layers bs f ∷ layers) false f)
claim_of tr e layers true (exists bs f) = choosing_over tr false layers bs f (claim_of tr (beside false) (named_by false layers bs f ∷ layers) true f)
claim_of tr e layers false (exists bs f) = claim_test tr e layers false (exists bs f)

-- what shows the claim on a closed formula is the reason for its truth value on a trace of messages, and nothing does where it hasn't it
abbrev pub ClaimLaw : Type 0
ClaimLaw = (g : Sig) (f : Form) (tr : Trace) (b : Bool) → IsMessageTrace g tr → IsClosed g f → Explains g f tr b (explained tr (claim_of tr Whole [] b f) [])
