-- Where the reason has no choices.
use Rattle.std.proofs.Common.{◌≡◌, true, false, Bool, not, [], refl}
use Rattle.sap_formula.specs.Form.{Form, action, both, earlier, either, equal, equivalent, every, exists, falsity, implies, negation, same_time, truth}
use Rattle.sap_judge.specs.Reasons.{IsReason}
use Rattle.sap_terms.specs.Signature.{Sig}
use Rattle.sap_terms.specs.Trace.{Trace}
use Rattle.sap_verdicts.specs.code.Finding.{silent}

pub no_choices : (g : Sig) (tr : Trace) (f : Form) (b : Bool) → silent f b ≡ true → IsReason g f tr b []
no_choices g tr truth b h = refl
no_choices g tr falsity b h = refl
no_choices g tr (action f i) b h = refl
no_choices g tr (equal s t) b h = refl
no_choices g tr (same_time i j) b h = refl
no_choices g tr (earlier i j) b h = refl
no_choices g tr (negation f) b h = no_choices g tr f (not b) h
no_choices g tr (both f k) b h = cc
no_choices g tr (either f k) b h = cc
no_choices g tr (implies f k) b h = cc
no_choices g tr (equivalent f k) b h = refl
no_choices g tr (every bs f) true h = refl
no_choices g tr (every bs f) false h = cc
no_choices g tr (exists bs f) true h = cc
no_choices g tr (exists bs f) false h = refl
