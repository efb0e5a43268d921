-- What is found of formulas one after another.
use Rattle.std.specs.Prelude.{◌≡◌, Bool, true, false, not, List, ◌++◌}
use Rattle.sap_formula.specs.Form.{Form, action, both, earlier, either, equal, equivalent, every, exists, falsity, implies, negation, same_time, truth}
use Rattle.sap_terms.specs.Signature.{Sig}
use Rattle.sap_terms.specs.Trace.{Trace}
use Rattle.sap_verdicts.specs.Findings.{AreFound, Found, Stated}

-- what is found of these comes behind what was found of others
pub record AddsFound (g : Sig) (tr : Trace) (xs : List Stated) (old new : List Found) : Type 0 where
  pub more : List Found
  pub are : AreFound g tr xs more
  pub put : new ≡ old ++ more

-- the reason for this truth value has no choices, whatever the trace is
abbrev pub silent : Form → Bool → Bool
silent truth b = true
silent falsity b = true
silent (action f i) b = true
silent (equal s t) b = true
silent (same_time i j) b = true
silent (earlier i j) b = true
silent (negation f) b = silent f (not b)
silent (both f g) b = false
silent (either f g) b = false
silent (implies f g) b = false
silent (equivalent f g) b = true
silent (every bs f) b = b
silent (exists bs f) b = not b
