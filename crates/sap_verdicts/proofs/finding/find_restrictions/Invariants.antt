use Rattle.std.proofs.Common.{map}
use Rattle.sap_formula.specs.Form.{RestrictionForm}
use Rattle.sap_formula.specs.Laws.{IsClosed}
use Rattle.sap_formula.specs.Truth.{EachIn}
use Rattle.sap_terms.specs.Message.{IsMessageTrace}
use Rattle.sap_terms.specs.Signature.{Sig}
use Rattle.sap_verdicts.specs.Findings.{stated_restriction}
use Rattle.sap_verdicts.specs.View.{found}
use Rattle.sap_verdicts.proofs.Finds.{Behind}
use Rattle.sap_verdicts.proofs.finding.find_restrictions.Given as goal

abbrev pub invariant-loop-k : goal.invariant-loop-k
invariant-loop-k l =
    (g : Sig) → IsMessageTrace g l.trace → EachIn (λ (x : RestrictionForm). IsClosed g x.formula) l.restrictions
    → Behind stated_restriction g l.trace l.restrictions l.k (map found l.initial.out) (map found l.out)
