use Rattle.std.proofs.Common.{drop}
use Rattle.sap_terms.specs.Message.{IsMessageTrace}
use Rattle.sap_terms.specs.Signature.{Sig}
use Rattle.sap_formula.specs.Form.{RestrictionForm}
use Rattle.sap_formula.specs.Laws.{IsClosed}
use Rattle.sap_formula.specs.Truth.{EachIn}
use Rattle.sap_replay.specs.Verdicts.{judged_restrictions}
use Rattle.sap_replay.proofs.Lines.{Behind}
use Rattle.sap_replay.proofs.verdicts.push_restrictions.Given as goal

abbrev pub invariant-loop-k : goal.invariant-loop-k
invariant-loop-k l =
    (g : Sig) → IsMessageTrace g l.trace → EachIn (λ (x : RestrictionForm). IsClosed g x.formula) l.restrictions
    → Behind g l.trace (judged_restrictions l.restrictions) (judged_restrictions (drop l.k l.restrictions)) l.initial.text l.text
