-- What the judge answers, by its search and for no signature; and what that search says of truth.
use Rattle.std.specs.Prelude.{◌≡◌, ◌↔◌, true, false, ◌<◌, ◌≤◌, ◌-◌, ◌^◌, min}
use Rattle.sap_formula.specs.Cost.{form_cost}
use Rattle.sap_formula.specs.Form.{Form}
use Rattle.sap_formula.specs.Laws.{IsClosed}
use Rattle.sap_formula.specs.Truth.{IsTrueOn}
use Rattle.sap_judge.specs.code.Folded.{judged}
use Rattle.sap_judge.specs.declared.verdict.TheConstants.{MOST_COST}
use Rattle.sap_judge.specs.declared.verdict.Verdict.{Verdict}
use Rattle.sap_judge.specs.declared.verdict.Verdict.TheVariants.{Holds, Fails, TooCostly}
use Rattle.sap_terms.specs.Message.{IsMessageTrace}
use Rattle.sap_terms.specs.Signature.{Sig}
use Rattle.sap_terms.specs.Trace.{Trace}

-- too costly, or what the search says
abbrev pub IsAnswer : Form → Trace → Verdict → Type 0
IsAnswer f tr Holds = (form_cost tr f ≤ MOST_COST) × (judged f tr ≡ true)
IsAnswer f tr Fails = (form_cost tr f ≤ MOST_COST) × (judged f tr ≡ false)
IsAnswer f tr (TooCostly c) = (MOST_COST < form_cost tr f) × (c ≡ min (form_cost tr f) (2 ^ 64 - 1))

-- the search says of a closed formula on a trace of messages whether it is true
abbrev pub PlanLaw : Type 0
PlanLaw = (g : Sig) (f : Form) (tr : Trace) → IsMessageTrace g tr → IsClosed g f → (judged f tr ≡ true) ↔ IsTrueOn g f tr
