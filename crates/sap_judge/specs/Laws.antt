-- The laws of verdicts.
use Rattle.std.specs.Prelude.{◌≡◌, ◌⊎◌, Bool, List}
use Rattle.sap_formula.specs.Form.{Form}
use Rattle.sap_formula.specs.Laws.{IsClosed}
use Rattle.sap_formula.specs.Truth.{EachIn, IsTrueOn}
use Rattle.sap_judge.specs.Reasons.{Is, IsReason, Suits}
use Rattle.sap_search.specs.Claims.{Chosen}
use Rattle.sap_judge.specs.Verdict.{IsVerdict}
use Rattle.sap_judge.specs.declared.verdict.Verdict.{Verdict}
use Rattle.sap_terms.specs.Message.{IsMessageTrace}
use Rattle.sap_terms.specs.Signature.{Sig}
use Rattle.sap_terms.specs.Trace.{Trace}

-- of a formula on a trace there is at most one verdict
abbrev pub OneVerdictLaw : Type 0
OneVerdictLaw = (g : Sig) (f : Form) (tr : Trace) (v w : Verdict) → IsVerdict g f tr v → IsVerdict g f tr w → v ≡ w

-- of a checked closed one on a trace of messages there is some
abbrev pub SomeVerdictLaw : Type 0
SomeVerdictLaw = (g : Sig) (f : Form) (tr : Trace) → IsMessageTrace g tr → IsClosed g f → (v : Verdict) × IsVerdict g f tr v

-- of a checked closed formula it is decided on each trace of messages whether it is true, whatever judging costs
abbrev pub DecidedLaw : Type 0
DecidedLaw = (g : Sig) (f : Form) (tr : Trace) → IsMessageTrace g tr → IsClosed g f → IsTrueOn g f tr ⊎ (IsTrueOn g f tr → ⊥)

-- a checked closed formula that is true on a trace of messages, or isn't, has a reason for it
abbrev pub SomeReasonLaw : Type 0
SomeReasonLaw = (g : Sig) (f : Form) (tr : Trace) (b : Bool) → IsMessageTrace g tr → IsClosed g f → Is b (IsTrueOn g f tr) → (cs : List Chosen) × IsReason g f tr b cs

-- and one only
abbrev pub OneReasonLaw : Type 0
OneReasonLaw = (g : Sig) (f : Form) (tr : Trace) (b : Bool) → IsMessageTrace g tr → IsClosed g f → (cs ds : List Chosen) → IsReason g f tr b cs → IsReason g f tr b ds → cs ≡ ds

-- what it tells of a binder is a message of its sort, or a time of the trace
abbrev pub ReasonsSuit : Type 0
ReasonsSuit = (g : Sig) (f : Form) (tr : Trace) (b : Bool) → (cs : List Chosen) → IsReason g f tr b cs → EachIn (λ c. Suits g tr c.binder c.value) cs
