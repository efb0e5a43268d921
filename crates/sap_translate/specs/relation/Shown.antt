-- Which facts a trace shows at a time, as the proofs take it apart, and what it meets.
use Rattle.std.specs.Prelude.{◌≡◌, ℕ, List, Some, slice_get}
use Rattle.sap_restrict.specs.Sentences.{InitOnce, EachEqual, EachUnequal, EachFound, EachMissed, EachLock, EachServed}
use Rattle.sap_formula.specs.Hide.{hide}
use Rattle.sap_process.specs.Proc.{Proc}
use Rattle.sap_process.specs.ProcessSteps.{IsProcessTrace}
use Rattle.sap_rule.specs.RuleSteps.{RuleState, RuleRun}
use Rattle.sap_rule.specs.declared.rule.Rule.{Rule}
use Rattle.sap_terms.specs.Equations.{Equations, equations}
use Rattle.sap_terms.specs.Signature.{Sig}
use Rattle.sap_terms.specs.Trace.{Trace}
use Rattle.sap_terms.specs.declared.fact.Fact.{Fact}
use Rattle.sap_translate.specs.Members.{Member}

-- time i has the fact
abbrev pub ShowsAt : Trace → ℕ → Fact → Type 0
ShowsAt tr i f = (facts : List Fact) × (slice_get tr i ≡ Some facts) × Member f facts

-- the restrictions but that of one start
pub record MeetsSix (e : Equations) (tr : Trace) : Type 0 where
  pub equal : EachEqual e (ShowsAt tr)
  pub unequal : EachUnequal e (ShowsAt tr)
  pub found : EachFound (ShowsAt tr)
  pub missed : EachMissed (ShowsAt tr)
  pub lock : EachLock (ShowsAt tr)
  pub served : EachServed (ShowsAt tr)

-- the trace meets all seven
pub record MeetsAll (e : Equations) (tr : Trace) : Type 0 where
  pub init : InitOnce (ShowsAt tr)
  pub demands : MeetsSix e tr

-- this is seen of some run of the rules whose full trace meets all seven
abbrev pub IsSeenOf : Sig → List Rule → Trace → Type 0
IsSeenOf g rules tr = (s : RuleState) × (full : Trace) × RuleRun g rules s full × MeetsAll (equations g) full × (hide full ≡ tr)

-- each trace of the process is
abbrev pub SeesAll : Sig → Proc → List Rule → Type 0
SeesAll g p rules = (tr : Trace) → IsProcessTrace g p tr → IsSeenOf g rules tr

-- nothing else is
abbrev pub SeesOnly : Sig → Proc → List Rule → Type 0
SeesOnly g p rules = (tr : Trace) → IsSeenOf g rules tr → IsProcessTrace g p tr
