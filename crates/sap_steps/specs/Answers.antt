-- A line has one answer: it is possible, in one way, or refused, for one cause.
use Rattle.std.specs.Prelude.{◌≡◌, ◌⊎◌, List, All}
use Rattle.sap_terms.specs.Signature.{Sig, HoldsBuiltins}
use Rattle.sap_terms.specs.Trace.{Trace}
use Rattle.sap_terms.specs.Tree.{Tree}
use Rattle.sap_terms.specs.declared.fact.Fact.{Fact}
use Rattle.sap_rule.specs.Messages.{HoldsMessages}
use Rattle.sap_rule.specs.RuleSteps.{RuleState, RuleRun}
use Rattle.sap_rule.specs.WellMade.{IsWellMade}
use Rattle.sap_rule.specs.declared.rule.Rule.{Rule}
use Rattle.sap_runs.specs.declared.rule_step.RStep.{RStep}
use Rattle.sap_steps.specs.Faults.{IsLineFault}
use Rattle.sap_steps.specs.Lines.{IsLine, HasFewNodes}
use Rattle.sap_steps.specs.declared.fault.RFault.{RFault}
use Rattle.sap_steps.specs.declared.fault.RFault.TheVariants.{Mem}

-- in a state that holds messages a line that is possible within the limit is refused for want of memory alone
abbrev pub LinesHaveOneAnswer : Type 0
LinesHaveOneAnswer =
    (g : Sig) (rules : List Rule) (s z : RuleState) (acts : List Fact) (line : RStep) (e : RFault) → All (IsWellMade g) rules → HoldsMessages g s → IsLine g rules HasFewNodes s line acts z → IsLineFault g rules s line e → e ≡ Mem

-- so in each state that a run of well-made rules reaches
abbrev pub ReachedHaveOneAnswer : Type 0
ReachedHaveOneAnswer =
    (g : Sig) (rules : List Rule) (s z : RuleState) (full : Trace) (acts : List Fact) (line : RStep) (e : RFault) → HoldsBuiltins g → All (IsWellMade g) rules → RuleRun g rules s full → IsLine g rules HasFewNodes s line acts z → IsLineFault g rules s line e → e ≡ Mem

-- two causes for which a line of well-made rules is refused are one, but for want of memory
abbrev pub RefusalsAreOne : Type 0
RefusalsAreOne =
    (g : Sig) (rules : List Rule) (s : RuleState) (line : RStep) (e f : RFault) → All (IsWellMade g) rules → IsLineFault g rules s line e → IsLineFault g rules s line f → (e ≡ Mem) ⊎ ((f ≡ Mem) ⊎ (e ≡ f))

-- in a state that holds messages a line is possible in one way
abbrev pub LinesHaveOneOutcome : (Tree → Type 0) → Type 0
LinesHaveOneOutcome W =
    (g : Sig) (rules : List Rule) (s z y : RuleState) (acts others : List Fact) (line : RStep) → All (IsWellMade g) rules → HoldsMessages g s → IsLine g rules W s line acts z → IsLine g rules W s line others y → (acts ≡ others) × (z ≡ y)

-- so in each state that a run of well-made rules reaches
abbrev pub ReachedHaveOneOutcome : (Tree → Type 0) → Type 0
ReachedHaveOneOutcome W =
    (g : Sig) (rules : List Rule) (s z y : RuleState) (full : Trace) (acts others : List Fact) (line : RStep) → HoldsBuiltins g → All (IsWellMade g) rules → RuleRun g rules s full → IsLine g rules W s line acts z → IsLine g rules W s line others y → (acts ≡ others) × (z ≡ y)

-- in a state that holds messages a line is possible within the limit, or refused for another cause than want of memory
abbrev pub LinesHaveSomeAnswer : Type 0
LinesHaveSomeAnswer =
    (g : Sig) (rules : List Rule) (s : RuleState) (line : RStep) → HoldsMessages g s → ((acts : List Fact) × (z : RuleState) × IsLine g rules HasFewNodes s line acts z) ⊎ ((e : RFault) × IsLineFault g rules s line e × (¬ (e ≡ Mem)))

-- so in each state that a run of well-made rules reaches
abbrev pub ReachedHaveSomeAnswer : Type 0
ReachedHaveSomeAnswer =
    (g : Sig) (rules : List Rule) (s : RuleState) (full : Trace) (line : RStep) → HoldsBuiltins g → All (IsWellMade g) rules → RuleRun g rules s full → ((acts : List Fact) × (z : RuleState) × IsLine g rules HasFewNodes s line acts z) ⊎ ((e : RFault) × IsLineFault g rules s line e × (¬ (e ≡ Mem)))
