-- A line has one answer: it is possible in one way, or refused.
use Rattle.std.specs.Prelude.{◌≡◌, ◌⊎◌, ℕ, List, ◌++◌, Some, slice_get, All}
use Rattle.sap_terms.specs.Equations.{equations}
use Rattle.sap_terms.specs.Normal.{IsNormal}
use Rattle.sap_terms.specs.Signature.{Sig, HoldsBuiltins}
use Rattle.sap_terms.specs.Trace.{Trace}
use Rattle.sap_terms.specs.Tree.{Tree}
use Rattle.sap_terms.specs.Variables.{facts_vars}
use Rattle.sap_terms.specs.declared.fact.Fact.{Fact}
use Rattle.sap_rewrite.specs.Match.{HaveOneSort}
use Rattle.sap_rewrite.specs.Pattern.{IsPattern}
use Rattle.sap_process.specs.Action.{embedded}
use Rattle.sap_process.specs.Configuration.{Config, Runs}
use Rattle.sap_process.specs.Heads.{patterns}
use Rattle.sap_process.specs.Proc.{Proc, act}
use Rattle.sap_process.specs.Ready.{IsReady}
use Rattle.sap_runs.specs.Inner.{InnerAction}
use Rattle.sap_runs.specs.Limits.{AnySize, HasFewNodes}
use Rattle.sap_runs.specs.Marks.{Mark}
use Rattle.sap_runs.specs.declared.process_step.PStep.{PStep}
use Rattle.sap_lines.specs.Faults.{IsRefused}
use Rattle.sap_lines.specs.Lines.{IsProcessLine}
use Rattle.sap_lines.specs.Runs.{IsLegalProcessRun}
use Rattle.sap_lines.specs.declared.fault.PFault.{PFault}
use Rattle.sap_lines.specs.declared.fault.PFault.TheVariants.{Mem}

-- What lines match, they match exactly: in the patterns of running processes destructors head ground normal terms alone, no name
-- stands in an embedded rule with two sorts, and entries and facts are normal.
pub record MatchesExactly (g : Sig) (c : Config) (es : List Tree) : Type 0 where
  pub patterns_are : (t : ℕ) (p : Proc) → Runs c t p → All (IsPattern (equations g)) (patterns p)
  pub sorts : (t : ℕ) (l e r : List Fact) (p : Proc) → Runs c t (act (embedded l e r) p) → HaveOneSort (facts_vars (l ++ (e ++ r)))
  pub entries : All (IsNormal (equations g)) es
  pub facts : (k : ℕ) (f : Fact) → slice_get c.facts k ≡ Some (Some f) → All (IsNormal (equations g)) f.args

-- what is done inside and shown, and the configuration and the entries behind it, are the same
pub record AreOne (inner inner_too : List InnerAction) (label label_too : List Fact) (d d_too : Config) (fs fs_too : List Tree) : Type 0 where
  pub inside : inner ≡ inner_too
  pub labels : label ≡ label_too
  pub configurations : d ≡ d_too
  pub entries : fs ≡ fs_too

-- a line is possible in one way
abbrev pub ProcessLinesHaveOneOutcome : Type 0
ProcessLinesHaveOneOutcome =
    (g : Sig) (c d d_too : Config) (es fs fs_too : List Tree) (step : PStep) (inner inner_too : List InnerAction) (label label_too : List Fact) → MatchesExactly g c es → IsProcessLine g AnySize c es step inner label d fs → IsProcessLine g AnySize c es step inner_too label_too d_too fs_too → AreOne inner inner_too label label_too d d_too fs fs_too

-- one that is possible within the limit is refused for want of memory alone
abbrev pub ProcessLinesHaveOneAnswer : Type 0
ProcessLinesHaveOneAnswer =
    (g : Sig) (c d : Config) (es fs : List Tree) (step : PStep) (inner : List InnerAction) (label : List Fact) (e : PFault) → MatchesExactly g c es → IsProcessLine g HasFewNodes c es step inner label d fs → IsRefused g c es step e → e ≡ Mem

-- wherever written runs of a ready process lead to, what lines match, they match exactly
abbrev pub RunsMatchExactly : Type 0
RunsMatchExactly =
    (g : Sig) (p : Proc) (lines : List PStep) (c : Config) (es : List Tree) (tr : Trace) (marks : List Mark) → HoldsBuiltins g → IsReady g p → IsLegalProcessRun g AnySize p lines c es tr marks → MatchesExactly g c es

-- two causes for which a line is refused are one, but for want of memory
abbrev pub RefusalsAreOne : Type 0
RefusalsAreOne = (g : Sig) (c : Config) (es : List Tree) (step : PStep) (e f : PFault) → IsRefused g c es step e → IsRefused g c es step f → (e ≡ Mem) ⊎ ((f ≡ Mem) ⊎ (e ≡ f))

-- a line is possible within the limit, or refused for another cause than want of memory
abbrev pub ProcessLinesHaveSomeAnswer : Type 0
ProcessLinesHaveSomeAnswer =
    (g : Sig) (c : Config) (es : List Tree) (step : PStep) → MatchesExactly g c es → ((inner : List InnerAction) × (label : List Fact) × (d : Config) × (fs : List Tree) × IsProcessLine g HasFewNodes c es step inner label d fs) ⊎ ((e : PFault) × IsRefused g c es step e × (¬ (e ≡ Mem)))
