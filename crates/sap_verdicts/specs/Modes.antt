-- What one run says of a lemma.
use Rattle.std.specs.Prelude.{◌≡◌, ℕ, List, map, slice_get, Some}
use Rattle.sap_formula.specs.Form.{Form, LemmaForm, RestrictionForm}
use Rattle.sap_formula.specs.HoldsOf.{AreTrueOn, HoldsOf}
use Rattle.sap_formula.specs.Truth.{IsTrueOn}
use Rattle.sap_formula.specs.declared.lemma.Mode.TheVariants.{AllTraces, ExistsTrace}
use Rattle.sap_lines.specs.Runs.{IsLegalProcessRun}
use Rattle.sap_process.specs.Configuration.{Config}
use Rattle.sap_process.specs.Proc.{Proc}
use Rattle.sap_process.specs.ProcessSteps.{IsProcessTrace}
use Rattle.sap_runs.specs.Limits.{HasFewNodes}
use Rattle.sap_runs.specs.Marks.{Mark}
use Rattle.sap_runs.specs.declared.process_step.PStep.{PStep}
use Rattle.sap_terms.specs.Signature.{Sig}
use Rattle.sap_terms.specs.Trace.{Trace}
use Rattle.sap_terms.specs.Tree.{Tree}
use Rattle.sap_judge.specs.declared.verdict.Verdict.TheVariants.{Holds, Fails}
use Rattle.sap_verdicts.specs.Findings.{AreFound, Found, Stated, all_stated}
use Rattle.sap_verdicts.specs.Standing.{standing}
use Rattle.sap_verdicts.specs.declared.standing.Standing.TheVariants.{Counts}
use Rattle.sap_verdicts.specs.declared.statement.Statement.TheVariants.{Lemma}

-- some legal lines of the process show the trace
pub record IsShown (g : Sig) (p : Proc) (tr : Trace) : Type 0 where
  pub lines : List PStep
  pub config : Config
  pub entries : List Tree
  pub marks : List Mark
  pub legal : IsLegalProcessRun g HasFewNodes p lines config entries tr marks

-- and each of these formulas is true on it
pub record CountsAsRun (g : Sig) (p : Proc) (us : List Form) (tr : Trace) : Type 0 where
  pub shown : IsShown g p tr
  pub counts : AreTrueOn g us tr

-- Where all restrictions are true on what a legal run shows, an all-traces formula that isn't true there doesn't hold of the process, and
-- an exists-trace one that is true there does.
pub record OneRunDecides : Type 0 where
  pub all_traces : (g : Sig) (p : Proc) (us : List Form) (tr : Trace) (f : Form) → CountsAsRun g p us tr
      → (IsTrueOn g f tr → ⊥) → HoldsOf g (IsProcessTrace g p) us AllTraces f → ⊥
  pub exists_trace : (g : Sig) (p : Proc) (us : List Form) (tr : Trace) (f : Form) → CountsAsRun g p us tr
      → IsTrueOn g f tr → HoldsOf g (IsProcessTrace g p) us ExistsTrace f

-- So of the formulas of a file, where the run counts by what is found of its restrictions: a lemma of all traces that fails doesn't hold of
-- the process, and one of some trace that holds does.
pub record FindingsDecide : Type 0 where
  pub all_traces : (g : Sig) (p : Proc) (rs : List RestrictionForm) (ls : List LemmaForm) (tr : Trace) (ys : List Found) → IsShown g p tr
      → AreFound g tr (all_stated rs ls) ys → standing ys ≡ Counts → (k : ℕ) (x : Stated) (y : Found) → slice_get (all_stated rs ls) k ≡ Some x
      → slice_get ys k ≡ Some y → y.what ≡ Lemma AllTraces → y.verdict ≡ Fails
      → HoldsOf g (IsProcessTrace g p) (map (λ r. r.formula) rs) AllTraces x.formula → ⊥
  pub exists_trace : (g : Sig) (p : Proc) (rs : List RestrictionForm) (ls : List LemmaForm) (tr : Trace) (ys : List Found) → IsShown g p tr
      → AreFound g tr (all_stated rs ls) ys → standing ys ≡ Counts → (k : ℕ) (x : Stated) (y : Found) → slice_get (all_stated rs ls) k ≡ Some x
      → slice_get ys k ≡ Some y → y.what ≡ Lemma ExistsTrace → y.verdict ≡ Holds
      → HoldsOf g (IsProcessTrace g p) (map (λ r. r.formula) rs) ExistsTrace x.formula
