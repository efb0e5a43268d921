-- Lines of verdicts that are put one behind another.
use Rattle.std.specs.Prelude.{◌≡◌, ◌++◌, ℕ, List}
use Rattle.sap_formula.specs.Form.{Form}
use Rattle.sap_judge.specs.Verdict.{IsVerdict}
use Rattle.sap_judge.specs.declared.verdict.Verdict.{Verdict}
use Rattle.sap_terms.specs.Signature.{Sig}
use Rattle.sap_terms.specs.Trace.{Trace}
use Rattle.sap_replay.specs.Verdicts.{verdict_line}

-- bytes come behind the old ones, which are such
pub record Adds (Is : List ℕ → Type 0) (old new : List ℕ) : Type 0 where
  pub more : List ℕ
  pub are : Is more
  pub put : new ≡ old ++ more

-- the line says by its verdict whether the formula is true on the trace
pub record IsLineFor (g : Sig) (tr : Trace) (name : List ℕ) (f : Form) (line : List ℕ) : Type 0 where
  pub verdict : Verdict
  pub true_or_false : IsVerdict g f tr verdict
  pub layout : line ≡ verdict_line name verdict
