use Rattle.std.proofs.Common.{◌≡◌, List, ℕ, Option, Ok, Err, IfOk, sym, subst}
use Rattle.std.specs.Prelude.{Result}
use Rattle.sap_runs.specs.declared.process_step.PStep.{PStep}
use Rattle.sap_run_lines.specs.StepLines.{IsProcessStepLine, IsLineRead}
use Rattle.sap_run_lines.specs.code.StepTaking.{process_line_of}
use Rattle.sap_run_lines.proofs.Lines.{process_read}
use Rattle.sap_run_lines.proofs.process_line.read_process_line.Goals as goal

told : {E : Type 0} (z : List ℕ) (r : Result (Option PStep) E) → IfOk r (λ o. o ≡ process_line_of z) → IfOk r (IsLineRead IsProcessStepLine z)
told z (Ok o) h = subst (λ (o : Option PStep). IsLineRead IsProcessStepLine z o) (sym h) (process_read z)
told z (Err e) h = tt

pub returns : goal.returns
returns c = told c.args.bytes.now c.process_line.result c.process_line.ensures
