use Rattle.std.proofs.Common.{◌≡◌, List, ℕ, Option, Ok, Err, IfOk, sym, subst}
use Rattle.std.specs.Prelude.{Result}
use Rattle.sap_runs.specs.declared.short_step.SStep.{SStep}
use Rattle.sap_run_lines.specs.StepLines.{IsLineRead}
use Rattle.sap_run_lines.specs.ShortLines.{IsShortStepLine}
use Rattle.sap_run_lines.specs.code.ShortTaking.{short_line_of}
use Rattle.sap_run_lines.proofs.ShortLines.{short_read}
use Rattle.sap_run_lines.proofs.short_line.read_short_line.Goals as goal

told : {E : Type 0} (z : List ℕ) (r : Result (Option SStep) E) → IfOk r (λ o. o ≡ short_line_of z) → IfOk r (IsLineRead IsShortStepLine z)
told z (Ok o) h = subst (λ (o : Option SStep). IsLineRead IsShortStepLine z o) (sym h) (short_read z)
told z (Err e) h = tt

pub returns : goal.returns
returns c = told c.args.bytes.now c.short_line.result c.short_line.ensures
