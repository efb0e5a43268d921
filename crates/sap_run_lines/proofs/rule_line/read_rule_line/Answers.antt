use Rattle.std.proofs.Common.{◌≡◌, List, ℕ, Option, Ok, Err, IfOk, sym, subst}
use Rattle.std.specs.Prelude.{Result}
use Rattle.sap_runs.specs.declared.rule_step.RStep.{RStep}
use Rattle.sap_run_lines.specs.StepLines.{IsRuleStepLine, IsLineRead}
use Rattle.sap_run_lines.specs.code.StepTaking.{rule_line_of}
use Rattle.sap_run_lines.proofs.Lines.{rule_read}
use Rattle.sap_run_lines.proofs.rule_line.read_rule_line.Goals as goal

told : {E : Type 0} (z : List ℕ) (r : Result (Option RStep) E) → IfOk r (λ o. o ≡ rule_line_of z) → IfOk r (IsLineRead IsRuleStepLine z)
told z (Ok o) h = subst (λ (o : Option RStep). IsLineRead IsRuleStepLine z o) (sym h) (rule_read z)
told z (Err e) h = tt

pub returns : goal.returns
returns c = told c.args.bytes.now c.rule_line.result c.rule_line.ensures
