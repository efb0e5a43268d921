use Rattle.std.proofs.Common.{◌≡◌, drop}
use Rattle.sap_run_lines.specs.code.Taking.{with_digits}
use Rattle.sap_run_lines.proofs.take.with_digits.Given as goal

abbrev pub invariant-loop-digit : goal.invariant-loop-digit
invariant-loop-digit l = with_digits 0 l.digits ≡ with_digits l.value (drop l.digit-index l.digits)
