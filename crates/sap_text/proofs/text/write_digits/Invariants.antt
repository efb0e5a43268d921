use Rattle.std.proofs.Common.{◌≡◌, ◌≤◌, ◌<◌, ◌^◌, ◌++◌, decimal, drop}
use Rattle.sap_text.proofs.text.write_digits.Given as goal

abbrev pub invariant-loop-rest : goal.invariant-loop-rest
invariant-loop-rest l = record {
  some : 1 ≤ l.at;
  within : l.at ≤ 20;
  fits : l.rest < 10 ^ l.at;
  joined : decimal l.number ≡ decimal l.rest ++ drop l.at l.digits;
}

abbrev pub decreases-loop-rest : goal.decreases-loop-rest
decreases-loop-rest l = l.rest
