use Rattle.std.proofs.Common.{◌≡◌, drop}
use Rattle.sap_outside.specs.Outside.{taken_at}
use Rattle.sap_outside.proofs.mem_sink.taken_before_failure.Given as goal

abbrev pub invariant-loop-number : goal.invariant-loop-number
invariant-loop-number l = taken_at l.fail_on l.call ≡ taken_at (drop l.number-index l.fail_on) l.call
