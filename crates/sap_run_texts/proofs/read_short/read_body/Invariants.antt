use Rattle.std.proofs.Common.{length}
use Rattle.sap_run_texts.specs.code.ShortReading.{IsBehind}
use Rattle.sap_run_texts.proofs.read_short.read_body.Given as goal

abbrev pub invariant-loop-rest : goal.invariant-loop-rest
invariant-loop-rest l = IsBehind l.steps l.rest l.bytes

abbrev pub decreases-loop-rest : goal.decreases-loop-rest
decreases-loop-rest l = length l.rest
