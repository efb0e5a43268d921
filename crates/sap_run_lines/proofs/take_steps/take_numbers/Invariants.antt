use Rattle.std.proofs.Common.{length}
use Rattle.sap_run_lines.proofs.WordsOn.{AreNumbersSoFar}
use Rattle.sap_run_lines.proofs.take_steps.take_numbers.Given as goal

abbrev pub invariant-loop-number : goal.invariant-loop-number
invariant-loop-number l = AreNumbersSoFar l.bytes l.numbers l.rest

abbrev pub decreases-loop-number : goal.decreases-loop-number
decreases-loop-number l = length l.rest
