use Rattle.std.proofs.Common.{◌≡◌, length}
use Rattle.sap_run_lines.specs.code.WordTaking.{on_words}
use Rattle.sap_run_lines.specs.code.StepTaking.{bindings_onto, bindings_of}
use Rattle.sap_run_lines.proofs.take_steps.take_bindings.Given as goal

abbrev pub invariant-loop-rest : goal.invariant-loop-rest
invariant-loop-rest l = on_words bindings_of l.bytes ≡ on_words (bindings_onto l.bindings) l.rest

abbrev pub decreases-loop-rest : goal.decreases-loop-rest
decreases-loop-rest l = length l.rest
