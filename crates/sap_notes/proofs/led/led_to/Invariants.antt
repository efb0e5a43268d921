use Rattle.sap_macro.specs.Sources.{definitions, written}
use Rattle.sap_notes.proofs.Leading.{AreGone}
use Rattle.sap_notes.proofs.led.led_to.Given as goal

abbrev pub invariant-loop-k : goal.invariant-loop-k
invariant-loop-k l = AreGone (definitions l.defs) (written l.main) l.k l.names

abbrev pub decreases-loop-k : goal.decreases-loop-k
decreases-loop-k l = l.k
