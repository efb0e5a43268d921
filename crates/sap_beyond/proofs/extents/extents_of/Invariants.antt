use Rattle.sap_macro.specs.Sources.{definitions}
use Rattle.sap_beyond.specs.code.Steps.{AreFirstKept}
use Rattle.sap_beyond.proofs.extents.extents_of.Given as goal

abbrev pub invariant-loop-k : goal.invariant-loop-k
invariant-loop-k l = AreFirstKept l.by (definitions l.defs) l.k l.extents
