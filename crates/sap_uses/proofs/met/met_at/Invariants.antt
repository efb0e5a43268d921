use Rattle.sap_macro.specs.Sources.{definitions, written}
use Rattle.sap_uses.specs.code.Met.{IsMet}
use Rattle.sap_uses.proofs.Heads.{steps_met}
use Rattle.sap_uses.proofs.met.met_at.Given as goal

abbrev pub invariant-loop-at : goal.invariant-loop-at
invariant-loop-at l = IsMet (definitions l.defs) l.at (written l.source)

abbrev pub decreases-loop-at : goal.decreases-loop-at
decreases-loop-at l = steps_met (definitions l.defs) l.at
