use Rattle.sap_macro.specs.Sources.{definition_of, definitions}
use Rattle.sap_uses.specs.code.Met.{IsReached}
use Rattle.sap_uses.specs.Sizes.{size_in}
use Rattle.sap_uses.proofs.Heads.{steps_reached}
use Rattle.sap_uses.proofs.large.behind_uses.Given as goal

abbrev pub invariant-loop-r : goal.invariant-loop-r
invariant-loop-r l = IsReached (definitions l.defs) (size_in l.sizes) (definition_of l.d) l.args l.r

abbrev pub decreases-loop-r : goal.decreases-loop-r
decreases-loop-r l = steps_reached (definitions l.defs) l.r
