use Rattle.sap_macro.specs.Sources.{definitions, written}
use Rattle.sap_macro.specs.Walked.{steps_in}
use Rattle.sap_macro.proofs.seeing.+see.Given as goal

abbrev pub decreases-see : goal.decreases-see
decreases-see l = steps_in (definitions l.defs.now) (written l.source.now)
