use Rattle.sap_macro.specs.Sources.{definitions, written}
use Rattle.sap_macro.specs.Walked.{steps_in}
use Rattle.sap_macro.proofs.building.+build_in.Given as goal

abbrev pub decreases-build_in : goal.decreases-build_in
decreases-build_in l = steps_in (definitions l.defs.now) (written l.source.now)
