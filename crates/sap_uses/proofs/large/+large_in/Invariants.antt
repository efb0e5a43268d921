use Rattle.sap_macro.specs.Sources.{definitions, written}
use Rattle.sap_macro.specs.Walked.{steps_in}
use Rattle.sap_uses.proofs.large.+large_in.Given as goal

abbrev pub decreases-large_in : goal.decreases-large_in
decreases-large_in l = steps_in (definitions l.defs.now) (written l.source.now)
