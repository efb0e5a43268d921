use Rattle.sap_macro.specs.Sources.{definitions, written}
use Rattle.sap_macro.specs.Walked.{steps_in}
use Rattle.sap_macro.proofs.binders.+add_names.Given as goal

abbrev pub decreases-add_names : goal.decreases-add_names
decreases-add_names l = steps_in (definitions l.defs.now) (written l.source.now)
