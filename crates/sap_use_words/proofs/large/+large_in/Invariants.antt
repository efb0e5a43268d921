use Rattle.sap_macro.specs.Sources.{definitions}
use Rattle.sap_use_words.specs.code.Walk.{steps_from}
use Rattle.sap_use_words.proofs.large.+large_in.Given as goal

abbrev pub decreases-large_in : goal.decreases-large_in
decreases-large_in l = steps_from (definitions l.defs.now) l.here
