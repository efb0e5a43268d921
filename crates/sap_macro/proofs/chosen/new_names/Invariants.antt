use Rattle.sap_macro.proofs.Choices.{AreNamed}
use Rattle.sap_macro.proofs.chosen.new_names.Given as goal

abbrev pub invariant-loop-x : goal.invariant-loop-x
invariant-loop-x l = AreNamed l.initial.chosen l.own l.x-index l.chosen l.names
