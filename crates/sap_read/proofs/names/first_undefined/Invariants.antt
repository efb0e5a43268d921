use Rattle.sap_read.specs.code.Known.{AreBehind}
use Rattle.sap_read.proofs.names.first_undefined.Given as goal

abbrev pub invariant-loop-entry : goal.invariant-loop-entry
invariant-loop-entry l = AreBehind l.entries l.entry-index l.names
