use Rattle.sap_read.proofs.Known.{behind_none}
use Rattle.sap_read.proofs.names.first_undefined.Goals as goal

pub loop-entry-init : goal.loop-entry-init
loop-entry-init c = behind_none c.args.entries.now c.new-names.result c.new-names.ensures
