use Rattle.sap_read.proofs.OneParting.{no_early_cause}
use Rattle.sap_read.proofs.laws.no_early_cause.Goals as goal

pub returns : goal.returns
returns c = no_early_cause c.item_laws.ensures c.one_answer.ensures c.statement_laws.ensures c.process_laws.ensures
