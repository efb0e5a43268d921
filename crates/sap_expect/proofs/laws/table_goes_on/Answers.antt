use Rattle.sap_expect.proofs.ReachedEnds.{reached_ends}
use Rattle.sap_expect.proofs.Takes.{one_next}
use Rattle.sap_expect.proofs.laws.table_goes_on.Goals as goal

pub returns : goal.returns
returns c = record { one_next = one_next; ends = reached_ends }
