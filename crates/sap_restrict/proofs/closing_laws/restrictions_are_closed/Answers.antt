use Rattle.sap_restrict.proofs.Closings.{admitted_filled, standard_closed}
use Rattle.sap_restrict.proofs.closing_laws.restrictions_are_closed.Goals as goal

pub returns-clause-closed : goal.returns-clause-closed
returns-clause-closed c = standard_closed

pub returns-clause-filled : goal.returns-clause-filled
returns-clause-filled c = admitted_filled c.empty_times_are_not_seen.ensures.truth
