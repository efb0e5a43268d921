use Rattle.sap_formula.proofs.Law.{entered, found_apart}
use Rattle.sap_formula.proofs.Slimmer.{slim_closed, slim_once}
use Rattle.sap_formula.proofs.laws.binders_are_found.Goals as goal

pub returns-clause-own : goal.returns-clause-own
returns-clause-own c = entered

pub returns-clause-other : goal.returns-clause-other
returns-clause-other c = found_apart

pub returns-clause-closed : goal.returns-clause-closed
returns-clause-closed c = slim_closed

pub returns-clause-once : goal.returns-clause-once
returns-clause-once c = slim_once
