use Rattle.sap_called.proofs.Apart.{apart, kept}
use Rattle.sap_called.proofs.laws.names_are_told_apart.Goals as goal

pub returns-clause-apart : goal.returns-clause-apart
returns-clause-apart c = apart

pub returns-clause-kept : goal.returns-clause-kept
returns-clause-kept c = kept
