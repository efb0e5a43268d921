use Rattle.sap_called.proofs.Spelled.{facts, terms}
use Rattle.sap_called.proofs.laws.told_as_spelled.Goals as goal

pub returns-clause-terms : goal.returns-clause-terms
returns-clause-terms c = terms

pub returns-clause-facts : goal.returns-clause-facts
returns-clause-facts c = facts
