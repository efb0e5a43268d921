use Rattle.sap_grammar.proofs.Short.{short_is, short_read}
use Rattle.sap_grammar.proofs.laws.terms_are_read.Goals as goal

pub returns-clause-sound : goal.returns-clause-sound
returns-clause-sound c = short_is

pub returns-clause-complete : goal.returns-clause-complete
returns-clause-complete c = short_read
