use Rattle.sap_grammar.proofs.DeclaredItems.{declared_sound, declared_complete, one_builtins, one_symbols}
use Rattle.sap_grammar.proofs.laws.declarations_are_read.Goals as goal

pub returns-clause-sound : goal.returns-clause-sound
returns-clause-sound c = declared_sound

pub returns-clause-complete : goal.returns-clause-complete
returns-clause-complete c = declared_complete

pub returns-clause-builtins : goal.returns-clause-builtins
returns-clause-builtins c = one_builtins

pub returns-clause-symbols : goal.returns-clause-symbols
returns-clause-symbols c = one_symbols
