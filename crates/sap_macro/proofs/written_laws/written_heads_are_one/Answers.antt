use Rattle.sap_macro.proofs.WrittenHeads.{heads_are_one, heads_are_there}
use Rattle.sap_macro.proofs.written_laws.written_heads_are_one.Goals as goal

pub returns-clause-most : goal.returns-clause-most
returns-clause-most c = heads_are_one

pub returns-clause-least : goal.returns-clause-least
returns-clause-least c = heads_are_there
