use Rattle.sap_read_places.proofs.PlacedFiles.{same_definitions, same_main, same_tokens}
use Rattle.sap_read_places.proofs.laws.one_placed_file.Goals as goal

pub returns-clause-tokens : goal.returns-clause-tokens
returns-clause-tokens c = λ z ts us ds es m n p q.
    same_tokens c.one_parting.ensures.tokens c.one_parting.ensures.items c.one_list_of_items.ensures.own c.located_items.ensures.one p q

pub returns-clause-definitions : goal.returns-clause-definitions
returns-clause-definitions c = λ z ts us ds es m n p q.
    same_definitions c.one_parting.ensures.tokens c.one_parting.ensures.items c.one_list_of_items.ensures.own c.located_items.ensures.one p q

pub returns-clause-main : goal.returns-clause-main
returns-clause-main c = λ z ts us ds es m n p q.
    same_main c.one_parting.ensures.tokens c.one_parting.ensures.items c.one_list_of_items.ensures.own c.located_items.ensures.one p q
