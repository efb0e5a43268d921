use Rattle.sap_read_places.proofs.NodesTold.{none_written, some_written}
use Rattle.sap_read_places.proofs.flaw_told.written_told.Goals as goal

pub returns-in-None-clause-is : goal.returns-in-None-clause-is
returns-in-None-clause-is c =
    none_written c.args.bytes.now c.args.tokens.now c.args.uses.now c.args.node c.if-node-eq18446744073709551615.false c.number_of.result c.number_of.ensures c.item_tokens-item.result.now c.item_tokens-item.ensures
    c.head_word.result c.head_word.ensures c.in-None.is

pub returns-in_ok-t-in-Some-clause-is : goal.returns-in_ok-t-in-Some-clause-is
returns-in_ok-t-in-Some-clause-is c =
    some_written c.args.bytes.now c.args.tokens.now c.args.uses.now c.args.node c.if-node-eq18446744073709551615.false c.number_of.result c.number_of.ensures c.item_tokens-item.result.now c.item_tokens-item.ensures
    c.head_word.result c.head_word.ensures c.in-Some.left c.in_ok-t-in-Some.t c.in-Some.is c.in_ok-t-in-Some.ensures.word c.in_ok-t-in-Some.ensures.above
