use Rattle.sap_read_places.proofs.BodyNodeTold.{none_told, some_told}
use Rattle.sap_read_places.proofs.body_flaw_told.told_at.Goals as goal

pub returns-in-None-clause-is : goal.returns-in-None-clause-is
returns-in-None-clause-is c =
    none_told c.args.bytes.now c.args.tokens.now c.args.place.now c.number_of.result c.number_of.ensures c.item_tokens-item.result.now c.item_tokens-item.ensures c.args.node c.seen_word.result
    c.seen_word.ensures c.in-None.is

pub returns-in_ok-t-in-Some-clause-is : goal.returns-in_ok-t-in-Some-clause-is
returns-in_ok-t-in-Some-clause-is c =
    some_told c.args.bytes.now c.args.tokens.now c.args.place.now c.number_of.result c.number_of.ensures c.item_tokens-item.result.now c.item_tokens-item.ensures c.args.node c.seen_word.result
    c.seen_word.ensures c.in-Some.left c.in_ok-t-in-Some.t c.in-Some.is c.in_ok-t-in-Some.ensures.word c.in_ok-t-in-Some.ensures.above
