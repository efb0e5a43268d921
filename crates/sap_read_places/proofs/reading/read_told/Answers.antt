use Rattle.sap_read_places.proofs.ReachedFiles.{bytes_unread, items_of, judged_of, uses_of, words_of, words_unread}
use Rattle.sap_read_places.proofs.reading.read_told.Goals as goal

pub returns-in-Bytes-clause-none : goal.returns-in-Bytes-clause-none
returns-in-Bytes-clause-none c = λ e. bytes_unread c.args.bytes.now c.args.tokens.now c.args.fault.now c.args.reached c.in-Bytes.is c.requires.reached

pub returns-in-Tokens-clause-none : goal.returns-in-Tokens-clause-none
returns-in-Tokens-clause-none c = λ e. words_unread c.args.bytes.now c.args.fault.now (words_of c.args.bytes.now c.args.tokens.now c.args.fault.now c.args.reached c.in-Tokens.is c.requires.reached)

pub told_of_items-requires-clause-tokens : goal.told_of_items-requires-clause-tokens
told_of_items-requires-clause-tokens c = (items_of c.args.bytes.now c.args.tokens.now c.args.fault.now c.args.reached c.in-Items.said c.in-Items.is c.requires.reached).0

pub told_of_items-requires-clause-said : goal.told_of_items-requires-clause-said
told_of_items-requires-clause-said c = (items_of c.args.bytes.now c.args.tokens.now c.args.fault.now c.args.reached c.in-Items.said c.in-Items.is c.requires.reached).1

pub told_of_items-requires-clause-items : goal.told_of_items-requires-clause-items
told_of_items-requires-clause-items c = (items_of c.args.bytes.now c.args.tokens.now c.args.fault.now c.args.reached c.in-Items.said c.in-Items.is c.requires.reached).2

pub told_of_uses-requires-clause-tokens : goal.told_of_uses-requires-clause-tokens
told_of_uses-requires-clause-tokens c = (uses_of c.args.bytes.now c.args.tokens.now c.args.fault.now c.args.reached c.in-Written.written c.in-Written.is c.requires.reached).0

pub told_of_uses-requires-clause-written : goal.told_of_uses-requires-clause-written
told_of_uses-requires-clause-written c = (uses_of c.args.bytes.now c.args.tokens.now c.args.fault.now c.args.reached c.in-Written.written c.in-Written.is c.requires.reached).1

pub told_of_uses-requires-clause-uses : goal.told_of_uses-requires-clause-uses
told_of_uses-requires-clause-uses c = (uses_of c.args.bytes.now c.args.tokens.now c.args.fault.now c.args.reached c.in-Written.written c.in-Written.is c.requires.reached).2

pub told_of_judged-requires-clause-tokens : goal.told_of_judged-requires-clause-tokens
told_of_judged-requires-clause-tokens c =
    (judged_of c.args.bytes.now c.args.tokens.now c.args.fault.now c.args.reached c.in-Expanded.written c.in-Expanded.process c.in-Expanded.is c.requires.reached).0

pub told_of_judged-requires-clause-written : goal.told_of_judged-requires-clause-written
told_of_judged-requires-clause-written c =
    (judged_of c.args.bytes.now c.args.tokens.now c.args.fault.now c.args.reached c.in-Expanded.written c.in-Expanded.process c.in-Expanded.is c.requires.reached).1

pub told_of_judged-requires-clause-process : goal.told_of_judged-requires-clause-process
told_of_judged-requires-clause-process c =
    (judged_of c.args.bytes.now c.args.tokens.now c.args.fault.now c.args.reached c.in-Expanded.written c.in-Expanded.process c.in-Expanded.is c.requires.reached).2

pub told_of_judged-requires-clause-judged : goal.told_of_judged-requires-clause-judged
told_of_judged-requires-clause-judged c =
    (judged_of c.args.bytes.now c.args.tokens.now c.args.fault.now c.args.reached c.in-Expanded.written c.in-Expanded.process c.in-Expanded.is c.requires.reached).3
