use Rattle.sap_where.proofs.ItemPlace.{piece_at, piece_nowhere}
use Rattle.sap_where.proofs.cause.place_among_tokens.Goals as goal

pub returns-in-Syntax-clause-place : goal.returns-in-Syntax-clause-place
returns-in-Syntax-clause-place c =
    piece_at c.args.bytes.now c.args.fault.now c.in-Syntax.line c.item_place.result c.in-Syntax.is
    (c.item_place.ensures.place c.args.bytes.now c.requires.tokens (c.requires.wrong c.in-Syntax.line c.in-Syntax.is))

pub returns-in-Syntax-clause-inside : goal.returns-in-Syntax-clause-inside
returns-in-Syntax-clause-inside c = c.item_place.ensures.inside c.args.bytes.now c.requires.tokens

pub returns-in-Syntax-clause-item : goal.returns-in-Syntax-clause-item
returns-in-Syntax-clause-item c = λ line is none. c.item_place.ensures.words c.args.bytes.now (c.requires.wrong line is) none

pub returns-in-Syntax-clause-none : goal.returns-in-Syntax-clause-none
returns-in-Syntax-clause-none c =
    piece_nowhere c.args.bytes.now c.args.fault.now c.in-Syntax.line c.item_place.result c.in-Syntax.is
    (c.item_place.ensures.none c.args.bytes.now c.requires.tokens (c.requires.wrong c.in-Syntax.line c.in-Syntax.is))
