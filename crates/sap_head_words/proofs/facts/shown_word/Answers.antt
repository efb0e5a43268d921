use Rattle.sap_grammar.specs.Words.{words_of}
use Rattle.sap_head_words.specs.code.Shapes.{RightSide}
use Rattle.sap_head_words.proofs.Walked.{moved, shown_found, shown_later}
use Rattle.sap_head_words.proofs.facts.shown_word.Goals as goal

pub returns-in-Ok : goal.returns-in-Ok
returns-in-Ok c = λ g ns h.
    shown_later h c.args.node c.in-Ok.left (words_of c.args.bytes.now c.in-Ok.rest.now) c.right_word.result
    (c.in-Ok.ensures g h.shown.limits h.shown.allowed h.shown.closing h.middle h.shown.spelled)
    (λ ms o. c.right_word.ensures g ms (moved (λ z. RightSide g c.args.right.now z ms) c.args.bytes.now 1 c.in-Ok.rest.now c.beyond.result.now c.beyond.ensures o))

pub returns-in-Err : goal.returns-in-Err
returns-in-Err c = λ g ns h.
    shown_found h c.args.node c.in-Err.left (c.in-Err.ensures g h.shown.limits h.shown.allowed h.shown.closing h.middle h.shown.spelled)
