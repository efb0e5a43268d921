use Rattle.std.specs.Prelude.{◌∷◌}
use Rattle.sap_terms.specs.View.{tree}
use Rattle.sap_grammar.specs.Words.{words_of}
use Rattle.sap_head_words.specs.code.Shapes.{OneTerm}
use Rattle.sap_head_words.proofs.Walked.{moved, two_found, two_later}
use Rattle.sap_head_words.proofs.terms.terms_word.Goals as goal

pub returns-in-Ok : goal.returns-in-Ok
returns-in-Ok c = λ g ns h.
    two_later h c.args.node c.in-Ok.left (words_of c.args.bytes.now c.in-Ok.rest.now) c.term_word.result
    (c.in-Ok.ensures g (h.word ∷ h.middle) h.first h.apart)
    (λ ms o. c.term_word.ensures g ms (moved (λ z. OneTerm g (tree c.args.second.now) z ms) c.args.bytes.now 1 c.in-Ok.rest.now c.beyond.result.now c.beyond.ensures o))

pub returns-in-Err : goal.returns-in-Err
returns-in-Err c = λ g ns h. two_found h c.args.node c.in-Err.left (c.in-Err.ensures g (h.word ∷ h.middle) h.first h.apart)
