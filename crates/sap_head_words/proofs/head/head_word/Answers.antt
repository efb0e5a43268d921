use Rattle.sap_terms.specs.View.{tree}
use Rattle.sap_head_words.specs.code.Shapes.{TermAndName, TwoTerms}
use Rattle.sap_head_words.proofs.Shaped.{act_shape, lookup_shape, test_shape, use_shape}
use Rattle.sap_head_words.proofs.Walked.{moved}
use Rattle.sap_head_words.proofs.head.head_word.Goals as goal

pub returns-in-Call : goal.returns-in-Call
returns-in-Call c = rw c.in-Call.is (λ g ns h. c.use_word.ensures g ns (use_shape h))

pub returns-in-Act : goal.returns-in-Act
returns-in-Act c = rw c.in-Act.is (λ g ns h. c.action_word.ensures g ns (rw c.deref.ensures (act_shape h)))

pub returns-in-If : goal.returns-in-If
returns-in-If c =
    rw c.in-If.is
    (λ g ns h. c.terms_word.ensures g ns
    (moved (λ z. TwoTerms g (tree c.in-If.t) (tree c.in-If.u) z ns) c.args.bytes.now 1 c.args.tokens.now c.beyond.result.now c.beyond.ensures (test_shape h)))

pub returns-in-Lookup : goal.returns-in-Lookup
returns-in-Lookup c =
    rw c.in-Lookup.is
    (λ g ns h. c.term_or_name_word.ensures g ns
    (moved (λ z. TermAndName g (tree c.in-Lookup.t) z ns) c.args.bytes.now 1 c.args.tokens.now c.beyond-in-Lookup.result.now c.beyond-in-Lookup.ensures (lookup_shape h)))
