use Rattle.std.proofs.Common.{◌<◌, length, subst, arith}
use Rattle.sap_grammar.specs.Words.{words_of}
use Rattle.sap_node_words.specs.Past.{IsPast}
use Rattle.sap_head_words.specs.code.Shapes.{Arguments}
use Rattle.sap_head_words.proofs.Walked.{moved, use_some}
use Rattle.sap_head_words.proofs.terms.use_word.Goals as goal

pub returns : goal.returns
returns c = λ g ns h.
    let some : 0 < length c.args.terms.now = omega (arith, c.len.ensures, c.if-len-eq0.false) in
    let inside : Arguments g c.args.terms.now (words_of c.args.bytes.now c.beyond.result.now) ns =
    moved (λ z. Arguments g c.args.terms.now z ns) c.args.bytes.now 2 c.args.tokens.now c.beyond.result.now c.beyond.ensures
    (use_some g c.args.terms.now (words_of c.args.bytes.now c.args.tokens.now) ns some h) in
    c.found.ensures c.args.bytes.now ns c.args.node inside.behind
    (subst (λ z. IsPast c.args.bytes.now z c.args.node inside.behind c.past_args.result) inside.numbers (c.past_args.ensures g inside.behind inside.spelled))
