use Rattle.std.proofs.Common.{rules, ◌≡◌, Err, Ok, arith}
use Rattle.sap_terms.specs.View.{tree}
use Rattle.sap_grammar.specs.Words.{words_of}
use Rattle.sap_node_words.specs.code.Walk.{past_word, term_walk}
use Rattle.sap_node_words.proofs.Steps.{no_parts, parts_found, parts_go_on}
use Rattle.sap_node_words.proofs.walk.+walk.Goals as goal

pub walk_parts-returns-then-len-ne2 : goal.walk_parts-returns-then-len-ne2
walk_parts-returns-then-len-ne2 t c = no_parts c.args.terms.now c.args.before _ (omega arith)

pub walk_parts-returns-in_err-before : goal.walk_parts-returns-in_err-before
walk_parts-returns-in_err-before t c =
    let walked : past_word (term_walk (tree c.at.result.now) c.args.before (words_of c.args.bytes.now c.args.tokens.now)) ≡ Err c.in_err-before.field-0.0 =
    rw c.in_err-before.was at (c.past_word.ensures c.args.bytes.now (term_walk (tree c.at.result.now) c.args.before (words_of c.args.bytes.now c.args.tokens.now)) c.walk_term.ensures) in
    rw (parts_found c.args.terms.now c.args.before c.in_err-before.field-0.0 _ (tree c.at.result.now) (omega arith) c.at.ensures.got walked) (search rules)

pub walk_parts-returns : goal.walk_parts-returns
walk_parts-returns t c =
    let walked : past_word (term_walk (tree c.at.result.now) c.args.before (words_of c.args.bytes.now c.args.tokens.now)) ≡ Ok (c.in_ok-before.before, words_of c.args.bytes.now c.in_ok-before.tokens.now) =
    rw c.in_ok-before.was at (c.past_word.ensures c.args.bytes.now (term_walk (tree c.at.result.now) c.args.before (words_of c.args.bytes.now c.args.tokens.now)) c.walk_term.ensures) in
    rw (parts_go_on c.args.terms.now c.args.before c.in_ok-before.before _ (words_of c.args.bytes.now c.in_ok-before.tokens.now) (tree c.at.result.now) (tree c.at-2.result.now) (omega arith) c.at.ensures.got c.at-2.ensures.got walked) c.walk_rest.ensures
