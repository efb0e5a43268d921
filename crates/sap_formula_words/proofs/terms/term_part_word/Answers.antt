use Rattle.std.proofs.Common.{sym, ◌∙◌, arith}
use Rattle.sap_grammar.proofs.ReadingLaws.Tokens.{length-words}
use Rattle.sap_formula_words.proofs.Bounds.{term_few}
use Rattle.sap_formula_words.proofs.Reaches.{part_is_node, part_is_none}
use Rattle.sap_formula_words.proofs.terms.term_part_word.Goals as goal

pub returns-in-Ok : goal.returns-in-Ok
returns-in-Ok c = λ g b r. sym (part_is_none (record { counts = c.nodes_and_words.ensures.nodes; within = c.nodes_and_words.ensures.within; words = c.nodes_and_words.ensures.words; same = c.nodes_and_words.ensures.same }) r c.args.part c.in-Ok.field-0 (sym c.seek.ensures ∙ c.in-Ok.is))

pub returns-in-Err : goal.returns-in-Err
returns-in-Err c = λ g b r.
    c.node_word.ensures g b r ∙ sym (part_is_node (record { counts = c.nodes_and_words.ensures.nodes; within = c.nodes_and_words.ensures.within; words = c.nodes_and_words.ensures.words; same = c.nodes_and_words.ensures.same }) r c.args.part c.in-Err.node (omega (arith, term_few r, length-words c.args.bytes.now c.args.tokens.now, c.count-count.ensures)) (sym c.seek.ensures ∙ c.in-Err.is))
