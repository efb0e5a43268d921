use Rattle.std.proofs.Common.{sym}
use Rattle.sap_terms.specs.View.{tree}
use Rattle.sap_grammar.specs.Words.{words_of}
use Rattle.sap_formula_words.proofs.Reaches.{no_part, part_is_word, part_in_term}
use Rattle.sap_formula_words.proofs.walk.part_word.Goals as goal

pub returns-in-Ok : goal.returns-in-Ok
returns-in-Ok c = λ g e n b r. sym (no_part (record { counts = c.nodes_and_words.ensures.nodes; within = c.nodes_and_words.ensures.within; words = c.nodes_and_words.ensures.words; same = c.nodes_and_words.ensures.same }) r c.args.part _ c.in-Ok.ensures)

pub returns-in-Err-Word : goal.returns-in-Err-Word
returns-in-Err-Word c = λ g e n b r. sym (part_is_word (record { counts = c.nodes_and_words.ensures.nodes; within = c.nodes_and_words.ensures.within; words = c.nodes_and_words.ensures.words; same = c.nodes_and_words.ensures.same }) r c.args.part c.in-Err-Word.left (rw c.in-Err-Word.field-0-is at c.in-Err-Word.ensures))

pub returns-in-Err-Term : goal.returns-in-Err-Term
returns-in-Err-Term c = λ g e n b r.
    part_in_term (record { counts = c.nodes_and_words.ensures.nodes; within = c.nodes_and_words.ensures.within; words = c.nodes_and_words.ensures.words; same = c.nodes_and_words.ensures.same }) r c.args.part (tree c.in-Err-Term.term.now) (words_of c.args.bytes.now c.in-Err-Term.words.now) c.in-Err-Term.part (rw c.in-Err-Term.field-0-is at c.in-Err-Term.ensures) c.term_part_word.result c.term_part_word.ensures
