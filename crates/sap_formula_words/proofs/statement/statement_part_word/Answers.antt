use Rattle.sap_formula.specs.View.{form}
use Rattle.sap_grammar.specs.Words.{words_of}
use Rattle.sap_formula_words.proofs.StatementWords.{spelled_part}
use Rattle.sap_formula_words.proofs.statement.statement_part_word.Goals as goal

pub returns : goal.returns
returns c = λ g m r.
    spelled_part r (words_of c.args.bytes.now c.behind_quotation.result.now) (form c.formula.result.now) c.args.part c.part_word.result c.behind_quotation.ensures c.formula.ensures c.part_word.ensures
