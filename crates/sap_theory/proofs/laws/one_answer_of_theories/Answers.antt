use Rattle.sap_theory.proofs.OneReading.{one_answer_of_theories}
use Rattle.sap_theory.proofs.laws.one_answer_of_theories.Goals as goal

pub returns : goal.returns
returns c = one_answer_of_theories (record {
  one_answer = c.one_answer.ensures;
  one_cut = c.words_are_cut.ensures.one;
  one_header = c.headers_are_read.ensures.one;
  one_statement = c.one_statement.ensures;
  facts_read = c.facts_are_read.ensures.lists_complete;
  declared = c.declarations_are_read.ensures.complete;
  one_builtins = c.declarations_are_read.ensures.builtins;
  one_symbols = c.declarations_are_read.ensures.symbols;
}) c.one_faulty_statement.ensures.one c.one_faulty_statement.ensures.never
