use Rattle.sap_grammar.proofs.ByteWords.{are_written}
use Rattle.sap_grammar.proofs.laws.words_are_written.Goals as goal

pub returns : goal.returns
returns c = λ most. are_written (record {
  names = c.longest_tokens.ensures.names;
  numbers = c.longest_tokens.ensures.numbers;
  contents = c.longest_tokens.ensures.quoted;
  symbols = c.longest_tokens.ensures.symbols;
}) most
