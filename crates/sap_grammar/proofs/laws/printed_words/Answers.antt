use Rattle.std.proofs.Common.{false}
use Rattle.sap_grammar.proofs.Named.{term_names, fact_names}
use Rattle.sap_grammar.proofs.PrintedBytes.{term_writes, fact_writes}
use Rattle.sap_grammar.proofs.PrintedTerms.{term_spelled, term_tidy, term_front, term_free, fact_spelled, fact_tidy, fact_front, fact_free}
use Rattle.sap_grammar.proofs.laws.printed_words.Goals as goal

pub returns : goal.returns
returns c = record {
  term_spelled = λ g t h k. term_spelled t h k;
  term_tidy = λ g t a b r o. term_tidy r o;
  term_bytes = λ most t h z k e r. term_writes most (c.words_are_written.ensures most) t h z k e r;
  term_names = λ most g t a b r h. term_names most r h;
  term_front = term_front false;
  term_free = λ g t a b r h. term_free r h;
  fact_spelled = λ g f h k. fact_spelled f h k;
  fact_tidy = λ g f a b r o. fact_tidy r o;
  fact_bytes = λ most f h z k r. fact_writes most (c.words_are_written.ensures most) f h z k r;
  fact_names = λ most g f a b r h. fact_names most r h;
  fact_front = fact_front;
  fact_free = λ g f a b r h. fact_free r h;
}
