use Rattle.sap_expect.proofs.FollowItems.{file_follows}
use Rattle.sap_expect.proofs.LetteredTokens.{words_lettered}
use Rattle.sap_expect.proofs.SpelledItems.{file_spelled}
use Rattle.sap_terms.specs.Signature.{pairs_alone}
use Rattle.sap_expect.proofs.file_laws.table_is_the_grammar.Goals as goal

pub returns : goal.returns
returns c = record {
  follows = file_follows;
  spelled = file_spelled pairs_alone;
  letters = λ z ts tokens. words_lettered z ts (λ k t e. c.spans_are_tokens.ensures z ts k t tokens e);
}
