use Rattle.sap_called.proofs.Apart.{by_word, others}
use Rattle.sap_called.proofs.laws.names_are_called_by_their_words.Goals as goal

pub returns-clause-drawn : goal.returns-clause-drawn
returns-clause-drawn c = by_word

pub returns-clause-others : goal.returns-clause-others
returns-clause-others c = others
