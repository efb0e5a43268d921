use Rattle.sap_grammar.specs.Sizes.{IsSmall}
use Rattle.sap_grammar.specs.TermGrammar.{IsTerm}
use Rattle.sap_grammar.proofs.Complete.{one_term}
use Rattle.sap_grammar.proofs.Places.{one_at}
use Rattle.sap_grammar.proofs.laws.one_term.Goals as goal

pub returns-clause-words : goal.returns-clause-words
returns-clause-words c = one_term

pub returns-clause-places : goal.returns-clause-places
returns-clause-places c = λ m g. one_at (IsTerm g) (IsSmall m) (one_term g)
