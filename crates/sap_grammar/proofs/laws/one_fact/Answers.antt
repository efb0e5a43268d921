use Rattle.sap_grammar.specs.Sizes.{AreSmall}
use Rattle.sap_grammar.specs.FactGrammar.{IsFact}
use Rattle.sap_grammar.proofs.Complete.{one_fact}
use Rattle.sap_grammar.proofs.Places.{one_at}
use Rattle.sap_grammar.proofs.laws.one_fact.Goals as goal

pub returns-clause-words : goal.returns-clause-words
returns-clause-words c = one_fact

pub returns-clause-places : goal.returns-clause-places
returns-clause-places c = λ m g. one_at (IsFact g) (λ f. AreSmall m f.args) (λ f h a b d r s e k. one_fact g f h a b d r s)
