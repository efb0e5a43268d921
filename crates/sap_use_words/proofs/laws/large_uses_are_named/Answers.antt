use Rattle.sap_use_words.proofs.Named.{large_name}
use Rattle.sap_use_words.proofs.laws.large_uses_are_named.Goals as goal

pub returns : goal.returns
returns c = λ ds n p order. large_name ds n p order
