use Rattle.sap_use_words.proofs.Others.{all_written, other_name}
use Rattle.sap_use_words.proofs.laws.written_uses_are_written.Goals as goal

pub returns-clause-uses : goal.returns-clause-uses
returns-clause-uses c = λ ds n p. all_written ds n p

pub returns-clause-other : goal.returns-clause-other
returns-clause-other c = λ ds n p. other_name ds n p
