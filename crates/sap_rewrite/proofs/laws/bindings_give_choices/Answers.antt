use Rattle.sap_rewrite.proofs.Bound.{choice_of}
use Rattle.sap_rewrite.proofs.laws.bindings_give_choices.Goals as goal

pub returns : goal.returns
returns c = choice_of
