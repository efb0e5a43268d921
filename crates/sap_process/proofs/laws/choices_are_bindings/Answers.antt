use Rattle.sap_process.proofs.Agreeing.{choice_bindings}
use Rattle.sap_process.proofs.laws.choices_are_bindings.Goals as goal

pub returns : goal.returns
returns c = choice_bindings
