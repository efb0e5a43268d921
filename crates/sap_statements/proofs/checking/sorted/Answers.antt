use Rattle.std.proofs.Common.{subst}
use Rattle.sap_formula.specs.Faults.{HasNoFault}
use Rattle.sap_formula.specs.Form.{Form}
use Rattle.sap_statements.proofs.checking.sorted.Goals as goal

pub returns-in_ok-boxed-in-Ok-clause-sound : goal.returns-in_ok-boxed-in-Ok-clause-sound
returns-in_ok-boxed-in-Ok-clause-sound c = subst (λ (f : Form). HasNoFault c.args.sig.now c.args.reserved f) c.formula.ensures c.in-Ok.ensures.sound
