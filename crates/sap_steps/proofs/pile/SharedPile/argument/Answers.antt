use Rattle.sap_steps.proofs.Piled.{argument_seen}
use Rattle.sap_steps.proofs.pile.SharedPile.argument.Goals as goal

pub returns-in-Some : goal.returns-in-Some
returns-in-Some c = argument_seen c.args.self.now.trees c.args.self.now.slots c.args.k c.in-Some.h.now c.args.name.now c.argument.result c.in-Some.ensures.0 c.in-Some.ensures.1 c.argument.ensures
