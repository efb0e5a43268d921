use Rattle.sap_sides.specs.Messages.{IsSmallMessageFact}
use Rattle.sap_steps.proofs.Lists.{cited_all}
use Rattle.sap_steps.proofs.firing.fire_on_trees.Goals as goal

pub fire_trees-requires-clause-held : goal.fire_trees-requires-clause-held
fire_trees-requires-clause-held c =
    rw c.requires.are (cited_all (IsSmallMessageFact c.args.sig.now) c.args.facts.now.slots c.args.numbers.now c.requires.held)
