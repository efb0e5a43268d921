use Rattle.sap_macro.specs.Sources.{definitions, written}
use Rattle.sap_beyond.proofs.Entered.{deep_found}
use Rattle.sap_beyond.proofs.beyond.level_beyond.Goals as goal

pub returns : goal.returns
returns c =
    deep_found c.shapes_are_one.ensures (definitions c.args.defs.now) (written c.args.main.now) c.args.digits c.in_ok-found.found c.requires.order c.requires.uses c.in_ok-found.ensures
