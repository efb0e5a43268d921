use Rattle.sap_macro.specs.Sources.{definitions, written}
use Rattle.sap_beyond.proofs.Entered.{numbered_found}
use Rattle.sap_beyond.proofs.beyond.place_beyond.Goals as goal

pub returns : goal.returns
returns c =
    numbered_found c.shapes_are_one.ensures (definitions c.args.defs.now) (written c.args.main.now) c.args.number c.in_ok-found.found c.requires.order c.requires.uses c.in_ok-found.ensures
