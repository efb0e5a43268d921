use Rattle.sap_sides.proofs.Names.{any_decides}
use Rattle.sap_sides.proofs.made.is_among.Goals as goal

pub returns : goal.returns
returns c = any_decides c.args.names.now.keys c.args.n c.contains.result c.contains.ensures
