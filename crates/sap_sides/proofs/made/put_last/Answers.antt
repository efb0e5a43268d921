use Rattle.std.proofs.Common.{◌∙◌}
use Rattle.sap_sides.proofs.Names.{new_is_last}
use Rattle.sap_sides.proofs.made.put_last.Goals as goal

pub returns : goal.returns
returns c = c.in-Ok.ensures.keys ∙ new_is_last c.args.names.now.keys c.args.n c.requires.new
