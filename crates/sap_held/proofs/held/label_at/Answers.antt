use Rattle.sap_held.proofs.Flags.{label_is}
use Rattle.sap_held.proofs.held.label_at.Goals as goal

pub returns : goal.returns
returns c = label_is c.args.held.now c.args.k c.index-held-k.result c.requires
