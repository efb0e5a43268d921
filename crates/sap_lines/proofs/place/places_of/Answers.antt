use Rattle.sap_process.specs.Proc.{proc}
use Rattle.sap_lines.proofs.Placed.{rooted}
use Rattle.sap_lines.proofs.place.places_of.Goals as goal

pub returns : goal.returns
returns c = rooted _ _ c.in_ok-root.root (proc c.args.p.now) c.in_ok-root.ensures
