use Rattle.sap_macro.specs.Sources.{definitions}
use Rattle.sap_uses.proofs.Heads.{met_smaller}
use Rattle.sap_uses.proofs.met.met_at.Goals as goal

pub loop-at-smaller : goal.loop-at-smaller
loop-at-smaller c = rw c.in-Plain.is (met_smaller (definitions c.args.defs.now) c.in-Plain.end.now c.met_first-at-in-Plain.result c.met_first-at-in-Plain.ensures)
