use Rattle.sap_explain.proofs.Telling.{told_is}
use Rattle.sap_explain.proofs.explain.push_told.Goals as goal

pub returns : goal.returns
returns c = told_is c.args.bytes.now _ _ _ c.args.fault.now c.args.told.now _ c.requires.place c.in_ok-push_place.ensures (rw c.as_slice.ensures at c.push_uses.ensures)
