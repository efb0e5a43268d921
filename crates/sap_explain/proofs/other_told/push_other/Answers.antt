use Rattle.sap_explain.proofs.OtherTold.{other_is}
use Rattle.sap_explain.proofs.other_told.push_other.Goals as goal

pub returns : goal.returns
returns c = other_is c.args.bytes.now _ _ _ c.args.fault.now c.args.stretch _ c.requires.place c.in_ok-push_bytes.ensures.ok c.push_place.ensures
