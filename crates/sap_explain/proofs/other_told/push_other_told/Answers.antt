use Rattle.sap_explain.proofs.OtherTold.{none_other_is}
use Rattle.sap_explain.proofs.other_told.push_other_told.Goals as goal

pub returns-in-None : goal.returns-in-None
returns-in-None c = none_other_is c.args.bytes.now _ c.args.fault.now (c.in_ok-stretch.ensures.none c.in-None.is)
