use Rattle.sap_explain.proofs.Telling.{none_told_is}
use Rattle.sap_explain.proofs.explain.push_place_told.Goals as goal

pub returns-in-None : goal.returns-in-None
returns-in-None c = none_told_is c.args.bytes.now _ c.args.fault.now (c.in_ok-told.ensures.none c.in-None.is)
