use Rattle.sap_explain.proofs.Telling.{use_is}
use Rattle.sap_explain.proofs.explain.push_use_at.Goals as goal

pub returns : goal.returns
returns c =
    use_is c.args.bytes.now _ _ _ c.args.used c.position_of-position.result _ c.position_of-position.ensures c.in_ok-push_name.ensures c.push_numbered.ensures
