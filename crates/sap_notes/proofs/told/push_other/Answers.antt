use Rattle.sap_notes.proofs.Telling.{three_pushed}
use Rattle.sap_notes.proofs.told.push_other.Goals as goal

pub returns : goal.returns
returns c =
    let said = c.in_ok-push_bytes-2.ensures.ok in
    let builtins = rw c.builtins_with.ensures at said in
    three_pushed c.args.text.now _ _ _ _ _ _ c.push_bytes-3.result c.in_ok-push_bytes.ensures.ok builtins c.push_bytes-3.ensures.ok
