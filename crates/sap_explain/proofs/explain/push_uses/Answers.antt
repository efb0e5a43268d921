use Rattle.sap_explain.proofs.Telling.{uses_are}
use Rattle.sap_explain.proofs.explain.push_uses.Goals as goal

pub returns : goal.returns
returns c = uses_are c.args.bytes.now _ _ _ c.args.uses.now _ (rw c.first_eight.ensures at c.in_ok-push_each_use.ensures) (rw c.beyond_eight.ensures at c.push_more.ensures)
