use Rattle.std.proofs.Common.{◌∙◌, arith, ap}
use Rattle.std.proofs.lemmas.Result.{IfOk-weaker}
use Rattle.sap_process.specs.Proc.{proc}
use Rattle.sap_other_nodes.specs.code.LockWalks.{lock_over}
use Rattle.sap_other_nodes.proofs.LockPlaces.{locks_fit}
use Rattle.sap_other_nodes.proofs.LocksOver.{AreByPath, over_told}
use Rattle.sap_other_nodes.proofs.other_lock.open_lock.Goals as goal

pub lock_over-requires : goal.lock_over-requires
lock_over-requires c = let few = locks_fit (proc c.args.p.now) in let small = c.requires in omega (arith, few, small)

pub returns : goal.returns
returns c =
    let by : AreByPath (proc c.args.p.now) = record {
      by_path = c.lock_places_are_by_path.ensures.ways (proc c.args.p.now);
      listed = c.lock_places_are_by_path.ensures.ways_listed (proc c.args.p.now);
    } in
    IfOk-weaker c.lock_over.result _ _ (λ o h. over_told (proc c.args.p.now) by c.args.path.now o (h ∙ ap (lock_over (proc c.args.p.now)) c.as_slice.ensures.is)) c.lock_over.ensures
