use Rattle.std.proofs.Common.{◌∷◌, []}
use Rattle.std.proofs.lemmas.Result.{IfOk-weaker}
use Rattle.sap_process.specs.Proc.{proc}
use Rattle.sap_other_nodes.specs.code.Binders.{IsAlong, IsBoundHere}
use Rattle.sap_other_nodes.proofs.BinderWays.{at_end}
use Rattle.sap_other_nodes.proofs.other_binder.at_end.Goals as goal

pub returns : goal.returns
returns c =
    IfOk-weaker c.bound_here.result (λ o. IsBoundHere (proc c.args.p.now) 1 c.args.name.now c.args.depth o) (λ o. IsAlong (proc c.args.p.now) (1 ∷ []) c.args.name.now c.args.depth o)
    (λ o h. at_end (proc c.args.p.now) c.args.name.now c.args.depth o h) c.bound_here.ensures
