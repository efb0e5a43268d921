use Rattle.std.proofs.Common.{arith, subst, sym}
use Rattle.std.proofs.lemmas.List.Elements.{All-get_or}
use Rattle.sap_rule.specs.WellMade.{IsWellMade}
use Rattle.sap_steps.proofs.Ready.{ready_more}
use Rattle.sap_steps.proofs.state.made_ready.Goals as goal

pub ready_rule-requires : goal.ready_rule-requires
ready_rule-requires c =
    subst (IsWellMade c.args.sig.now) (sym c.r-item.is) (All-get_or (IsWellMade c.args.sig.now) c.as_slice-r-items.result.now c.loop-r.r-index c.r-item.result (omega arith) (rw c.as_slice-r-items.ensures c.requires))

pub loop-r-preserved : goal.loop-r-preserved
loop-r-preserved c =
    ready_more c.args.sig.now c.loop-r.ready c.push.new.self c.in_ok-ready_rule.field-0 c.as_slice-r-items.result.now c.loop-r.r-index c.r-item.result c.loop-r.invariant c.in_ok-push.ensures.ok (omega arith) c.r-item.is c.in_ok-ready_rule.ensures.ready c.in_ok-ready_rule.ensures.rule
