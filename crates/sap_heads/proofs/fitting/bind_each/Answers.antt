use Rattle.sap_share.specs.Env.{bindings_of}
use Rattle.sap_heads.proofs.Stays.{bind_more}
use Rattle.sap_heads.proofs.Numbers.{keeps_twice}
use Rattle.sap_heads.proofs.fitting.bind_each.Goals as goal

pub loop-i-preserved : goal.loop-i-preserved
loop-i-preserved c =
    let h = c.loop-i.invariant in
    let m = bind_more c.loop-i.table c.put.new.self (bindings_of c.args.table.now.trees c.args.env.now) c.args.b.now c.loop-i.i c.at-e.result.now c.loop-i.env c.push.new.self (record { var = c.in_ok-var.var; id = c.in_ok-id.id }) h.is h.below c.in_ok-id.ensures.gives c.in_ok-var.ensures c.at-e.ensures c.in_ok-push.ensures.ok in
    record { is = m.0; below = m.1; keeps = keeps_twice c.args.table.now c.loop-i.table c.put.new.self h.keeps c.in_ok-id.ensures.keeps }

pub returns-in_err-id-clause-keeps : goal.returns-in_err-id-clause-keeps
returns-in_err-id-clause-keeps c = keeps_twice c.args.table.now c.loop-i.table c.put.new.self c.loop-i.invariant.keeps c.in_err-id.ensures.keeps

pub returns-in_err-var-clause-keeps : goal.returns-in_err-var-clause-keeps
returns-in_err-var-clause-keeps c = keeps_twice c.args.table.now c.loop-i.table c.put.new.self c.loop-i.invariant.keeps c.in_ok-id.ensures.keeps

pub returns-in_err-push-clause-keeps : goal.returns-in_err-push-clause-keeps
returns-in_err-push-clause-keeps c = keeps_twice c.args.table.now c.loop-i.table c.put.new.self c.loop-i.invariant.keeps c.in_ok-id.ensures.keeps
