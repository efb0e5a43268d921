use Rattle.std.proofs.Common.{arith}
use Rattle.sap_explain.proofs.Telling.{no_uses, uses_more}
use Rattle.sap_explain.proofs.explain.push_each_use.Goals as goal

pub loop-k-init : goal.loop-k-init
loop-k-init c = record { on = omega arith; texts = no_uses c.args.bytes.now c.args.text.now }

pub loop-k-preserved : goal.loop-k-preserved
loop-k-preserved c =
    let lt = c.loop-k-test.true in record {
      on = omega (arith, lt);
      texts = uses_more c.args.bytes.now c.args.text.now c.loop-k.text c.push_use_at.new.text c.args.uses.now c.loop-k.k _ lt c.loop-k.invariant.texts c.in_ok-push_use_at.ensures;
    }
