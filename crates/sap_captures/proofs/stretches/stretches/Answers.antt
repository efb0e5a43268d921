use Rattle.sap_captures.proofs.Ascending.{flag_step}
use Rattle.sap_captures.proofs.stretches.stretches.Goals as goal

pub loop-k-preserved : goal.loop-k-preserved
loop-k-preserved c = (
  flag_step c.args.tokens.now c.args.flags.now c.loop-k.k c.flag_at-flag.result c.loop-k.told c.push_flagged.new.told c.flag_at-flag.ensures c.loop-k.invariant.0 c.in_ok-push_flagged.ensures.are,
  λ size w. c.in_ok-push_flagged.ensures.inside size w (c.loop-k.invariant.1 size w),
)
