use Rattle.std.proofs.Common.{◌<◌, length, arith}
use Rattle.sap_called.proofs.Kept.{lines_pushed}
use Rattle.sap_called.proofs.names.push_names.Goals as goal

pub loop-k-preserved : goal.loop-k-preserved
loop-k-preserved c =
    let ds = c.args.names.now in
    let within : c.loop-k.k < length ds = omega (arith, c.len-k-end.ensures) in
    lines_pushed ds c.loop-k.k c.args.text.now c.loop-k.text c.push_nth.new.text within c.loop-k.invariant c.in_ok-push_nth.ensures
