use Rattle.std.proofs.Common.{◌≡◌, ◌<◌, ◌∙◌, length, drop, false, arith}
use Rattle.std.proofs.lemmas.Grind.{common_steps}
use Rattle.sap_text.specs.Tokens.{starts_two}
use Rattle.sap_text.proofs.Splits.{close_step}
use Rattle.sap_text.proofs.bytes.find_close.Goals as goal

pub loop-k-preserved : goal.loop-k-preserved
loop-k-preserved c =
    let here : starts_two 42 47 (drop c.loop-k.k c.args.bytes.now) ≡ false = grind (arith, common_steps) in
    let lt : c.loop-k.k < length c.args.bytes.now = omega arith in
    c.loop-k.invariant ∙ close_step c.args.bytes.now c.loop-k.k lt here
