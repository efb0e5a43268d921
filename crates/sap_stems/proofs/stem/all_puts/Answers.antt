use Rattle.std.proofs.Common.{◌+◌, drop, ap, ◌∙◌}
use Rattle.sap_stems.specs.code.Makings.{all_put}
use Rattle.sap_stems.proofs.MakingLemmas.{all_step}
use Rattle.sap_stems.proofs.stem.all_puts.Goals as goal

pub loop-k-preserved : goal.loop-k-preserved
loop-k-preserved c =
    ap (λ ps. all_put c.args.defs.now ps (c.loop-k.k + 1) (drop (c.loop-k.k + 1) c.args.uses.now)) c.in_ok-puts.ensures
    ∙ all_step c.args.defs.now c.loop-k.puts c.args.uses.now c.loop-k.k c.at.result.now c.at.ensures
    ∙ c.loop-k.invariant
