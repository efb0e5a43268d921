use Rattle.std.proofs.Common.{sym, ◌∙◌, ap, cond, Some, take}
use Rattle.sap_terms.specs.View.{tree}
use Rattle.sap_held.specs.code.Last.{last_open, is_open_of}
use Rattle.sap_held.proofs.Flags.{last_step}
use Rattle.sap_held.proofs.held.last_open.Goals as goal

pub loop-k-preserved : goal.loop-k-preserved
loop-k-preserved c =
    let before = last_open (tree c.args.t.now) (take c.loop-k.k c.args.held.now) in
    let step = last_step (tree c.args.t.now) c.args.held.now c.loop-k.k c.index-held-k.result c.loop-k-test.true ∙ ap (λ h. cond (is_open_of (tree c.args.t.now) h) (Some c.loop-k.k) before) (sym c.index-held-k.is) in
    c.later-last.ensures ∙ (λ i. cond (c.is_open_of.ensures i) (Some c.loop-k.k) (c.loop-k.invariant i)) ∙ sym step
