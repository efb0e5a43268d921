use Rattle.std.proofs.Common.{◌+◌, sym, ap, subst}
use Rattle.sap_macro.specs.Sources.{definition_of, definitions, written}
use Rattle.sap_beyond.specs.code.Steps.{AreFirstKept}
use Rattle.sap_beyond.proofs.Indices.{next_kept, there}
use Rattle.sap_beyond.proofs.extents.extents_of.Goals as goal

pub loop-k-preserved : goal.loop-k-preserved
loop-k-preserved c =
    subst (AreFirstKept c.args.by (definitions c.args.defs.now) (c.loop-k.k + 1)) (sym c.in_ok-push.ensures.ok)
    (next_kept c.args.by (definitions c.args.defs.now) c.requires.order c.args.index.now c.requires.index c.loop-k.k c.loop-k.extents c.loop-k.invariant (definition_of c.at.result.now)
    (there c.args.defs.now c.loop-k.k c.at.result.now c.at.ensures) (written c.deref.result.now) (ap written c.deref.ensures) c.extent_in-kept.result c.extent_in-kept.ensures)
