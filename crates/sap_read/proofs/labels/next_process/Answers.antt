use Rattle.std.proofs.Common.{◌∙◌, refl}
use Rattle.sap_read.proofs.Labelled.{passed, stopped}
use Rattle.sap_read.proofs.labels.next_process.Goals as goal

pub returns-then-is_none-clause-next : goal.returns-then-is_none-clause-next
returns-then-is_none-clause-next c =
    let here = stopped c.args.entries.now c.loop-k.k c.at.result.now c.at.ensures (rw (c.is_none.ensures, c.if-is_none.true) refl) in
    (c.at.result.now, c.at.ensures, c.loop-k.invariant ∙ here)

pub loop-k-preserved : goal.loop-k-preserved
loop-k-preserved c =
    c.loop-k.invariant ∙ passed c.args.entries.now c.loop-k.k c.at.result.now c.at.ensures (rw (c.is_none.ensures, c.if-is_none.false) refl)
