use Rattle.std.proofs.Common.{◌∙◌, refl, sym, arith}
use Rattle.sap_process.proofs.TermTests.{over-from}
use Rattle.sap_process.proofs.heads.are_facts_over.Goals as goal

pub returns-then-not-are_over : goal.returns-then-not-are_over
returns-then-not-are_over c =
    let step = over-from c.args.sig.now c.as_slice-f-items.result.now c.loop-f.f-index c.f-item.result (omega arith) c.f-item.is in
    let here = sym c.are_over.ensures.test ∙ c.if-not-are_over.true in
    sym (c.loop-f.invariant ∙ step ∙ rw here refl)

pub loop-f-preserved : goal.loop-f-preserved
loop-f-preserved c =
    let step = over-from c.args.sig.now c.as_slice-f-items.result.now c.loop-f.f-index c.f-item.result (omega arith) c.f-item.is in
    let here = sym c.are_over.ensures.test ∙ c.if-not-are_over.false in
    c.loop-f.invariant ∙ step ∙ rw here refl
