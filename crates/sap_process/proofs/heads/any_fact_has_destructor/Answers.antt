use Rattle.std.proofs.Common.{◌∙◌, refl, sym, arith}
use Rattle.sap_process.proofs.TermTests.{destructor-from}
use Rattle.sap_process.proofs.heads.any_fact_has_destructor.Goals as goal

pub returns-then-any_has_destructor : goal.returns-then-any_has_destructor
returns-then-any_has_destructor c =
    let step = destructor-from c.args.sig.now c.as_slice-f-items.result.now c.loop-f.f-index c.f-item.result (omega arith) c.f-item.is in
    let here = sym c.any_has_destructor.ensures.test ∙ c.if-any_has_destructor.true in
    sym (c.loop-f.invariant ∙ step ∙ rw here refl)

pub loop-f-preserved : goal.loop-f-preserved
loop-f-preserved c =
    let step = destructor-from c.args.sig.now c.as_slice-f-items.result.now c.loop-f.f-index c.f-item.result (omega arith) c.f-item.is in
    let here = sym c.any_has_destructor.ensures.test ∙ c.if-any_has_destructor.false in
    c.loop-f.invariant ∙ step ∙ rw here refl
