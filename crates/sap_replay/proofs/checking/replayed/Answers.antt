use Rattle.std.proofs.Common.{sym, subst, arith}
use Rattle.sap_steps.specs.State.{State}
use Rattle.sap_replay.proofs.Taken.{AreTaken, none_taken, one_taken, stops, all_taken}
use Rattle.sap_replay.proofs.checking.replayed.Goals as goal

pub loop-k-init : goal.loop-k-init
loop-k-init c = none_taken c.args.theory.now c.args.steps.now _ _ c.in_ok-state.ensures.sig c.in_ok-state.ensures.rules c.in_ok-state.ensures.at c.new-full.ensures

pub loop-k-preserved : goal.loop-k-preserved
loop-k-preserved c =
    let taken = subst (λ (s : State). AreTaken c.args.theory.now c.args.steps.now c.loop-k.k s c.loop-k.full) (sym c.deref_mut.ensures.value) c.loop-k.invariant in
    one_taken c.args.steps.now c.loop-k.k c.at.result.now c.at.ensures c.args.theory.now _ _ _ _ taken c.in-Ok.ensures.ok c.advance.ensures.sig c.advance.ensures.rules

pub returns-in-Err-clause-stopped : goal.returns-in-Err-clause-stopped
returns-in-Err-clause-stopped c =
    let taken = subst (λ (s : State). AreTaken c.args.theory.now c.args.steps.now c.loop-k.k s c.loop-k.full) (sym c.deref_mut.ensures.value) c.loop-k.invariant in
    stops c.args.steps.now c.loop-k.k c.at.result.now c.at.ensures c.args.theory.now _ _ _ taken (omega (arith, c.loop-k-test.true, c.len-k-end.type_inv)) c.in-Err.ensures.refused

pub returns-clause-full : goal.returns-clause-full
returns-clause-full c = all_taken c.args.theory.now c.args.steps.now c.loop-k.k c.loop-k.state.value c.loop-k.full (omega arith) c.loop-k.invariant
