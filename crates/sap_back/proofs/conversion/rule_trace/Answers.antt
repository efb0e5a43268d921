use Rattle.std.proofs.Common.{◌≡◌, ◌+◌, [], arith, sym, subst, take}
use Rattle.std.proofs.lemmas.Grind.{common_steps}
use Rattle.sap_process.specs.Proc.{proc}
use Rattle.sap_read.specs.Files.{told_by}
use Rattle.sap_restrict.specs.View.{machine}
use Rattle.sap_back.proofs.Cuts.{item_at, all_taken}
use Rattle.sap_back.specs.Converted.{IsAdmittedRun}
use Rattle.sap_back.specs.code.Replayed.{IsReplayed, IsStopped, IsTakenUp, ShowOneReserved}
use Rattle.sap_back.specs.declared.back_at.BackAt.TheVariants.{Step as StepOf, Broken as BrokenAt}
use Rattle.sap_back.specs.declared.replay.Replay.{Replay}
use Rattle.sap_back.proofs.Replaying.{replayed_first, one_shown, looped_next, looped_refused, looped_broken}
use Rattle.sap_back.proofs.conversion.rule_trace.Goals as goal

pub begun-requires : goal.begun-requires
begun-requires c = c.files_are_replayed.ensures.made (told_by c.args.f.now) c.requires

pub loop-at-init : goal.loop-at-init
loop-at-init c =
    let g = c.args.f.now.signature in
    let q = proc c.args.f.now.process in
    let r = c.in_ok-replay.replay.value in
    subst (λ tr. IsReplayed g q r.state (machine r.guard) [] tr) (sym c.new-full.ensures) (replayed_first g q r.state (machine r.guard) c.in_ok-replay.ensures.sig c.in_ok-replay.ensures.rules c.in_ok-replay.ensures.at c.in_ok-replay.ensures.guard)

pub take_up-requires : goal.take_up-requires
take_up-requires c =
    let g = c.args.f.now.signature in
    let q = proc c.args.f.now.process in
    subst (λ (x : Replay). ShowOneReserved x.state.sig x.state.rules) (sym c.deref_mut.ensures.value) (one_shown g q c.loop-at.replay.value.state (machine c.loop-at.replay.value.guard) (take c.loop-at.at c.args.run.now) c.loop-at.full c.loop-at.invariant (c.files_are_replayed.ensures.shown (told_by c.args.f.now) c.requires))

pub returns-in_err-acts-clause-refused : goal.returns-in_err-acts-clause-refused
returns-in_err-acts-clause-refused c = λ step fault is.
    let g = c.args.f.now.signature in
    let q = proc c.args.f.now.process in
    let there = item_at c.args.run.now c.as_slice-line-items.result.now c.loop-at.at c.line-item.result c.as_slice-line-items.ensures (omega arith) c.line-item.is in
    let same : c.in_err-acts.field-0.0 ≡ StepOf step fault = grind (arith, common_steps, is, c.from_residual-in_err-acts.ensures) in
    let stopped = subst (λ (x : Replay). IsStopped x.state (machine x.guard) c.line-item.result (c.loop-at.at + 1) c.in_err-acts.field-0.0) c.deref_mut.ensures.value c.in_err-acts.ensures.err in
    looped_refused g q c.args.run.now c.loop-at.at c.line-item.result there c.loop-at.replay.value.state (machine c.loop-at.replay.value.guard) c.loop-at.full c.loop-at.invariant c.in_err-acts.field-0.0 stopped step fault same

pub returns-in_err-acts-clause-broken : goal.returns-in_err-acts-clause-broken
returns-in_err-acts-clause-broken c = λ step which is.
    let g = c.args.f.now.signature in
    let q = proc c.args.f.now.process in
    let there = item_at c.args.run.now c.as_slice-line-items.result.now c.loop-at.at c.line-item.result c.as_slice-line-items.ensures (omega arith) c.line-item.is in
    let same : c.in_err-acts.field-0.0 ≡ BrokenAt step which = grind (arith, common_steps, is, c.from_residual-in_err-acts.ensures) in
    let stopped = subst (λ (x : Replay). IsStopped x.state (machine x.guard) c.line-item.result (c.loop-at.at + 1) c.in_err-acts.field-0.0) c.deref_mut.ensures.value c.in_err-acts.ensures.err in
    looped_broken g q c.args.run.now c.loop-at.at c.line-item.result there c.loop-at.replay.value.state (machine c.loop-at.replay.value.guard) c.loop-at.full c.loop-at.invariant c.in_err-acts.field-0.0 stopped step which same

pub loop-at-preserved : goal.loop-at-preserved
loop-at-preserved c =
    let g = c.args.f.now.signature in
    let q = proc c.args.f.now.process in
    let there = item_at c.args.run.now c.as_slice-line-items.result.now c.loop-at.at c.line-item.result c.as_slice-line-items.ensures (omega arith) c.line-item.is in
    let taken = subst (λ (x : Replay). IsTakenUp x.state c.take_up.new.self.state (machine x.guard) (machine c.take_up.new.self.guard) c.line-item.result c.in_ok-acts.acts) c.deref_mut.ensures.value c.in_ok-acts.ensures.ok in
    looped_next g q c.args.run.now c.loop-at.at c.line-item.result there c.loop-at.replay.value.state (machine c.loop-at.replay.value.guard) c.loop-at.full c.loop-at.invariant c.take_up.new.self.state (machine c.take_up.new.self.guard) c.in_ok-acts.acts c.push.new.self taken c.in_ok-push.ensures.ok

pub returns-clause-ok : goal.returns-clause-ok
returns-clause-ok c =
    let all = all_taken c.args.run.now c.as_slice-line-items.result.now c.loop-at.at c.as_slice-line-items.ensures (omega arith) (omega arith) in
    (c.loop-at.replay.value.state.at, subst (λ b. IsAdmittedRun c.args.f.now.signature (proc c.args.f.now.process) b c.loop-at.replay.value.state.at c.loop-at.full) all c.loop-at.invariant.counted)
