use Rattle.std.proofs.Common.{◌≡◌, ◌+◌, ◌++◌, [], arith, sym, subst, take}
use Rattle.std.proofs.lemmas.Grind.{common_steps}
use Rattle.sap_process.specs.Proc.{proc}
use Rattle.sap_read.specs.Files.{told_by}
use Rattle.sap_restrict.specs.View.{machine}
use Rattle.sap_back.proofs.Cuts.{item_at, all_taken}
use Rattle.sap_back.specs.Followed.{pending_lines}
use Rattle.sap_process_lines.specs.Tables.{ProcessTables}
use Rattle.sap_back.specs.code.Replayed.{IsStopped, ShowOneReserved}
use Rattle.sap_back.specs.code.Taken.{IsConvertedLine}
use Rattle.sap_back.specs.declared.replay.Replay.{Replay}
use Rattle.sap_back.specs.declared.back_at.BackAt.TheVariants.{Step as StepOf, Broken as BrokenAt}
use Rattle.sap_back.proofs.Converting.{IsConverting, converting_first, looped_converting, converted}
use Rattle.sap_back.proofs.Replaying.{replayed_first, one_shown, looped_refused, looped_broken}
use Rattle.sap_back.proofs.conversion.to_process.Goals as goal

pub begun-requires : goal.begun-requires
begun-requires c = c.files_are_replayed.ensures.made (told_by c.args.f.now) c.requires

pub loop-at-init : goal.loop-at-init
loop-at-init c =
    let g = c.args.f.now.signature in
    let q = proc c.args.f.now.process in
    let r = c.in_ok-replay.replay.value in
    let begins = c.lines_are_followed.ensures.begins g c.requires.process q c.requires.builtins c.requires.ready (c.files_are_replayed.ensures.small (told_by c.args.f.now) c.requires) c.requires.annotation in
    let first = replayed_first g q r.state (machine r.guard) c.in_ok-replay.ensures.sig c.in_ok-replay.ensures.rules c.in_ok-replay.ensures.at c.in_ok-replay.ensures.guard in
    subst (IsConverting g q r.state (machine r.guard) c.in_ok-desk.desk.value []) (sym c.new-lines.ensures) (converting_first g q begins (c.lines_are_followed.ensures.tabled q) r.state (machine r.guard) c.in_ok-desk.desk.value c.in_ok-replay.ensures.at c.in_ok-desk.ensures first)

pub convert-requires : goal.convert-requires
convert-requires c =
    let g = c.args.f.now.signature in
    let q = proc c.args.f.now.process in
    let w = c.loop-at.invariant in
    subst (λ (x : Replay). ShowOneReserved x.state.sig x.state.rules) (sym c.deref_mut.ensures.value) (one_shown g q c.loop-at.replay.value.state (machine c.loop-at.replay.value.guard) (take c.loop-at.at c.args.run.now) w.full w.replayed (c.files_are_replayed.ensures.shown (told_by c.args.f.now) c.requires))

pub returns-in_err-convert-clause-refused : goal.returns-in_err-convert-clause-refused
returns-in_err-convert-clause-refused c = λ step fault is.
    let g = c.args.f.now.signature in
    let q = proc c.args.f.now.process in
    let w = c.loop-at.invariant in
    let there = item_at c.args.run.now c.as_slice-line-items.result.now c.loop-at.at c.line-item.result c.as_slice-line-items.ensures (omega arith) c.line-item.is in
    let same : c.in_err-convert.field-0.0 ≡ StepOf step fault = grind (arith, common_steps, is, c.from_residual-in_err-convert.ensures) in
    let stopped = subst (λ (x : Replay). IsStopped x.state (machine x.guard) c.line-item.result (c.loop-at.at + 1) c.in_err-convert.field-0.0) c.deref_mut.ensures.value c.in_err-convert.ensures.err in
    looped_refused g q c.args.run.now c.loop-at.at c.line-item.result there c.loop-at.replay.value.state (machine c.loop-at.replay.value.guard) w.full w.replayed c.in_err-convert.field-0.0 stopped step fault same

pub returns-in_err-convert-clause-broken : goal.returns-in_err-convert-clause-broken
returns-in_err-convert-clause-broken c = λ step which is.
    let g = c.args.f.now.signature in
    let q = proc c.args.f.now.process in
    let w = c.loop-at.invariant in
    let there = item_at c.args.run.now c.as_slice-line-items.result.now c.loop-at.at c.line-item.result c.as_slice-line-items.ensures (omega arith) c.line-item.is in
    let same : c.in_err-convert.field-0.0 ≡ BrokenAt step which = grind (arith, common_steps, is, c.from_residual-in_err-convert.ensures) in
    let stopped = subst (λ (x : Replay). IsStopped x.state (machine x.guard) c.line-item.result (c.loop-at.at + 1) c.in_err-convert.field-0.0) c.deref_mut.ensures.value c.in_err-convert.ensures.err in
    looped_broken g q c.args.run.now c.loop-at.at c.line-item.result there c.loop-at.replay.value.state (machine c.loop-at.replay.value.guard) w.full w.replayed c.in_err-convert.field-0.0 stopped step which same

pub loop-at-preserved : goal.loop-at-preserved
loop-at-preserved c =
    let g = c.args.f.now.signature in
    let q = proc c.args.f.now.process in
    let there = item_at c.args.run.now c.as_slice-line-items.result.now c.loop-at.at c.line-item.result c.as_slice-line-items.ensures (omega arith) c.line-item.is in
    let followed = c.lines_are_followed.ensures.lines g c.requires.process q c.requires.builtins c.requires.ready (c.files_are_replayed.ensures.small (told_by c.args.f.now) c.requires) c.requires.annotation in
    let t = c.convert.new.replay in
    let replayed = subst (λ (x : Replay). IsConvertedLine x.state t.state (machine x.guard) (machine t.guard) c.deref_mut-in-loop-at.result.now c.convert.new.desk c.line-item.result c.loop-at.lines c.convert.new.lines) c.deref_mut.ensures.value c.in_ok-convert.ensures.ok in
    let taken = subst (λ (d : ProcessTables). IsConvertedLine c.loop-at.replay.value.state t.state (machine c.loop-at.replay.value.guard) (machine t.guard) d c.convert.new.desk c.line-item.result c.loop-at.lines c.convert.new.lines) c.deref_mut-in-loop-at.ensures.value replayed in
    looped_converting g q c.args.run.now c.loop-at.at c.line-item.result there followed c.loop-at.replay.value.state c.convert.new.replay.state (machine c.loop-at.replay.value.guard) (machine c.convert.new.replay.guard) c.loop-at.desk.value c.convert.new.desk c.loop-at.lines c.convert.new.lines c.loop-at.invariant taken

pub returns-clause-ok : goal.returns-clause-ok
returns-clause-ok c =
    let g = c.args.f.now.signature in
    let q = proc c.args.f.now.process in
    let all = all_taken c.args.run.now c.as_slice-line-items.result.now c.loop-at.at c.as_slice-line-items.ensures (omega arith) (omega arith) in
    let ends = c.lines_are_followed.ensures.ends g c.requires.process q c.requires.builtins c.requires.ready (c.files_are_replayed.ensures.small (told_by c.args.f.now) c.requires) c.requires.annotation in
    let w = subst (λ b. IsConverting g q c.loop-at.replay.value.state (machine c.loop-at.replay.value.guard) c.loop-at.desk.value b c.loop-at.lines) all c.loop-at.invariant in
    let last = subst (λ (d : ProcessTables). c.finish.new.lines ≡ c.loop-at.lines ++ pending_lines d.pending) c.deref.ensures c.in_ok-finish.ensures in
    converted g q ends c.loop-at.replay.value.state (machine c.loop-at.replay.value.guard) c.loop-at.desk.value c.args.run.now c.loop-at.lines c.finish.new.lines w last
