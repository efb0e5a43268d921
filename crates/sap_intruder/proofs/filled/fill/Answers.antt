use Rattle.std.proofs.Common.{◌≡◌, ◌∙◌, List, ap, subst, sym}
use Rattle.sap_process.specs.Proc.{proc}
use Rattle.sap_runs.specs.declared.process_step.PStep.{PStep}
use Rattle.sap_intruder.specs.FilledRuns.{IsFilled}
use Rattle.sap_intruder.specs.declared.filling.Filling.{Filling}
use Rattle.sap_intruder.proofs.EachFilled.{filled_all}
use Rattle.sap_intruder.proofs.filled.fill.Goals as goal

pub returns-clause-filled : goal.returns-clause-filled
returns-clause-filled c =
    let g = c.args.f.now.signature in
    let p = proc c.args.f.now.process in
    let a = c.fill_each.new.filling in
    let is : c.replace.result ≡ a.lines = c.replace.ensures.value ∙ ap (λ (x : Filling). x.lines) c.deref_mut-2.ensures.value in
    subst (λ (ls : List PStep). IsFilled g p c.args.run.now ls) (sym is) (filled_all g p c.args.run.now a c.in_ok-fill_each.ensures.ok)
