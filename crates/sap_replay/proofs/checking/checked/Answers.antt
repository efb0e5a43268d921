use Rattle.std.proofs.Common.{rules, ◌≡◌, Ok, subst}
use Rattle.sap_run_texts.specs.declared.run.Kinds.TheVariants as kinds
use Rattle.sap_outside.specs.RunPieces.{IsRunAnswer}
use Rattle.sap_replay.specs.RunRefusals.{IsIllegalOfTheory}
use Rattle.sap_answer.specs.declared.refusal.Refusal.TheVariants as refusals
use Rattle.sap_replay.proofs.Stopped.{no_run_stops, run_stops}
use Rattle.sap_replay.proofs.checking.checked.Goals as goal

pub returns-in-Ok-clause-refused : goal.returns-in-Ok-clause-refused
returns-in-Ok-clause-refused c = λ z line a h.
    run_stops kinds.Rules (IsIllegalOfTheory c.args.theory.now) z c.in-Ok.run' line (subst (λ o. IsRunAnswer kinds.Rules z o) c.in-Ok.is a)
    (c.text_of_any.ensures.refused line h)

pub returns-in-Err-clause-refused : goal.returns-in-Err-clause-refused
returns-in-Err-clause-refused c = λ z line a h.
    let same : c.told.result ≡ refusals.Told line = search (rules, h) in
    let written : c.no_run_line.result ≡ Ok line = c.told.ensures.only line same in
    no_run_stops kinds.Rules (IsIllegalOfTheory c.args.theory.now) z c.in-Err.refusal line (subst (λ o. IsRunAnswer kinds.Rules z o) c.in-Err.is a)
    (rw written at c.no_run_line.ensures)
