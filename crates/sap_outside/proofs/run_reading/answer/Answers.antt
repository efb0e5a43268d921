use Rattle.std.proofs.Common.{subst, arith, Ok, Err}
use Rattle.sap_run_texts.specs.declared.run.Kinds.{Kinds}
use Rattle.sap_run_texts.specs.declared.run_fault.RunFault.{RunFault}
use Rattle.sap_run_texts.specs.RunTexts.{IsRunRead}
use Rattle.sap_outside.specs.RunPieces.{is_run, too_long, bad_head, bad_line}
use Rattle.sap_outside.proofs.run_reading.answer.Goals as goal

pub returns-then-tally-gt-MOST_RUN_BYTES-clause-told :
    goal.returns-then-tally-gt-MOST_RUN_BYTES-clause-told
returns-then-tally-gt-MOST_RUN_BYTES-clause-told c = λ z stands tally. too_long (omega (arith, c.if-tally-gt-MOST_RUN_BYTES.true, tally.0))

pub returns-in-Ok-clause-told : goal.returns-in-Ok-clause-told
returns-in-Ok-clause-told c = λ z stands tally.
    is_run (omega (arith, c.if-tally-gt-MOST_RUN_BYTES.false, tally.0))
    (subst (λ (k : Kinds). IsRunRead k z (Ok c.in-Ok.run')) c.requires (c.in-Ok.ensures.told z stands))

pub returns-in-Err-BadHead-clause-told : goal.returns-in-Err-BadHead-clause-told
returns-in-Err-BadHead-clause-told c = λ z stands tally.
    let read = subst (λ (k : Kinds). IsRunRead k z (Err c.in-Err-BadHead.field-0)) c.requires (c.in-Err-BadHead.ensures.told z stands) in
    bad_head (omega (arith, c.if-tally-gt-MOST_RUN_BYTES.false, tally.0))
    (subst (λ (e : RunFault). IsRunRead c.args.kinds z (Err e)) c.in-Err-BadHead.field-0-is read)

pub returns-in-Err-BadLine-clause-told : goal.returns-in-Err-BadLine-clause-told
returns-in-Err-BadLine-clause-told c = λ z stands tally.
    let read = subst (λ (k : Kinds). IsRunRead k z (Err c.in-Err-BadLine.field-0)) c.requires (c.in-Err-BadLine.ensures.told z stands) in
    bad_line (omega (arith, c.if-tally-gt-MOST_RUN_BYTES.false, tally.0))
    (subst (λ (e : RunFault). IsRunRead c.args.kinds z (Err e)) c.in-Err-BadLine.field-0-is read)
