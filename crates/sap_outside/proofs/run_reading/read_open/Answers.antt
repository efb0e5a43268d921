use Rattle.std.proofs.lemmas.Result.{IfOk-weaker}
use Rattle.sap_outside.proofs.PutPieces.{on_err}
use Rattle.sap_outside.proofs.RunFed.{was_read, was_given_up, run_asked}
use Rattle.sap_outside.proofs.run_reading.read_open.Goals as goal

pub returns-clause-told : goal.returns-clause-told
returns-clause-told g c = λ holds name before whole begun.
    let run = c.in_ok-tally.ensures.fed in
    IfOk-weaker c.answer.result _ _ (λ answer told. (run.z, was_read _ _ _ _ _ _ whole begun _ _ _ _ run, told))
    (c.answer.ensures.told run.z (run.fed.stands _ c.new-reader.ensures.stands) run.tally)

pub returns-clause-given_up : goal.returns-clause-given_up
returns-clause-given_up g c = λ holds name before whole begun.
    let run = c.in_ok-tally.ensures.fed in on_err c.answer.result (was_given_up _ _ _ _ _ _ whole begun (run_asked _ _ _ _ _ _ _ run))

pub returns-in_err-tally-clause-given_up : goal.returns-in_err-tally-clause-given_up
returns-in_err-tally-clause-given_up g c = λ holds name before whole begun.
    on_err c.from_residual.result (was_given_up _ _ _ _ _ _ whole begun c.in_err-tally.ensures.given_up)
