use Rattle.sap_intruder.proofs.NeverFilled as never
use Rattle.sap_intruder.proofs.laws.refused_steps_cannot_be_filled.Goals as goal

pub returns : goal.returns
returns c =
    never.refused_steps_cannot_be_filled c.filled_runs_are_legal.ensures.small_runs c.short_runs_can_be_filled.ensures.small_runs c.one_short_answer.ensures.apart c.some_short_answer.ensures.runs
