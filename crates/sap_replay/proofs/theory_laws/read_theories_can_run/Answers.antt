use Rattle.sap_replay.proofs.Checkable.{read_can_be_checked}
use Rattle.sap_replay.proofs.theory_laws.read_theories_can_run.Goals as goal

pub returns-clause-checkable : goal.returns-clause-checkable
returns-clause-checkable c = read_can_be_checked c.faultless_formulas_are_checked.ensures.checked c.faultless_formulas_are_checked.ensures.closed
