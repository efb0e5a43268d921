use Rattle.sap_replay.specs.Replays.{of_theory}
use Rattle.sap_replay.proofs.checking.text_of_run.Goals as goal

pub returns-clause-given : goal.returns-clause-given
returns-clause-given c =
    let legal = c.in_ok-full.ensures.full in
    record { full = _; shown = of_theory legal.state legal.legal; verdicts = c.in_ok-text.ensures _ legal.messages c.requires.restrictions c.requires.lemmas }
