use Rattle.sap_replay.proofs.telling.told_run.Goals as goal

pub returns-clause-given : goal.returns-clause-given
returns-clause-given c =
    let cast = c.in_ok-script.ensures.cast in
    c.told_by_roles.ensures.given c.args.bytes.now cast.0 cast.1 cast.2
