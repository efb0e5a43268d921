use Rattle.sap_back.proofs.replay.started.Goals as goal

pub start-requires : goal.start-requires
start-requires c = rw (c.in_ok-theory.ensures.sig, c.in_ok-theory.ensures.rules) c.requires
