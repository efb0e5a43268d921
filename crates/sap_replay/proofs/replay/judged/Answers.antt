use Rattle.sap_replay.proofs.replay.judged.Goals as goal

pub returns-clause-given : goal.returns-clause-given
returns-clause-given c =
    let seen = c.in_ok-trace.ensures.seen in
    record {
      trace = _;
      seen = seen;
      verdicts = c.in_ok-text.ensures _ (c.seen_traces_are_messages.ensures _ _ _ c.requires seen) (c.closed_files.ensures.restrictions _ c.requires) (c.closed_files.ensures.lemmas _ c.requires);
    }
