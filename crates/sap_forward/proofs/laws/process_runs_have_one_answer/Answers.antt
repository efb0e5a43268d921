use Rattle.sap_forward.proofs.OneAnswer as one
use Rattle.sap_forward.proofs.laws.process_runs_have_one_answer.Goals as goal

pub returns : goal.returns
returns c =
    let l = c.lines_have_one_answer.ensures in
    let some = c.lines_have_some_answer.ensures in
    let exactly = c.runs_match_exactly.ensures in
    let wide = c.limit_excludes.ensures in
    let ready = c.annotations_are_ready.ensures.ready in
    record {
      some = λ g p q hold is annotated. one.has_some_answer l.outcome l.answer l.cause some exactly wide.lines wide.runs g q hold (ready g p q is annotated);
      apart = λ g p q hold is annotated. one.legal_is_not_refused l.outcome l.answer l.cause some exactly wide.lines wide.runs g q hold (ready g p q is annotated);
      trace = λ g p q hold is annotated. one.has_one_trace l.outcome l.answer l.cause some exactly wide.lines wide.runs g q hold (ready g p q is annotated);
      first = λ g p q hold is annotated. one.has_one_first l.outcome l.answer l.cause some exactly wide.lines wide.runs g q hold (ready g p q is annotated);
    }
