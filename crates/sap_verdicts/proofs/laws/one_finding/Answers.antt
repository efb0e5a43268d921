use Rattle.sap_verdicts.proofs.OneFound.{one_finding}
use Rattle.sap_verdicts.proofs.laws.one_finding.Goals as goal

pub returns : goal.returns
returns c = one_finding (record {
  verdict = c.one_verdict.ensures.one;
  some_verdict = c.one_verdict.ensures.some;
  reason = c.there_is_a_reason.ensures.one;
  some_reason = c.there_is_a_reason.ensures.some;
})
