use Rattle.sap_judge.proofs.OneVerdict.{one_verdict, some_verdict, decided}
use Rattle.sap_judge.proofs.laws.one_verdict.Goals as goal

pub returns-clause-one : goal.returns-clause-one
returns-clause-one c = one_verdict

pub returns-clause-some : goal.returns-clause-some
returns-clause-some c = some_verdict c.plans_decide_truth.ensures

pub returns-clause-decided : goal.returns-clause-decided
returns-clause-decided c = decided c.plans_decide_truth.ensures
