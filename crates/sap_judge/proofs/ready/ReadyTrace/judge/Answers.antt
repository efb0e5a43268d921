use Rattle.sap_formula.specs.View.{form}
use Rattle.sap_judge.proofs.Verdicts.{are_right}
use Rattle.sap_judge.proofs.ready.ReadyTrace.judge.Goals as goal

pub returns : goal.returns
returns c = λ g m k. are_right c.plans_decide_truth.ensures g (form c.args.f.now) c.args.self.now c.answer.result c.answer.ensures m k
