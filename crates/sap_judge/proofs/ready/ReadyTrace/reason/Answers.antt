use Rattle.sap_formula.specs.View.{form}
use Rattle.sap_judge.proofs.SlimClaims.{reason_right}
use Rattle.sap_judge.proofs.ready.ReadyTrace.reason.Goals as goal

pub returns : goal.returns
returns c = λ g m k. reason_right c.claims_give_reasons.ensures g (form c.args.f.now) c.args.self.now c.args.value c.found_reason.result c.found_reason.ensures m k
