use Rattle.serde_json.specs.View.{view}
use Rattle.sap_json.proofs.OperandsRead.{none_applied, applied_is}
use Rattle.sap_json.proofs.read_operands.applied.Goals as goal

pub returns-in-None-2 : goal.returns-in-None-2
returns-in-None-2 c = λ no_number. none_applied (view c.args.a.now) (view c.args.b.now) no_number (λ f ks h k. (rw c.in-None-2.is at c.in_ok-read_list-in-Some.ensures) ks k)

pub returns-in-Some-2 : goal.returns-in-Some-2
returns-in-Some-2 c = λ no_number. applied_is c.in-Some.symbol c.in-Some-2.entries (view c.args.a.now) (view c.args.b.now) (rw c.in-Some.is at c.in_ok-name.ensures) (rw c.in-Some-2.is at c.in_ok-read_list-in-Some.ensures)
