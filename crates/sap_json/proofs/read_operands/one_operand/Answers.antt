use Rattle.serde_json.specs.View.{view}
use Rattle.sap_json.proofs.OperandsRead.{none_of_one}
use Rattle.sap_json.proofs.read_operands.one_operand.Goals as goal

pub returns-in-None-2 : goal.returns-in-None-2
returns-in-None-2 c = none_of_one (view c.args.a.now) (rw c.in-None.is at c.number.ensures) (rw c.in-None-fresh.is at c.fresh.ensures) (rw c.in-None-2.is at c.in_ok-public-in-None-fresh.ensures)
