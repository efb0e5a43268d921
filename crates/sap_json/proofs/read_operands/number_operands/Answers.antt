use Rattle.serde_json.specs.View.{view}
use Rattle.sap_json.proofs.OperandsRead.{none_of_number}
use Rattle.sap_json.proofs.read_operands.number_operands.Goals as goal

pub returns-in-None-fresh : goal.returns-in-None-fresh
returns-in-None-fresh c = λ a is. none_of_number c.args.number_first a (view c.args.b.now) is (rw c.in-None.is at c.number.ensures) (rw c.in-None-fresh.is at c.fresh.ensures)
