use Rattle.serde_json.specs.View.{view}
use Rattle.sap_json.proofs.OperandsRead.{none_of_uses, embedded_is, named_is}
use Rattle.sap_json.proofs.read_operands.three_operands.Goals as goal

pub returns-in-None : goal.returns-in-None
returns-in-None c = none_of_uses (view c.args.a.now) (view c.args.b.now) (view c.args.c.now) (rw c.in-None.is at c.in_ok-uses.ensures)

pub returns-in-Some-number : goal.returns-in-Some-number
returns-in-Some-number c =
    embedded_is c.in-Some-number.n (c.in-Some.facts, c.in-Some.bindings) (view c.args.a.now) (view c.args.b.now) (view c.args.c.now) (rw c.in-Some-number.is at c.number.ensures)
    (rw c.in-Some.is at c.in_ok-uses.ensures)

pub returns-in-Some-2 : goal.returns-in-Some-2
returns-in-Some-2 c =
    named_is c.in-Some-2.name (c.in-Some.facts, c.in-Some.bindings) (view c.args.a.now) (view c.args.b.now) (view c.args.c.now) (rw c.in-Some-2.is at c.in_ok-name-in-None-number.ensures)
    (rw c.in-Some.is at c.in_ok-uses.ensures)
