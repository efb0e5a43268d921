use Rattle.sap_json.proofs.read_operands.uses.Goals as goal

pub returns-in-None : goal.returns-in-None
returns-in-None c = λ u h. (rw c.in-None.is at c.in_ok-read_list.ensures) u.0 h.0

pub returns-in-None-2 : goal.returns-in-None-2
returns-in-None-2 c = λ u h. (rw c.in-None-2.is at c.in_ok-read_list-in-Some.ensures) u.1 h.1
