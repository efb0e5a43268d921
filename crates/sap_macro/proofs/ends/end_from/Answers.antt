use Rattle.sap_macro.proofs.ends.end_from.Goals as goal

pub returns-in-Call : goal.returns-in-Call
returns-in-Call c = rw c.in-Call.is (c.end_of_name.ensures c.in-Call.field-2)
