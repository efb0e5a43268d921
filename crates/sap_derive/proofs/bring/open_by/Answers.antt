use Rattle.sap_derive.proofs.bring.open_by.Goals as goal

pub add_applied-requires-clause-this : goal.add_applied-requires-clause-this
add_applied-requires-clause-this c = c.requires.this c.in-Some.name c.in-Some.is
