use Rattle.sap_read_places.proofs.part.first_fault.Goals as goal

pub returns-in-Ok : goal.returns-in-Ok
returns-in-Ok c = rw c.formula.ensures at c.in-Ok.ensures.sound
