use Rattle.sap_macro.specs.Sources.{located}
use Rattle.sap_origin.specs.Definitions.{located_definitions}
use Rattle.sap_read_places.proofs.UseTold.{other_is_told}
use Rattle.sap_read_places.proofs.use_told.other_in.Goals as goal

pub returns-in-Some-clause-is : goal.returns-in-Some-clause-is
returns-in-Some-clause-is c =
    let p = c.args.processes.now in
    other_is_told c.args.tokens.now c.args.name.now (located_definitions p.definitions p.behind) p.behind_main (located p.main.value) c.in-Some.word _
    (rw c.in-Some.is at c.in_ok-word.ensures) c.stretch_before.ensures.is c.new.ensures
