use Rattle.sap_read_places.proofs.UndefinedTold.{undefined_found, undefined_there}
use Rattle.sap_read_places.proofs.undefined_told.undefined_told.Goals as goal

pub returns-in-Some-clause-place : goal.returns-in-Some-clause-place
returns-in-Some-clause-place c =
    let at = c.undefined_places.ensures.some c.args.bytes.now c.args.name.now c.requires.refused in
    undefined_there c.bodies_are_one.ensures.one c.requires.tokens.only c.requires.said at.0 at.1 c.in-Some.word _ (rw c.in-Some.is at c.in_ok-word.ensures) c.stretch_before.ensures.is c.new.ensures

pub returns-in-None-clause-none : goal.returns-in-None-clause-none
returns-in-None-clause-none c = λ e t a.
    undefined_found c.bodies_are_one.ensures.one c.requires.tokens.only c.requires.said t a (rw c.in-None.is at c.in_ok-word.ensures)
