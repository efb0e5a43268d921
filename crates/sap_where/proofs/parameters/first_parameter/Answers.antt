use Rattle.std.specs.Prelude.{length}
use Rattle.sap_where.specs.OtherPlaces.{first_parameter as at_first}
use Rattle.sap_where.proofs.OtherNowhere.{no_parameter}
use Rattle.sap_where.proofs.parameters.first_parameter.Goals as goal

pub returns-in-Some-clause-place : goal.returns-in-Some-clause-place
returns-in-Some-clause-place c = at_first c.requires.are (rw c.as_bytes.ensures at c.in-Some.ensures) c.stretch_at.ensures.is

pub returns-in-Some-clause-inside : goal.returns-in-Some-clause-inside
returns-in-Some-clause-inside c = c.stretch_at.ensures.within (length c.args.bytes.now) c.requires.within

pub returns-in-None-clause-none : goal.returns-in-None-clause-none
returns-in-None-clause-none c = λ e s.
    no_parameter c.args.bytes.now c.args.tokens.now _ c.requires.only (rw c.as_bytes.ensures at c.in-None.ensures) s

pub returns-in-None-clause-once : goal.returns-in-None-clause-once
returns-in-None-clause-once c = λ e. rw c.as_bytes.ensures at c.in-None.ensures
