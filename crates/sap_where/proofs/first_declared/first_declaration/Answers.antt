use Rattle.std.specs.Prelude.{length}
use Rattle.sap_where.specs.OtherPlaces.{first_declaration as at_first}
use Rattle.sap_where.proofs.OtherNowhere.{no_declaration}
use Rattle.sap_where.proofs.first_declared.first_declaration.Goals as goal

pub returns-in-Some-clause-place : goal.returns-in-Some-clause-place
returns-in-Some-clause-place c = at_first c.requires.are (rw (c.in-Some.is, c.as_bytes.ensures) at c.in_ok-j.ensures.first) c.stretch_at.ensures.is

pub returns-in-Some-clause-inside : goal.returns-in-Some-clause-inside
returns-in-Some-clause-inside c = c.stretch_at.ensures.within (length c.args.bytes.now) c.requires.within

pub returns-in-None-clause-none : goal.returns-in-None-clause-none
returns-in-None-clause-none c = λ e s.
    no_declaration c.args.bytes.now c.args.tokens.now _ c.requires.only (rw c.as_bytes.ensures at c.in_ok-j.ensures.none c.in-None.is) s

pub returns-in-None-clause-declared : goal.returns-in-None-clause-declared
returns-in-None-clause-declared c = λ pairs clash e. rw c.as_bytes.ensures at c.in_ok-j.ensures.declared pairs clash c.in-None.is
