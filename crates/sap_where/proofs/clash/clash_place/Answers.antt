use Rattle.std.specs.Prelude.{length}
use Rattle.sap_where.specs.Where.{at_declaration}
use Rattle.sap_where.proofs.Nowhere.{clash_nowhere}
use Rattle.sap_where.proofs.clash.clash_place.Goals as goal

pub returns-in-Some-clause-place : goal.returns-in-Some-clause-place
returns-in-Some-clause-place c =
    at_declaration c.requires.are (rw (c.in-Some.is, c.as_bytes.ensures) at c.in_ok-k.ensures) c.stretch_at.ensures.is

pub returns-in-Some-clause-inside : goal.returns-in-Some-clause-inside
returns-in-Some-clause-inside c = c.stretch_at.ensures.within (length c.args.bytes.now) c.requires.within

pub returns-in-None-clause-clash : goal.returns-in-None-clause-clash
returns-in-None-clause-clash c = λ e. rw (c.in-None.is, c.as_bytes.ensures) at c.in_ok-k.ensures

pub returns-in-None-clause-none : goal.returns-in-None-clause-none
returns-in-None-clause-none c = λ e s.
    clash_nowhere c.args.bytes.now c.args.tokens.now _ c.requires.only (rw (c.in-None.is, c.as_bytes.ensures) at c.in_ok-k.ensures) s
