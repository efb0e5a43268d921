use Rattle.sap_where.specs.Where.{at_item}
use Rattle.sap_where.proofs.Nowhere.{item_nowhere}
use Rattle.sap_where.proofs.item_place.item_place.Goals as goal

pub returns-in-Some-clause-place : goal.returns-in-Some-clause-place
returns-in-Some-clause-place c = λ z h w line.
    at_item h.are (rw c.in-Some.is at w) c.stretch_at.ensures.is

pub returns-in-Some-clause-inside : goal.returns-in-Some-clause-inside
returns-in-Some-clause-inside c = λ z h. c.stretch_at.ensures.within _ h.within

pub returns-in-None-clause-words : goal.returns-in-None-clause-words
returns-in-None-clause-words c = λ z w e.
    let h = rw c.in-None.is at w in
    h

pub returns-in-None-clause-none : goal.returns-in-None-clause-none
returns-in-None-clause-none c = λ z h w e line s.
    item_nowhere z c.args.tokens.now h.only (rw c.in-None.is at w) line s
