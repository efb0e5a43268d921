use Rattle.std.proofs.Common.{refl}
use Rattle.sap_use_words.specs.ExpandedUses.{large_use}
use Rattle.sap_use_words.specs.WrittenUses.{other_use}
use Rattle.sap_read_places.proofs.UsePlaces.{as_large, as_other, of_large, of_other, one_use, refused_for_large, refused_for_other}
use Rattle.sap_read_places.proofs.use_laws.use_places.Goals as goal

pub returns-clause-one_other : goal.returns-clause-one_other
returns-clause-one_other c = λ z x y s t a b.
    one_use c.one_placed_file.ensures.tokens c.one_placed_file.ensures.definitions c.one_placed_file.ensures.main other_use z x y s t (of_other a) (of_other b)

pub returns-clause-one_large : goal.returns-clause-one_large
returns-clause-one_large c = λ z x y s t a b.
    one_use c.one_placed_file.ensures.tokens c.one_placed_file.ensures.definitions c.one_placed_file.ensures.main large_use z x y s t (of_large a) (of_large b)

pub returns-clause-some_other : goal.returns-clause-some_other
returns-clause-some_other c = λ z x read.
    let r = refused_for_other c.located_items.ensures.plain c.definitions_are_in_order.ensures.order (λ ds n p o. c.written_uses_are_written.ensures.other ds n p) z x refl read in
    (r.0, as_other r.1)

pub returns-clause-some_large : goal.returns-clause-some_large
returns-clause-some_large c = λ z x read.
    let r = refused_for_large c.located_items.ensures.plain c.definitions_are_in_order.ensures.order c.large_uses_are_named.ensures z x refl read in
    (r.0, as_large r.1)
