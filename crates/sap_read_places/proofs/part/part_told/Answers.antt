use Rattle.std.proofs.Common.{length}
use Rattle.sap_read_places.proofs.PartTold.{part_nowhere, part_there}
use Rattle.sap_read_places.proofs.part.part_told.Goals as goal

pub returns-clause-place : goal.returns-clause-place
returns-clause-place c =
    part_there c.args.bytes.now c.args.tokens.now c.args.written.now c.requires.tokens.only c.requires.written c.words_are_cut.ensures.cut c.words_are_cut.ensures.one c.args.name.now c.args.fault.now
    c.told_in.result (rw c.as_slice.ensures at c.told_in.ensures.is)

pub returns-clause-none : goal.returns-clause-none
returns-clause-none c =
    part_nowhere c.args.bytes.now c.args.tokens.now c.args.written.now c.requires.tokens.only c.requires.written c.words_are_cut.ensures.cut c.words_are_cut.ensures.one c.args.name.now c.args.fault.now
    c.one_list_of_items.ensures.own c.told_in.result (rw c.as_slice.ensures at c.told_in.ensures.is)

pub returns-clause-inside : goal.returns-clause-inside
returns-clause-inside c = c.told_in.ensures.inside (length c.args.bytes.now) c.requires.tokens.within
