use Rattle.std.proofs.Common.{length}
use Rattle.sap_use_words.specs.WrittenUses.{other_use}
use Rattle.sap_read_places.specs.declared.told.Told.{Told}
use Rattle.sap_read_places.specs.UsePlaces.{IsOtherUsePlace}
use Rattle.sap_read_places.proofs.UsePlaces.{as_other, of_other}
use Rattle.sap_read_places.proofs.UseTold.{no_use_there, use_told_there}
use Rattle.sap_read_places.proofs.use_told.other_use_told.Goals as goal

pub returns-clause-place : goal.returns-clause-place
returns-clause-place c =
    use_told_there c.requires.tokens.only c.requires.written other_use c.args.name.now (λ (t : Told). IsOtherUsePlace c.args.bytes.now c.args.name.now t) (λ t a. as_other a) c.other_in.result c.other_in.ensures.is

pub returns-clause-inside : goal.returns-clause-inside
returns-clause-inside c = c.other_in.ensures.inside (length c.args.bytes.now) c.requires.tokens.within

pub returns-clause-uses : goal.returns-clause-uses
returns-clause-uses c = c.other_in.ensures.used (length c.args.bytes.now) c.requires.tokens.within

pub returns-clause-none : goal.returns-clause-none
returns-clause-none c =
    no_use_there c.requires.tokens.only c.requires.written other_use c.one_placed_file.ensures.tokens c.one_placed_file.ensures.definitions c.one_placed_file.ensures.main c.args.name.now
    (λ (t : Told). IsOtherUsePlace c.args.bytes.now c.args.name.now t) (λ t a. of_other a) c.other_in.result c.other_in.ensures.is
