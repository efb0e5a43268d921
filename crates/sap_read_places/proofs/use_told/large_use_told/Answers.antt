use Rattle.std.proofs.Common.{length}
use Rattle.sap_use_words.specs.ExpandedUses.{large_use}
use Rattle.sap_read_places.specs.declared.told.Told.{Told}
use Rattle.sap_read_places.specs.UsePlaces.{IsLargeUsePlace}
use Rattle.sap_read_places.proofs.UsePlaces.{as_large, of_large}
use Rattle.sap_read_places.proofs.UseTold.{no_use_there, use_told_there}
use Rattle.sap_read_places.proofs.use_told.large_use_told.Goals as goal

pub returns-clause-place : goal.returns-clause-place
returns-clause-place c =
    use_told_there c.requires.tokens.only c.requires.written large_use c.args.name.now (λ (t : Told). IsLargeUsePlace c.args.bytes.now c.args.name.now t) (λ t a. as_large a) c.large_in.result c.large_in.ensures.is

pub returns-clause-inside : goal.returns-clause-inside
returns-clause-inside c = c.large_in.ensures.inside (length c.args.bytes.now) c.requires.tokens.within

pub returns-clause-uses : goal.returns-clause-uses
returns-clause-uses c = c.large_in.ensures.used (length c.args.bytes.now) c.requires.tokens.within

pub returns-clause-none : goal.returns-clause-none
returns-clause-none c =
    no_use_there c.requires.tokens.only c.requires.written large_use c.one_placed_file.ensures.tokens c.one_placed_file.ensures.definitions c.one_placed_file.ensures.main c.args.name.now
    (λ (t : Told). IsLargeUsePlace c.args.bytes.now c.args.name.now t) (λ t a. of_large a) c.large_in.result c.large_in.ensures.is
