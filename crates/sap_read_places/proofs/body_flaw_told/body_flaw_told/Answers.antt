use Rattle.std.proofs.Common.{length}
use Rattle.sap_read_places.proofs.BodyFlawTold.{all_told, none_told}
use Rattle.sap_read_places.proofs.body_flaw_told.body_flaw_told.Goals as goal

pub returns-clause-place : goal.returns-clause-place
returns-clause-place c =
    all_told c.requires.tokens.only c.requires.written c.args.name.now c.args.which c.args.path.now c.located_definitions_are_written.ensures c.bodies_are_spelled.ensures c.some_head.ensures.parallel
    c.seen_places.ensures.only c.seen_places.ensures.written c.places_are_by_path.ensures.listed c.places_are_by_path.ensures.path c.told_of_name.result c.told_of_name.ensures.is

pub returns-clause-inside : goal.returns-clause-inside
returns-clause-inside c = c.told_of_name.ensures.inside (length c.args.bytes.now) c.requires.tokens.within

pub returns-clause-uses : goal.returns-clause-uses
returns-clause-uses c = c.told_of_name.ensures.uses (length c.args.bytes.now) c.requires.tokens.within

pub returns-clause-none : goal.returns-clause-none
returns-clause-none c =
    none_told c.requires.tokens.only c.requires.written c.args.name.now c.args.which c.args.path.now c.one_placed_file.ensures.tokens c.one_placed_file.ensures.definitions c.one_parting.ensures.items
    c.one_list_of_items.ensures.own c.nodes_of_flaws.ensures.one c.told_of_name.result c.told_of_name.ensures.is
