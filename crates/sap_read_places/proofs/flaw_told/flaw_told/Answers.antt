use Rattle.std.proofs.Common.{length}
use Rattle.sap_read_places.proofs.FlawTold.{flaw_there, no_flaw_there}
use Rattle.sap_read_places.proofs.flaw_told.flaw_told.Goals as goal

pub returns-clause-place : goal.returns-clause-place
returns-clause-place c =
    flaw_there c.requires.tokens.only c.requires.written c.bodies_are_spelled.ensures c.some_head.ensures.parallel c.nodes_have_stems.ensures.written c.args.which c.args.path.now c.told_of_process.result
    c.told_of_process.ensures.is

pub returns-clause-inside : goal.returns-clause-inside
returns-clause-inside c = c.told_of_process.ensures.inside (length c.args.bytes.now) c.requires.tokens.within

pub returns-clause-uses : goal.returns-clause-uses
returns-clause-uses c = c.told_of_process.ensures.used (length c.args.bytes.now) c.requires.tokens.within

pub returns-clause-none : goal.returns-clause-none
returns-clause-none c =
    no_flaw_there c.requires.tokens.only c.requires.written c.one_placed_file.ensures.tokens c.one_placed_file.ensures.definitions c.one_placed_file.ensures.main c.one_parting.ensures.items
    c.one_list_of_items.ensures.own c.nodes_of_flaws.ensures.one c.filled_scopes.ensures.one c.sites_are_the_places.ensures.in_order c.args.which c.args.path.now c.told_of_process.result
    c.told_of_process.ensures.is
