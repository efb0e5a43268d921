use Rattle.std.proofs.Common.{length}
use Rattle.sap_read_places.proofs.FlawTold.{only_other}
use Rattle.sap_read_places.proofs.other_flaw_told.other_flaw_told.Goals as goal

pub returns-clause-only : goal.returns-clause-only
returns-clause-only c =
    only_other c.requires.tokens.only c.requires.written c.one_placed_file.ensures.tokens c.one_placed_file.ensures.definitions c.one_placed_file.ensures.main c.one_parting.ensures.items
    c.one_list_of_items.ensures.own c.nodes_of_flaws.ensures.one c.filled_scopes.ensures.one c.sites_are_the_places.ensures.in_order c.args.which c.args.path.now c.other_of_process.result
    c.other_of_process.ensures.is

pub returns-clause-inside : goal.returns-clause-inside
returns-clause-inside c = c.other_of_process.ensures.inside (length c.args.bytes.now) c.requires.tokens.within
