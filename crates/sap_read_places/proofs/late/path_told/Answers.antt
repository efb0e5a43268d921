use Rattle.std.proofs.Common.{length}
use Rattle.sap_read_places.proofs.PathTold.{nothing_there, told_there}
use Rattle.sap_read_places.proofs.late.path_told.Goals as goal

pub returns-clause-place : goal.returns-clause-place
returns-clause-place c = told_there c.requires.tokens.only c.requires.written c.args.path.now c.told_in_processes.result c.told_in_processes.ensures.is

pub returns-clause-inside : goal.returns-clause-inside
returns-clause-inside c = c.told_in_processes.ensures.inside (length c.args.bytes.now) c.requires.tokens.within

pub returns-clause-uses : goal.returns-clause-uses
returns-clause-uses c = c.told_in_processes.ensures.used (length c.args.bytes.now) c.requires.tokens.within

pub returns-clause-none : goal.returns-clause-none
returns-clause-none c =
    nothing_there c.requires.tokens.only c.requires.written c.one_placed_file.ensures.tokens c.one_placed_file.ensures.definitions c.one_placed_file.ensures.main c.args.path.now
    c.told_in_processes.result c.told_in_processes.ensures.is
