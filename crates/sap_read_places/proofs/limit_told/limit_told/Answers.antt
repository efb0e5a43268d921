use Rattle.std.proofs.Common.{length}
use Rattle.sap_read_places.proofs.LimitTold.{limit_nowhere, limit_there}
use Rattle.sap_read_places.proofs.limit_told.limit_told.Goals as goal

pub returns-clause-place : goal.returns-clause-place
returns-clause-place c = limit_there c.located_is_written.ensures c.requires.tokens.only c.requires.written c.args.limit c.told_beyond.result c.told_beyond.ensures.is

pub returns-clause-inside : goal.returns-clause-inside
returns-clause-inside c = c.told_beyond.ensures.inside (length c.args.bytes.now) c.requires.tokens.within

pub returns-clause-uses : goal.returns-clause-uses
returns-clause-uses c = c.told_beyond.ensures.used (length c.args.bytes.now) c.requires.tokens.within

pub returns-clause-none : goal.returns-clause-none
returns-clause-none c =
    limit_nowhere c.located_is_written.ensures c.requires.tokens.only c.requires.written c.one_placed_file.ensures.tokens c.one_placed_file.ensures.definitions c.one_placed_file.ensures.main c.args.limit
    c.told_beyond.result c.told_beyond.ensures.is
