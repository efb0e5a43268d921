use Rattle.sap_stretches.proofs.Lines.{other_line, same_line}
use Rattle.sap_stretches.proofs.line.line_behind.Goals as goal

pub returns-then-at-known-clause-is : goal.returns-then-at-known-clause-is
returns-then-at-known-clause-is c =
    same_line c.args.bytes.now c.args.known c.args.at c.feeds_in-feeds.result c.requires.known c.requires.behind c.requires.inside c.feeds_in-feeds.ensures.counts c.if-at-known.true

pub returns-clause-is : goal.returns-clause-is
returns-clause-is c =
    other_line c.args.bytes.now c.args.known c.args.at c.feeds_in-feeds.result c.requires.known c.requires.behind c.requires.inside c.feeds_in-feeds.ensures.counts
    c.line_begin.result c.line_end.result c.line_begin.ensures c.line_end.ensures
