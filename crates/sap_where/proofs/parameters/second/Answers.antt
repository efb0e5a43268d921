use Rattle.std.proofs.Common.{sym, ◌∙◌}
use Rattle.sap_where.proofs.SecondParameter.{next_can}
use Rattle.sap_where.proofs.parameters.second.Goals as goal

pub next-requires-then-goes_on : goal.next-requires-then-goes_on
next-requires-then-goes_on c =
    next_can c.args.bytes.now c.args.tokens.now c.args.i c.in-Some.k c.in-Some.ensures.2.can (sym c.goes_on.ensures ∙ c.if-goes_on.true)
