use Rattle.std.proofs.Common.{◌∙◌}
use Rattle.sap_deduce.proofs.lines.append.Goals as goal

pub returns-in_err-push-clause-more : goal.returns-in_err-push-clause-more
returns-in_err-push-clause-more c = record { added = _; is = c.in_err-push.ensures.err ∙ c.loop-k.invariant }
