use Rattle.std.proofs.Common.{sym, ◌∙◌}
use Rattle.sap_terms.specs.View.{tree}
use Rattle.sap_parts.proofs.Lists.{args2-got, args2-none}
use Rattle.sap_parts.proofs.parts.two.Goals as goal

pub returns-else-len-eq2 : goal.returns-else-len-eq2
returns-else-len-eq2 c = args2-none c.args.ts.now (λ h. c.if-len-eq2.false (c.len.ensures ∙ h))

pub returns-then-len-eq2 : goal.returns-then-len-eq2
returns-then-len-eq2 c = args2-got c.args.ts.now (tree c.at.result.now) (tree c.at-then-len-eq2.result.now) (sym c.len.ensures ∙ c.if-len-eq2.true) c.at.ensures.got c.at-then-len-eq2.ensures.got
