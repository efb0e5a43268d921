use Rattle.std.proofs.Common.{sym, ◌∙◌}
use Rattle.sap_terms.specs.View.{tree}
use Rattle.sap_parts.proofs.Lists.{args3-got, args3-none}
use Rattle.sap_parts.proofs.parts.three.Goals as goal

pub returns-else-len-eq3 : goal.returns-else-len-eq3
returns-else-len-eq3 c = args3-none c.args.ts.now (λ h. c.if-len-eq3.false (c.len.ensures ∙ h))

pub returns-then-len-eq3 : goal.returns-then-len-eq3
returns-then-len-eq3 c = args3-got c.args.ts.now (tree c.at.result.now) (tree c.at-then-len-eq3.result.now) (tree c.at-then-len-eq3-2.result.now) (sym c.len.ensures ∙ c.if-len-eq3.true) c.at.ensures.got c.at-then-len-eq3.ensures.got c.at-then-len-eq3-2.ensures.got
