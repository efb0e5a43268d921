use Rattle.std.proofs.Common.{sym, ◌∙◌}
use Rattle.sap_parts.proofs.Lists.{args1-got, args1-none}
use Rattle.sap_parts.proofs.parts.one.Goals as goal

pub returns-else-len-eq1 : goal.returns-else-len-eq1
returns-else-len-eq1 c = args1-none c.args.ts.now (λ h. c.if-len-eq1.false (c.len.ensures ∙ h))

pub returns-then-len-eq1 : goal.returns-then-len-eq1
returns-then-len-eq1 c = sym c.at.ensures.got ∙ args1-got c.args.ts.now (sym c.len.ensures ∙ c.if-len-eq1.true)
