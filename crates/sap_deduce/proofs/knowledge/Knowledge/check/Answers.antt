use Rattle.std.proofs.Common.{sym, ◌∙◌}
use Rattle.sap_deduce.proofs.Numbers.{find_none-below}
use Rattle.sap_deduce.proofs.knowledge.Knowledge.check.Goals as goal

pub returns-in-None-clause-known : goal.returns-in-None-clause-known
returns-in-None-clause-known c = find_none-below _ _ (sym c.first_unknown.ensures ∙ c.in-None.is)
