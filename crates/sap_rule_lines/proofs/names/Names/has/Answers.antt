use Rattle.std.proofs.Common.{◌∙◌}
use Rattle.sap_rule_lines.proofs.NameSets.{any_is}
use Rattle.sap_rule_lines.proofs.names.Names.has.Goals as goal

pub returns : goal.returns
returns c = rw (← c.self.view_is) (c.contains.ensures ∙ any_is c.self.inside.keys.keys c.args.n)
