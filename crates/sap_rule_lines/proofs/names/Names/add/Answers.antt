use Rattle.std.proofs.Common.{ap, ◌∙◌}
use Rattle.sap_rule_lines.specs.Least.{is_among}
use Rattle.sap_rule_lines.proofs.NameSets.{among_inserted}
use Rattle.sap_rule_lines.proofs.names.Names.add.Goals as goal

pub returns : goal.returns
returns c = λ m. rw (← c.self.view_is) (ap (λ ns. is_among ns m) c.in_ok-insert.ensures.keys ∙ among_inserted c.self.inside.keys.keys c.args.n m)
