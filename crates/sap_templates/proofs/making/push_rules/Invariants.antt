use Rattle.std.proofs.Common.{◌≡◌, ◌++◌, map, take}
use Rattle.sap_templates.specs.code.Sites.{rule_of}
use Rattle.sap_templates.proofs.making.push_rules.Given as goal

abbrev pub invariant-loop-outline : goal.invariant-loop-outline
invariant-loop-outline l = l.rules ≡ l.initial.rules ++ map (rule_of l.site) (take l.outline-index l.outlines)
