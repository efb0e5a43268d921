-- What is made at a site.
use Rattle.std.specs.Prelude.{List}
use Rattle.sap_terms.specs.declared.fact.Fact.{Fact}
use Rattle.sap_process.specs.Proc.{proc}
use Rattle.sap_rule.specs.declared.rule.Rule.{Rule}
use Rattle.sap_outlines.specs.Outlines.{part, side, outlined}
use Rattle.sap_outlines.specs.declared.outline.Outline.{Outline}
use Rattle.sap_outlines.specs.declared.outline.Part.{Part}
use Rattle.sap_templates.specs.declared.making.Site.{Site}

-- the facts of a part
abbrev pub facts_of : Site → Part → List Fact
facts_of s a = part s.terms.now (proc s.process.now) s.path.now s.scope.now s.inner.now a

-- those of a side
abbrev pub side_of : Site → List Part → List Fact
side_of s parts = side s.terms.now (proc s.process.now) s.path.now s.scope.now s.inner.now parts

-- the rule of an outline
abbrev pub rule_of : Site → Outline → Rule
rule_of s o = outlined s.terms.now (proc s.process.now) s.path.now s.scope.now s.inner.now o
