use Rattle.std.proofs.Common.{refl, ap, map, ◌∙◌}
use Rattle.std.specs.List.{flat_map}
use Rattle.sap_statements.specs.Statements.{formula_of}
use Rattle.sap_notes.specs.Facts.{formula_facts}
use Rattle.sap_notes.specs.code.Gathered.{gathered}
use Rattle.sap_notes.proofs.Gathered.{gathered_item}
use Rattle.sap_notes.proofs.facts.facts_of.Goals as goal

pub loop-statement-preserved : goal.loop-statement-preserved
loop-statement-preserved c =
    gathered_item (λ ss. flat_map formula_facts (map formula_of ss)) (λ s. formula_facts (formula_of s)) (λ s ss. refl) c.as_slice-statement-items.result.now c.loop-statement.statement-index
    c.statement-item.result c.loop-statement-test.true c.statement-item.is c.loop-statement.names c.add_formula_facts.new.names _
    (c.in_ok-add_formula_facts.ensures ∙ ap (λ f. gathered c.loop-statement.names (formula_facts f)) c.formula.ensures) c.loop-statement.invariant
