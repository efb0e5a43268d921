use Rattle.std.proofs.Common.{◌≡◌, drop, map}
use Rattle.std.specs.List.{flat_map}
use Rattle.sap_statements.specs.Statements.{formula_of}
use Rattle.sap_notes.specs.Facts.{formula_facts}
use Rattle.sap_notes.specs.code.Gathered.{gathered}
use Rattle.sap_notes.proofs.facts.facts_of.Given as goal

abbrev pub invariant-loop-statement : goal.invariant-loop-statement
invariant-loop-statement l =
    gathered l.names (flat_map formula_facts (map formula_of (drop l.statement-index l.statement-items)))
    ≡ gathered l.initial.names (flat_map formula_facts (map formula_of l.statement-items))
