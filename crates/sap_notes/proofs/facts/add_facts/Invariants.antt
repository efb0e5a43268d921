use Rattle.std.proofs.Common.{◌≡◌, drop, map}
use Rattle.sap_notes.specs.Facts.{fact_key}
use Rattle.sap_notes.specs.code.Gathered.{gathered}
use Rattle.sap_notes.proofs.facts.add_facts.Given as goal

abbrev pub invariant-loop-fact : goal.invariant-loop-fact
invariant-loop-fact l = gathered l.names (map fact_key (drop l.fact-index l.fact-items)) ≡ gathered l.initial.names (map fact_key l.fact-items)
