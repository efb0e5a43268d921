use Rattle.std.proofs.Common.{◌≡◌, drop}
use Rattle.sap_notes.specs.Symbols.{facts_symbols}
use Rattle.sap_notes.specs.code.Gathered.{gathered}
use Rattle.sap_notes.proofs.symbols.add_facts.Given as goal

abbrev pub invariant-loop-fact : goal.invariant-loop-fact
invariant-loop-fact l = gathered l.names (facts_symbols (drop l.fact-index l.fact-items)) ≡ gathered l.initial.names (facts_symbols l.fact-items)
