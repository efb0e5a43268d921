use Rattle.std.proofs.Common.{◌≡◌, drop}
use Rattle.sap_terms.specs.Tree.{trees_of}
use Rattle.sap_process.specs.Heads.{facts_terms}
use Rattle.sap_terms.specs.TermTests.{are_over}
use Rattle.sap_process.proofs.heads.are_facts_over.Given as goal

abbrev pub invariant-loop-f : goal.invariant-loop-f
invariant-loop-f l = are_over l.sig (trees_of (facts_terms l.fs)) ≡ are_over l.sig (trees_of (facts_terms (drop l.f-index l.f-items)))
