use Rattle.std.proofs.Common.{◌≡◌, drop}
use Rattle.sap_terms.specs.Tree.{trees_of}
use Rattle.sap_process.specs.Heads.{facts_terms}
use Rattle.sap_terms.specs.TermTests.{any_has_destructor}
use Rattle.sap_process.proofs.heads.any_fact_has_destructor.Given as goal

abbrev pub invariant-loop-f : goal.invariant-loop-f
invariant-loop-f l =
    any_has_destructor l.sig (trees_of (facts_terms l.fs)) ≡ any_has_destructor l.sig (trees_of (facts_terms (drop l.f-index l.f-items)))
