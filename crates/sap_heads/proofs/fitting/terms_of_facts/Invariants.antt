use Rattle.std.proofs.Common.{◌≡◌, take}
use Rattle.sap_process.specs.Heads.{facts_terms}
use Rattle.sap_heads.proofs.fitting.terms_of_facts.Given as goal

abbrev pub invariant-loop-f : goal.invariant-loop-f
invariant-loop-f l = l.out ≡ facts_terms (take l.f-index l.f-items)
