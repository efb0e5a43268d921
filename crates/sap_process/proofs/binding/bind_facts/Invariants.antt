use Rattle.std.proofs.Common.{◌≡◌, drop}
use Rattle.sap_terms.specs.Variables.{facts_vars}
use Rattle.sap_process.specs.code.Binders.{with_new}
use Rattle.sap_process.proofs.binding.bind_facts.Given as goal

abbrev pub invariant-loop-f : goal.invariant-loop-f
invariant-loop-f l = with_new l.scope (facts_vars (drop l.f-index l.f-items)) ≡ with_new l.initial.scope (facts_vars l.fs)
