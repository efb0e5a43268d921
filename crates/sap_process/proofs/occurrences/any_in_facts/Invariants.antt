use Rattle.std.proofs.Common.{◌≡◌, drop}
use Rattle.std.specs.List.{list_any}
use Rattle.sap_terms.specs.Variables.{facts_vars}
use Rattle.sap_process.specs.code.Tests.{var_flawed}
use Rattle.sap_process.proofs.occurrences.any_in_facts.Given as goal

abbrev pub invariant-loop-f : goal.invariant-loop-f
invariant-loop-f l =
    list_any (var_flawed l.which l.scope) (facts_vars l.fs) ≡ list_any (var_flawed l.which l.scope) (facts_vars (drop l.f-index l.f-items))
