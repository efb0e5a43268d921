use Rattle.std.proofs.Common.{◌≡◌, ◌++◌, length, take, drop}
use Rattle.sap_terms.specs.Variables.{facts_vars}
use Rattle.sap_terms.proofs.occurrences.push_facts_vars.Given as goal

abbrev pub invariant-loop-f : goal.invariant-loop-f
invariant-loop-f l =
    (l.out ++ facts_vars (drop l.f-index l.f-items) ≡ l.initial.out ++ facts_vars l.fs)
    × (take (length l.initial.out) l.out ≡ l.initial.out)
