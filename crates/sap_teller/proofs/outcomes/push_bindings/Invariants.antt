use Rattle.std.proofs.Common.{◌≡◌, ◌++◌, take}
use Rattle.sap_teller.specs.code.Doings.{binding_texts}
use Rattle.sap_teller.specs.code.Outcomes.{outcomes_from}
use Rattle.sap_teller.proofs.outcomes.push_bindings.Given as goal

abbrev pub invariant-loop-k : goal.invariant-loop-k
invariant-loop-k l = l.text ≡ l.initial.text ++ outcomes_from l.first (binding_texts l.names (take l.k l.b))
