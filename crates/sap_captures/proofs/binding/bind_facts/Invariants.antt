use Rattle.std.proofs.Common.{◌≡◌, drop}
use Rattle.sap_nodes.specs.HeadNodes.{facts_nodes}
use Rattle.sap_captures.specs.code.Bindings.{bound_all}
use Rattle.sap_captures.proofs.binding.bind_facts.Given as goal

abbrev pub invariant-loop-f : goal.invariant-loop-f
invariant-loop-f l =
    bound_all l.part l.binding (facts_nodes l.part (drop l.f-index l.f-items)) ≡ bound_all l.part l.initial.binding (facts_nodes l.part l.fs)
