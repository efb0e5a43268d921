use Rattle.std.proofs.Common.{◌≡◌, drop}
use Rattle.std.specs.List.{find}
use Rattle.sap_other_nodes.specs.code.FactSearches.{is_sought, numbered_facts}
use Rattle.sap_other_nodes.proofs.other_fact.first_in.Given as goal

abbrev pub invariant-loop-f : goal.invariant-loop-f
invariant-loop-f l =
    find (is_sought l.sought) (numbered_facts l.node l.part (drop l.f-index l.f-items))
    ≡ find (is_sought l.sought) (numbered_facts l.fn.front l.part l.fs)
