-- When an input may follow, and that what is given just before may be taken.
use Rattle.std.specs.Prelude.{◌↔◌, [], ◌∷◌, ◌++◌}
use Rattle.sap_terms.specs.AdversaryFacts.{k_fact}
use Rattle.sap_terms.specs.Trace.{Trace}
use Rattle.sap_terms.specs.Tree.{Tree}
use Rattle.sap_restrict.specs.ReservedFacts.{input_fact}
use Rattle.sap_restrict.specs.Sentences.{EachServed}
use Rattle.sap_restrict.specs.Shown.{HasFact}
use Rattle.sap_attacks.specs.Taking.{IsPending}

-- behind a trace whose inputs are served one more is served exactly where its message is pending there
abbrev pub PendingDecides : Type 0
PendingDecides =
    (tr : Trace) (t : Tree) → (EachServed (HasFact tr) × IsPending tr t) ↔ EachServed (HasFact (tr ++ (input_fact t ∷ []) ∷ []))

-- and behind any such trace a message that is given is pending then, and all inputs are served still
abbrev pub GivenMessagesServe : Type 0
GivenMessagesServe =
    (tr : Trace) (t : Tree) → EachServed (HasFact tr)
    → IsPending (tr ++ (k_fact t ∷ []) ∷ []) t × EachServed (HasFact (tr ++ (k_fact t ∷ []) ∷ []))
