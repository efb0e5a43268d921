-- Small traces with empty times, and a formula that isn't closed and sees them.
use Rattle.std.specs.Prelude.{false, codes, List, [], ◌∷◌}
use Rattle.sap_terms.specs.Trace.{Trace}
use Rattle.sap_terms.specs.declared.fact.Fact.{Fact}
use Rattle.sap_formula.specs.Examples.{a, b, i, fact, other_fact, trace_aa, trace_ab}
use Rattle.sap_formula.specs.Form.{Form, truth, exists}
use Rattle.sap_formula.specs.declared.binder.Binder.TheVariants.{Time}

-- Init(), which hiding would leave out
abbrev pub hidden_fact : Fact
hidden_fact = record { name = codes "Init"; persistent = false; args = [] }

-- traces, and what is left of them without their empty times
abbrev pub filled_ones : List (Trace × Trace)
filled_ones =
    ([], [])
    ∷ ([] ∷ [] ∷ [], [])
    -- times stay in order, and two that show the same stay two
    ∷ ([] ∷ (fact false (a ∷ []) ∷ []) ∷ [] ∷ [] ∷ (fact false (b ∷ []) ∷ []) ∷ [], trace_ab)
    ∷ ((fact false (a ∷ []) ∷ []) ∷ [] ∷ (fact false (a ∷ []) ∷ []) ∷ [], trace_aa)
    -- of a time all facts stay, whatever their names
    ∷ ([] ∷ (hidden_fact ∷ other_fact ∷ []) ∷ [], (hidden_fact ∷ other_fact ∷ []) ∷ [])
    ∷ []

-- Ex #i. T
abbrev pub some_time_at_all : Form
some_time_at_all = exists (Time i ∷ []) truth
