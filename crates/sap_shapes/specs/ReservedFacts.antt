-- The facts that rules show so that the restrictions can speak of them.
use Rattle.std.specs.Prelude.{[], ◌∷◌}
use Rattle.sap_terms.specs.AdversaryFacts.{linear}
use Rattle.sap_terms.specs.FactNames.{init_name, event_name, in_event_name, eq_name, not_eq_name, insert_name, delete_name, is_in_name, is_not_set_name, lock_name, unlock_name}
use Rattle.sap_terms.specs.Tree.{Tree}
use Rattle.sap_terms.specs.declared.fact.Fact.{Fact}

-- the run starts
abbrev pub init_fact : Fact
init_fact = linear init_name []

-- an event of the process is shown
abbrev pub event_fact : Fact
event_fact = linear event_name []

-- the input t is taken from the adversary
abbrev pub input_fact : Tree → Fact
input_fact t = linear in_event_name (t ∷ [])

-- a test found t and u equal
abbrev pub eq_fact : Tree → Tree → Fact
eq_fact t u = linear eq_name (t ∷ u ∷ [])

-- a test found t and u different
abbrev pub not_eq_fact : Tree → Tree → Fact
not_eq_fact t u = linear not_eq_name (t ∷ u ∷ [])

-- the store has u at t from now on
abbrev pub insert_fact : Tree → Tree → Fact
insert_fact t u = linear insert_name (t ∷ u ∷ [])

-- the store has nothing at t from now on
abbrev pub delete_fact : Tree → Fact
delete_fact t = linear delete_name (t ∷ [])

-- the store has u at t
abbrev pub is_in_fact : Tree → Tree → Fact
is_in_fact t u = linear is_in_name (t ∷ u ∷ [])

-- the store has nothing at t
abbrev pub is_not_set_fact : Tree → Fact
is_not_set_fact t = linear is_not_set_name (t ∷ [])

-- t is held from now on, under the name n
abbrev pub lock_fact : Tree → Tree → Fact
lock_fact n t = linear lock_name (n ∷ t ∷ [])

-- what is held under the name n, t, isn't any more
abbrev pub unlock_fact : Tree → Tree → Fact
unlock_fact n t = linear unlock_name (n ∷ t ∷ [])
