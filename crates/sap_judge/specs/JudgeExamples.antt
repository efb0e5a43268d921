-- Small formulas and traces, to try what judging costs and what hiding leaves.
use Rattle.std.specs.Prelude.{ℕ, zero, suc, true, false, codes, List, [], ◌∷◌}
use Rattle.sap_terms.specs.Trace.{Trace}
use Rattle.sap_terms.specs.declared.fact.Fact.{Fact}
use Rattle.sap_formula.specs.CheckExamples.{named, shows}
use Rattle.sap_formula.specs.Examples.{a, b, i, j, fact, other_fact, trace_a, trace_ab}
use Rattle.sap_formula.specs.Form.{Form, truth, falsity, equal, same_time, earlier, negation, both, either, implies, equivalent, every, exists}
use Rattle.sap_formula.specs.declared.binder.Binder.TheVariants.{Time}

-- two facts A and three B: A('a') B('a'), !A('b','b') B('a') B('a')
abbrev pub two_and_three : Trace
two_and_three =
    (fact false (a ∷ []) ∷ other_fact ∷ []) ∷ (fact true (b ∷ b ∷ []) ∷ other_fact ∷ other_fact ∷ []) ∷ []

-- A('a')@i
abbrev pub first_guard : Form
first_guard = shows a i

-- B('a')@k
abbrev pub other_guard : List ℕ → Form
other_guard k = named (codes "B") k

-- C('a')@i
abbrev pub no_fact : Form
no_fact = named (codes "C") i

-- each atom costs 1, a connective nothing: not ((T & F) ==> ('a' = 'b' <=> (#i = #j | #i < #j))) & A('a')@i
abbrev pub six_atoms : Form
six_atoms =
    both (negation (implies (both truth falsity) (equivalent (equal a b) (either (same_time i j) (earlier i j))))) first_guard

-- formulas, and what they cost on that trace
abbrev pub costs : List (Form × ℕ)
costs =
    (six_atoms, 6)
    -- Ex #i #j. A('a')@i & B('a')@j: 2 * 3 * (1 + 2)
    ∷ (exists (Time i ∷ Time j ∷ []) (both first_guard (other_guard j)), 18)
    -- Ex #i. A('a')@i & B('a')@i: the same, though #i needs one guard alone
    ∷ (exists (Time i ∷ []) (both first_guard (other_guard i)), 18)
    -- Ex #i #j. A('a')@i & A('a')@j: 2 * 2 * (1 + 2)
    ∷ (exists (Time i ∷ Time j ∷ []) (both first_guard (shows a j)), 12)
    -- All #i. A('a')@i, without an implication: 1 * (1 + 1)
    ∷ (every (Time i ∷ []) first_guard, 2)
    -- All #i. A('a')@i & B('a')@i: 1 * (1 + 2)
    ∷ (every (Time i ∷ []) (both first_guard (other_guard i)), 3)
    -- All #i. A('a')@i ==> B('a')@i: 2 * (1 + 2)
    ∷ (every (Time i ∷ []) (implies first_guard (other_guard i)), 6)
    -- Ex #i. A('a')@i ==> B('a')@i: 1 * (1 + 2)
    ∷ (exists (Time i ∷ []) (implies first_guard (other_guard i)), 3)
    -- Ex #i. C('a')@i: 0 * (1 + 1)
    ∷ (exists (Time i ∷ []) no_fact, 0)
    -- All #i. A('a')@i & C('a')@i ==> T: 2 * 0 * (1 + 3)
    ∷ (every (Time i ∷ []) (implies (both first_guard no_fact) truth), 0)
    -- Ex #i. A('a')@i & (Ex #j. B('a')@j): 2 * (1 + (1 + 3 * (1 + 1)))
    ∷ (exists (Time i ∷ []) (both first_guard (exists (Time j ∷ []) (other_guard j))), 16)
    -- Ex #i. A('a')@i & not B('a')@i, and with | and <=>: 2 * (1 + 2), 1 * (1 + 2)
    ∷ (exists (Time i ∷ []) (both first_guard (negation (other_guard i))), 6)
    ∷ (exists (Time i ∷ []) (either first_guard (other_guard i)), 3)
    ∷ (exists (Time i ∷ []) (equivalent first_guard (other_guard i)), 3)
    -- Ex #i. A('a')@i & (All. A('a')@i): 2 * (1 + (1 + 1 * (1 + 1)))
    ∷ (exists (Time i ∷ []) (both first_guard (every [] first_guard)), 8)
    ∷ []

-- A('a'), this often
abbrev pub many_times : ℕ → Trace
many_times zero = []
many_times (suc n) = (fact false (a ∷ []) ∷ []) ∷ many_times n

-- A('a')@i this often, and T
abbrev pub many_guards : ℕ → Form
many_guards zero = truth
many_guards (suc n) = both first_guard (many_guards n)

-- six guards and two more atoms: of ten times 10 * 10 * 10 * 10 * 10 * 10 * (1 + 9)
abbrev pub at_limit : Form
at_limit = exists (Time i ∷ []) (both (many_guards 6) (both truth truth))

-- twenty guards: of ten times beyond what 64 bits hold
abbrev pub far_beyond : Form
far_beyond = exists (Time i ∷ []) (many_guards 20)

-- N('a') of this name
abbrev pub named_fact : List ℕ → Fact
named_fact n = record { name = n; persistent = false; args = a ∷ [] }

-- traces, and what hiding leaves: what isn't hidden stays, in order; of A and Init A; K stays and Init alone leaves no time,
-- nor does a time that was empty; names that are near to reserved ones
abbrev pub hidden_ones : List (Trace × Trace)
hidden_ones =
    (trace_ab, trace_ab)
    ∷ ((named_fact (codes "Init") ∷ fact true (a ∷ b ∷ []) ∷ named_fact (codes "Event") ∷ other_fact ∷ []) ∷ [], (fact true (a ∷ b ∷ []) ∷ other_fact ∷ []) ∷ [])
    ∷ ((named_fact (codes "Init") ∷ []) ∷ (named_fact (codes "K") ∷ []) ∷ [] ∷ (fact false (a ∷ []) ∷ []) ∷ [], (named_fact (codes "K") ∷ []) ∷ trace_a)
    ∷ ((named_fact (codes "KU") ∷ []) ∷ (named_fact (codes "State_1") ∷ named_fact (codes "Semi_1") ∷ []) ∷ [], [])
    ∷ ((named_fact (codes "Initial") ∷ named_fact (codes "State") ∷ named_fact (codes "init") ∷ []) ∷ [], (named_fact (codes "Initial") ∷ named_fact (codes "State") ∷ named_fact (codes "init") ∷ []) ∷ [])
    ∷ []
