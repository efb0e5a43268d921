-- Small formulas and traces, to try reasons by hand.
use Rattle.std.specs.Prelude.{ℕ, Bool, true, false, codes, List, [], ◌∷◌}
use Rattle.sap_formula.specs.Examples.{a, b, i, j, x}
use Rattle.sap_formula.specs.Form.{Form, action, both, either, equivalent, every, exists, implies, negation, truth}
use Rattle.sap_formula.specs.declared.binder.Binder.TheVariants.{Message, Time}
use Rattle.sap_match.specs.Atoms.{held_term, held_time}
use Rattle.sap_search.specs.Claims.{Chosen}
use Rattle.sap_terms.specs.Trace.{Trace}
use Rattle.sap_terms.specs.Tree.{Tree, variable}
use Rattle.sap_terms.specs.declared.fact.Fact.{Fact}
use Rattle.sap_terms.specs.declared.var.Var.{Var}

-- N of one term
abbrev pub fact_of : List ℕ → Tree → Fact
fact_of n t = record { name = n; persistent = false; args = t ∷ [] }

-- A('a') A('b'), K('b'), A('b') K('a')
abbrev pub leak : Trace
leak = (fact_of (codes "A") a ∷ fact_of (codes "A") b ∷ []) ∷ (fact_of (codes "K") b ∷ []) ∷ (fact_of (codes "A") b ∷ fact_of (codes "K") a ∷ []) ∷ []

-- N(x)@k
abbrev pub says : List ℕ → List ℕ → Form
says n k = action (fact_of n (variable x)) k

-- x is this
abbrev pub x_is : Tree → Chosen
x_is t = record { binder = Message x; value = held_term t }

-- #k is this time
abbrev pub time_is : List ℕ → ℕ → Chosen
time_is k m = record { binder = Time k; value = held_time m }

-- Ex #j. K(x)@j
abbrev pub known : Form
known = exists (Time j ∷ []) (says (codes "K") j)

-- Ex x #i. A(x)@i & (Ex #j. K(x)@j)
abbrev pub leaked : Form
leaked = exists (Message x ∷ Time i ∷ []) (both (says (codes "A") i) known)

-- All x #i. A(x)@i ==> not (Ex #j. K(x)@j)
abbrev pub secret : Form
secret = every (Message x ∷ Time i ∷ []) (implies (says (codes "A") i) (negation known))

-- Ex x #i #j. A(x)@i & K(x)@j
abbrev pub both_guards : Form
both_guards = exists (Message x ∷ Time i ∷ Time j ∷ []) (both (says (codes "A") i) (says (codes "K") j))

-- Ex #j x #i. K(x)@j & A(x)@i
abbrev pub turned : Form
turned = exists (Time j ∷ Message x ∷ Time i ∷ []) (both (says (codes "K") j) (says (codes "A") i))

-- Ex x #i. B(x)@i
abbrev pub nothing : Form
nothing = exists (Message x ∷ Time i ∷ []) (says (codes "B") i)

-- formulas with their truth value on that trace, and the reason
abbrev pub reasons : List (Form × Bool × List Chosen)
reasons =
    (leaked, true, x_is a ∷ time_is i 0 ∷ time_is j 2 ∷ [])
    ∷ (negation leaked, false, x_is a ∷ time_is i 0 ∷ time_is j 2 ∷ [])
    ∷ (secret, false, x_is a ∷ time_is i 0 ∷ time_is j 2 ∷ [])
    -- binders are told in the order in which they stand, guards picked in the order in which these are written
    ∷ (both_guards, true, x_is a ∷ time_is i 0 ∷ time_is j 2 ∷ [])
    ∷ (turned, true, time_is j 1 ∷ x_is b ∷ time_is i 0 ∷ [])
    -- the first part that decides, or both
    ∷ (either nothing turned, true, time_is j 1 ∷ x_is b ∷ time_is i 0 ∷ [])
    ∷ (either turned leaked, true, time_is j 1 ∷ x_is b ∷ time_is i 0 ∷ [])
    ∷ (either leaked truth, true, x_is a ∷ time_is i 0 ∷ time_is j 2 ∷ [])
    ∷ (both turned leaked, true, time_is j 1 ∷ x_is b ∷ time_is i 0 ∷ x_is a ∷ time_is i 0 ∷ time_is j 2 ∷ [])
    ∷ (both leaked nothing, false, [])
    ∷ (both secret nothing, false, x_is a ∷ time_is i 0 ∷ time_is j 2 ∷ [])
    ∷ (implies turned nothing, false, time_is j 1 ∷ x_is b ∷ time_is i 0 ∷ [])
    ∷ (implies secret nothing, true, x_is a ∷ time_is i 0 ∷ time_is j 2 ∷ [])
    ∷ (implies nothing leaked, true, [])
    -- nothing is told of these
    ∷ (truth, true, [])
    ∷ (nothing, false, [])
    ∷ (equivalent leaked turned, true, [])
    -- a binder that a later one hides is left out
    ∷ (exists (Time i ∷ Message x ∷ Time i ∷ []) (says (codes "A") i), true, x_is a ∷ time_is i 0 ∷ [])
    ∷ []

-- and lists that are none
abbrev pub no_reasons : List (Form × Bool × List Chosen)
no_reasons =
    -- the second choice that shows it, a witness at another time, the first fact tried, which shows nothing
    (leaked, true, x_is b ∷ time_is i 0 ∷ time_is j 1 ∷ [])
    ∷ (leaked, true, x_is a ∷ time_is i 0 ∷ time_is j 1 ∷ [])
    ∷ (secret, false, x_is b ∷ time_is i 2 ∷ time_is j 1 ∷ [])
    ∷ (leaked, true, [])
    ∷ (leaked, true, x_is a ∷ time_is i 0 ∷ [])
    ∷ (turned, true, x_is b ∷ time_is i 0 ∷ time_is j 1 ∷ [])
    ∷ (turned, true, time_is j 1 ∷ x_is b ∷ time_is i 2 ∷ [])
    ∷ (either nothing turned, true, [])
    ∷ (either leaked turned, true, time_is j 1 ∷ x_is b ∷ time_is i 0 ∷ [])
    ∷ (equivalent leaked turned, true, x_is a ∷ time_is i 0 ∷ time_is j 2 ∷ [])
    ∷ []
