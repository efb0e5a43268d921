-- Which restrictions a process needs.
use Rattle.std.specs.Prelude.{Bool, true, false, ◌||◌, List, filter}
use Rattle.sap_process.specs.Action.{input, lock, receive, send}
use Rattle.sap_process.specs.Proc.{Proc, nil, parallel, replicated, act, test, lookup}
use Rattle.sap_restrict.specs.Standard.{every_which}
use Rattle.sap_restrict.specs.declared.which.Which.{Which}
use Rattle.sap_restrict.specs.declared.which.Which.TheVariants.{Eq, In, InEv, Init, Lock, NotEq, NotIn}

-- some place of the process passes the test
abbrev pub has : (Proc → Bool) → Proc → Bool
has at nil = at nil
has at (parallel p q) = at (parallel p q) || (has at p || has at q)
has at (replicated p) = at (replicated p) || has at p
has at (act a p) = at (act a p) || has at p
has at (test t u p q) = at (test t u p q) || (has at p || has at q)
has at (lookup t x p q) = at (lookup t x p q) || (has at p || has at q)

-- it tests whether two terms are equal
abbrev pub is_test : Proc → Bool
is_test (test t u p q) = true
is_test _ = false

-- it looks up what the store has
abbrev pub is_lookup : Proc → Bool
is_lookup (lookup t x p q) = true
is_lookup _ = false

-- it locks a term
abbrev pub is_lock : Proc → Bool
is_lock (act (lock t n) p) = true
is_lock _ = false

-- it takes an input, or deals with a message on a channel
abbrev pub is_input : Proc → Bool
is_input (act (input t) p) = true
is_input (act (receive t u) p) = true
is_input (act (send t u) p) = true
is_input _ = false

-- the process needs this restriction
abbrev pub needs : Which → Proc → Bool
needs Init p = true
needs Eq p = has is_test p
needs NotEq p = has is_test p
needs In p = has is_lookup p
needs NotIn p = has is_lookup p
needs Lock p = has is_lock p
needs InEv p = has is_input p

-- those that it needs, in order
abbrev pub needed : Proc → List Which
needed p = filter (λ w. needs w p) every_which
