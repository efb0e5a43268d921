-- The rules of a process: a rule that starts it, and those of its places.
use Rattle.std.specs.Prelude.{ℕ, List, [], ◌∷◌, ◌++◌, map, codes}
use Rattle.sap_terms.specs.AdversaryFacts.{in_fact, out_fact}
use Rattle.sap_terms.specs.Equations.{app2, pair_name}
use Rattle.sap_terms.specs.Tree.{Tree, variable}
use Rattle.sap_terms.specs.Variables.{tree_vars, facts_vars}
use Rattle.sap_terms.specs.declared.fact.Fact.{Fact}
use Rattle.sap_terms.specs.declared.var.Var.{Var}
use Rattle.sap_process.specs.Action as action
use Rattle.sap_process.specs.Action.{Action}
use Rattle.sap_process.specs.Proc.{Proc, nil, parallel, replicated, act, test, lookup}
use Rattle.sap_process.specs.Sites.{fresh_var, message_var}
use Rattle.sap_process.specs.Scopes.{lock_var, scope_behind, with_new}
use Rattle.sap_place.specs.StateFacts.{digits, state_fact, copies_fact, waits_fact, tag}
use Rattle.sap_shapes.specs.ReservedFacts.{init_fact, event_fact, input_fact, eq_fact, not_eq_fact, insert_fact, delete_fact, is_in_fact, is_not_set_fact, lock_fact, unlock_fact}
use Rattle.sap_rule.specs.declared.rule.Rule.{Rule}
use Rattle.sap_outlines.specs.ChannelFacts.{fresh_fact, msg_fact, ack_fact}

-- the paths of the children
abbrev pub first_of : List ℕ → List ℕ
first_of path = path ++ 1 ∷ []

-- that of the second
abbrev pub second_of : List ℕ → List ℕ
second_of path = path ++ 2 ∷ []

-- control is at the place with this path, where these variables are in scope
abbrev pub state : List ℕ → List Var → Fact
state path v = state_fact path (map variable v)

-- a rule of the place with this path
abbrev pub rule : List ℕ → List ℕ → List Fact → List Fact → List Fact → Rule
rule word path left acts right = record { name = word ++ digits path; left = left; acts = acts; right = right }

-- the rule takes the fresh name that the process makes
abbrev pub new_rule : List ℕ → List Var → Var → Rule
new_rule path v x =
    rule (codes "New_") path (state path v ∷ fresh_fact (variable (fresh_var x)) ∷ []) []
    (state (first_of path) (v ++ fresh_var x ∷ []) ∷ [])

-- the rules of a new name
abbrev pub new_rules : List ℕ → List Var → Var → List Rule
new_rules path v x = new_rule path v x ∷ []

-- the adversary is given the term
abbrev pub out_rule : List ℕ → List Var → Tree → Rule
out_rule path v t =
    rule (codes "Out_") path (state path v ∷ []) [] (out_fact t ∷ state (first_of path) v ∷ [])

-- the rules of an output
abbrev pub out_rules : List ℕ → List Var → Tree → List Rule
out_rules path v t = out_rule path v t ∷ []

-- the adversary gives the channel, and is given the term
abbrev pub out_adv_rule : List ℕ → List Var → Tree → Tree → Rule
out_adv_rule path v t u =
    rule (codes "OutAdv_") path (state path v ∷ in_fact t ∷ []) (input_fact t ∷ [])
    (out_fact u ∷ state (first_of path) v ∷ [])

-- the term is under way with a fresh tag, and the process waits with it
abbrev pub out_msg_rule : List ℕ → List Var → Tree → Tree → Rule
out_msg_rule path v t u =
    rule (codes "OutMsg_") path (state path v ∷ fresh_fact (variable tag) ∷ []) []
    (msg_fact (variable tag) t u ∷ waits_fact path (map variable v ++ variable tag ∷ []) ∷ [])

-- it goes on once its tag is acknowledged
abbrev pub out_ack_rule : List ℕ → List Var → Rule
out_ack_rule path v =
    rule (codes "OutAck_") path
    (waits_fact path (map variable v ++ variable tag ∷ []) ∷ ack_fact (variable tag) ∷ []) []
    (state (first_of path) v ∷ [])

-- on a channel that the adversary gives, it is given the term; else the term is under way with a tag, and the process waits
-- until that tag is acknowledged
abbrev pub send_rules : List ℕ → List Var → Tree → Tree → List Rule
send_rules path v t u = out_adv_rule path v t u ∷ out_msg_rule path v t u ∷ out_ack_rule path v ∷ []

-- the adversary gives an instance of the pattern
abbrev pub in_rule : List ℕ → List Var → Tree → Rule
in_rule path v t =
    rule (codes "In_") path (state path v ∷ in_fact t ∷ []) (input_fact t ∷ [])
    (state (first_of path) (with_new v (tree_vars t)) ∷ [])

-- the rules of an input
abbrev pub input_rules : List ℕ → List Var → Tree → List Rule
input_rules path v t = in_rule path v t ∷ []

-- the adversary gives the channel and an instance of the pattern, as a pair
abbrev pub in_adv_rule : List ℕ → List Var → Tree → Tree → Rule
in_adv_rule path v t u =
    rule (codes "InAdv_") path (state path v ∷ in_fact (app2 pair_name t u) ∷ [])
    (input_fact (app2 pair_name t u) ∷ [])
    (state (first_of path) (with_new v (tree_vars u)) ∷ [])

-- an instance of the pattern is under way on the channel, and its tag is acknowledged
abbrev pub in_msg_rule : List ℕ → List Var → Tree → Tree → Rule
in_msg_rule path v t u =
    rule (codes "InMsg_") path (state path v ∷ msg_fact (variable tag) t u ∷ []) []
    (ack_fact (variable tag) ∷ state (first_of path) (with_new v (tree_vars u)) ∷ [])

-- the adversary gives the channel and an instance of the pattern, or a message is under way on the channel, whose tag is
-- acknowledged
abbrev pub receive_rules : List ℕ → List Var → Tree → Tree → List Rule
receive_rules path v t u = in_adv_rule path v t u ∷ in_msg_rule path v t u ∷ []

-- the fact is shown beside `Event()`
abbrev pub event_rule : List ℕ → List Var → Fact → Rule
event_rule path v f =
    rule (codes "Event_") path (state path v ∷ []) (event_fact ∷ f ∷ [])
    (state (first_of path) v ∷ [])

-- the rules of an event
abbrev pub event_rules : List ℕ → List Var → Fact → List Rule
event_rules path v f = event_rule path v f ∷ []

-- what is stored is shown
abbrev pub insert_rule : List ℕ → List Var → Tree → Tree → Rule
insert_rule path v t u =
    rule (codes "Insert_") path (state path v ∷ []) (insert_fact t u ∷ [])
    (state (first_of path) v ∷ [])

-- the rules of an insertion
abbrev pub insert_rules : List ℕ → List Var → Tree → Tree → List Rule
insert_rules path v t u = insert_rule path v t u ∷ []

-- the key at which nothing is stored from now on is shown
abbrev pub delete_rule : List ℕ → List Var → Tree → Rule
delete_rule path v t =
    rule (codes "Delete_") path (state path v ∷ []) (delete_fact t ∷ [])
    (state (first_of path) v ∷ [])

-- the rules of a deletion
abbrev pub delete_rules : List ℕ → List Var → Tree → List Rule
delete_rules path v t = delete_rule path v t ∷ []

-- the term is locked under a fresh name, for which the variable of the lock stands from here on
abbrev pub lock_rule : List ℕ → List Var → Tree → ℕ → Rule
lock_rule path v t l =
    rule (codes "Lock_") path (state path v ∷ fresh_fact (variable (lock_var l)) ∷ [])
    (lock_fact (variable (lock_var l)) t ∷ [])
    (state (first_of path) (v ++ lock_var l ∷ []) ∷ [])

-- the rules of a lock
abbrev pub lock_rules : List ℕ → List Var → Tree → ℕ → List Rule
lock_rules path v t l = lock_rule path v t l ∷ []

-- it is unlocked under the name of its lock, whose variable stays in scope
abbrev pub unlock_rule : List ℕ → List Var → Tree → ℕ → Rule
unlock_rule path v t l =
    rule (codes "Unlock_") path (state path v ∷ []) (unlock_fact (variable (lock_var l)) t ∷ [])
    (state (first_of path) v ∷ [])

-- the rules of an unlock
abbrev pub unlock_rules : List ℕ → List Var → Tree → ℕ → List Rule
unlock_rules path v t l = unlock_rule path v t l ∷ []

-- what an embedded rule shows: its facts beside `Event()`, where it has any
abbrev pub embedded_acts : List Fact → List Fact
embedded_acts [] = []
embedded_acts (f ∷ fs) = event_fact ∷ f ∷ fs

-- the rule itself, from this place to its child
abbrev pub embedded_rule : List ℕ → List Var → List Fact → List Fact → List Fact → Rule
embedded_rule path v left acts right =
    rule (codes "Rule_") path (state path v ∷ left) (embedded_acts acts)
    (state (first_of path) (with_new v (facts_vars (left ++ (acts ++ right)))) ∷ right)

-- the rules of an embedded rule
abbrev pub embedded_rules : List ℕ → List Var → List Fact → List Fact → List Fact → List Rule
embedded_rules path v left acts right = embedded_rule path v left acts right ∷ []

-- the rules of an action at the place with this path, where these variables are in scope
abbrev pub action_rules : List ℕ → List Var → Action → List Rule
action_rules path v (action.new x) = new_rules path v x
action_rules path v (action.out t) = out_rules path v t
action_rules path v (action.send t u) = send_rules path v t u
action_rules path v (action.input t) = input_rules path v t
action_rules path v (action.receive t u) = receive_rules path v t u
action_rules path v (action.event f) = event_rules path v f
action_rules path v (action.insert t u) = insert_rules path v t u
action_rules path v (action.delete t) = delete_rules path v t
action_rules path v (action.lock t l) = lock_rules path v t l
action_rules path v (action.unlock t l) = unlock_rules path v t l
action_rules path v (action.embedded left acts right) = embedded_rules path v left acts right

-- a place with nothing left ends
abbrev pub nil_rule : List ℕ → List Var → Rule
nil_rule path v = rule (codes "Nil_") path (state path v ∷ []) [] []

-- the rules of a place with nothing left
abbrev pub nil_rules : List ℕ → List Var → List Rule
nil_rules path v = nil_rule path v ∷ []

-- both children start
abbrev pub parallel_rule : List ℕ → List Var → Rule
parallel_rule path v =
    rule (codes "Par_") path (state path v ∷ []) []
    (state (first_of path) v ∷ state (second_of path) v ∷ [])

-- the rules of a parallel
abbrev pub parallel_rules : List ℕ → List Var → List Rule
parallel_rules path v = parallel_rule path v ∷ []

-- the replication starts, and stays
abbrev pub rep_start_rule : List ℕ → List Var → Rule
rep_start_rule path v =
    rule (codes "RepStart_") path (state path v ∷ []) [] (copies_fact path (map variable v) ∷ [])

-- from then on a copy starts whenever one likes
abbrev pub rep_copy_rule : List ℕ → List Var → Rule
rep_copy_rule path v =
    rule (codes "RepCopy_") path (copies_fact path (map variable v) ∷ []) []
    (state (first_of path) v ∷ [])

-- the rules of a replication
abbrev pub replicated_rules : List ℕ → List Var → List Rule
replicated_rules path v = rep_start_rule path v ∷ rep_copy_rule path v ∷ []

-- the two terms are shown as equal
abbrev pub then_rule : List ℕ → List Var → Tree → Tree → Rule
then_rule path v t u =
    rule (codes "Then_") path (state path v ∷ []) (eq_fact t u ∷ []) (state (first_of path) v ∷ [])

-- or as different
abbrev pub else_rule : List ℕ → List Var → Tree → Tree → Rule
else_rule path v t u =
    rule (codes "Else_") path (state path v ∷ []) (not_eq_fact t u ∷ [])
    (state (second_of path) v ∷ [])

-- the rules of a test
abbrev pub test_rules : List ℕ → List Var → Tree → Tree → List Rule
test_rules path v t u = then_rule path v t u ∷ else_rule path v t u ∷ []

-- a value is shown at the key
abbrev pub found_rule : List ℕ → List Var → Tree → Var → Rule
found_rule path v t x =
    rule (codes "Found_") path (state path v ∷ []) (is_in_fact t (variable (message_var x)) ∷ [])
    (state (first_of path) (v ++ message_var x ∷ []) ∷ [])

-- or none
abbrev pub missing_rule : List ℕ → List Var → Tree → Rule
missing_rule path v t =
    rule (codes "Missing_") path (state path v ∷ []) (is_not_set_fact t ∷ [])
    (state (second_of path) v ∷ [])

-- the rules of a look-up
abbrev pub lookup_rules : List ℕ → List Var → Tree → Var → List Rule
lookup_rules path v t x = found_rule path v t x ∷ missing_rule path v t ∷ []

-- the rules of the place with this path, where these variables are in scope
abbrev pub own_rules : List ℕ → List Var → Proc → List Rule
own_rules path v nil = nil_rules path v
own_rules path v (parallel p q) = parallel_rules path v
own_rules path v (replicated p) = replicated_rules path v
own_rules path v (act a p) = action_rules path v a
own_rules path v (test t u p q) = test_rules path v t u
own_rules path v (lookup t x p q) = lookup_rules path v t x

-- the rules of the places from this path on, in preorder
abbrev pub place_rules : List ℕ → List Var → Proc → List Rule
place_rules path v nil = own_rules path v nil
place_rules path v (parallel p q) = own_rules path v (parallel p q)
    ++ (place_rules (first_of path) v p ++ place_rules (second_of path) v q)
place_rules path v (replicated p) = own_rules path v (replicated p)
    ++ place_rules (first_of path) v p
place_rules path v (act a p) = own_rules path v (act a p)
    ++ place_rules (first_of path) (scope_behind v a) p
place_rules path v (test t u p q) = own_rules path v (test t u p q)
    ++ (place_rules (first_of path) v p ++ place_rules (second_of path) v q)
place_rules path v (lookup t x p q) =
    own_rules path v (lookup t x p q)
    ++ (place_rules (first_of path) (v ++ message_var x ∷ []) p ++ place_rules (second_of path) v q)

-- the rule that starts the process
abbrev pub init_rule : Rule
init_rule = record { name = codes "Init"; left = []; acts = init_fact ∷ []; right = state [] [] ∷ [] }

-- the rules of a process
abbrev pub rules_of : Proc → List Rule
rules_of p = init_rule ∷ place_rules [] [] p
