-- Small processes with their short rules, written out by hand, and rules that aren't theirs.
use Rattle.std.specs.Prelude.{ℕ, codes, true, List, [], ◌∷◌}
use Rattle.sap_terms.specs.AdversaryFacts.{linear, in_fact, out_fact}
use Rattle.sap_terms.specs.Tree.{Tree, variable}
use Rattle.sap_terms.specs.declared.fact.Fact.{Fact}
use Rattle.sap_terms.specs.declared.var.Sort.TheVariants.{Fresh, Pub}
use Rattle.sap_terms.specs.declared.var.Var.{Var}
use Rattle.sap_process.specs.Action.{new, out, send, input, receive, event, lock, embedded}
use Rattle.sap_process.specs.Proc.{Proc, nil, parallel, replicated, act, test, lookup}
use Rattle.sap_process.specs.Scopes.{lock_var}
use Rattle.sap_restrict.specs.ReservedFacts.{init_fact, event_fact, input_fact, eq_fact, not_eq_fact, is_in_fact, is_not_set_fact, lock_fact}
use Rattle.sap_rule.specs.declared.rule.Rule.{Rule}
use Rattle.sap_templates.specs.ChannelFacts.{ack_fact, fresh_fact, msg_fact}
use Rattle.sap_translate.specs.Examples.{c, g_fact, plain_fact, term_a, term_b, term_k, term_m, term_s, x, y}
use Rattle.sap_terms.specs.Equations.{app2, pair_name}

-- a rule of this name with these sides
abbrev pub rule : List ℕ → List Fact → List Fact → List Fact → Rule
rule name left acts right = record { name = name; left = left; acts = acts; right = right }

-- a linear fact of this name, and one that stays
abbrev pub at : List ℕ → List Tree → Fact
at name args = linear name args

abbrev pub at_will : List ℕ → List Tree → Fact
at_will name args = record { name = name; persistent = true; args = args }

-- Init: [ ] --[ Init() ]-> the facts
abbrev pub init_adds : List Fact → Rule
init_adds right = rule (codes "Init") [] (init_fact ∷ []) right

-- 0
abbrev pub ended : Proc
ended = nil

abbrev pub ended_short : List Rule
ended_short = init_adds [] ∷ []

-- not so: the silent rule kept
abbrev pub ended_kept : List Rule
ended_kept =
    init_adds [] ∷ rule (codes "Nil_") (at (codes "State_") [] ∷ []) [] [] ∷ []

-- out('m')
abbrev pub told : Proc
told = act (out term_m) nil

abbrev pub told_short : List Rule
told_short = init_adds (out_fact term_m ∷ []) ∷ []

-- not so: settled by one step alone, and with the rule that ends it kept
abbrev pub told_one_step : List Rule
told_one_step =
    init_adds (out_fact term_m ∷ at (codes "State_1") [] ∷ [])
    ∷ rule (codes "Nil_1") (at (codes "State_1") [] ∷ []) [] [] ∷ []

-- not so: the silent rules kept beside the settled one
abbrev pub told_kept : List Rule
told_kept =
    init_adds (out_fact term_m ∷ [])
    ∷ rule (codes "Out_") (at (codes "State_") [] ∷ []) []
    (out_fact term_m ∷ at (codes "State_1") [] ∷ [])
    ∷ rule (codes "Nil_1") (at (codes "State_1") [] ∷ []) [] [] ∷ []

-- not so: the silent rules left out, with nothing in place of what they take
abbrev pub told_left_out : List Rule
told_left_out = init_adds (at (codes "State_") [] ∷ []) ∷ []

-- out('m'); in(x)
abbrev pub told_first : Proc
told_first = act (out term_m) (act (input (variable x)) nil)

abbrev pub told_first_short : List Rule
told_first_short =
    init_adds (out_fact term_m ∷ at (codes "State_1") [] ∷ [])
    ∷ rule (codes "In_1") (at (codes "State_1") [] ∷ in_fact (variable x) ∷ [])
    (input_fact (variable x) ∷ []) [] ∷ []

-- not so: `Out` is dropped
abbrev pub told_first_dropped : List Rule
told_first_dropped =
    init_adds (at (codes "State_1") [] ∷ [])
    ∷ rule (codes "In_1") (at (codes "State_1") [] ∷ in_fact (variable x) ∷ [])
    (input_fact (variable x) ∷ []) [] ∷ []

-- ! out('m')
abbrev pub copied : Proc
copied = replicated (act (out term_m) nil)

abbrev pub copied_short : List Rule
copied_short =
    init_adds (at_will (codes "Semi_") [] ∷ [])
    ∷ rule (codes "RepCopy_") (at_will (codes "Semi_") [] ∷ []) [] (out_fact term_m ∷ []) ∷ []

-- not so: the first copy's facts in place of `!Semi_()`, and the linear `Semi_()`
abbrev pub copied_once : List Rule
copied_once =
    init_adds (out_fact term_m ∷ [])
    ∷ rule (codes "RepCopy_") (at_will (codes "Semi_") [] ∷ []) [] (out_fact term_m ∷ []) ∷ []

abbrev pub copied_linear : List Rule
copied_linear =
    init_adds (at (codes "Semi_") [] ∷ [])
    ∷ rule (codes "RepCopy_") (at_will (codes "Semi_") [] ∷ []) [] (out_fact term_m ∷ []) ∷ []

-- ! ! event A(): both copy rules stay
abbrev pub copied_twice_short : List Rule
copied_twice_short =
    init_adds (at_will (codes "Semi_") [] ∷ [])
    ∷ rule (codes "RepCopy_") (at_will (codes "Semi_") [] ∷ []) []
    (at_will (codes "Semi_1") [] ∷ [])
    ∷ rule (codes "RepCopy_1") (at_will (codes "Semi_1") [] ∷ []) []
    (at (codes "State_11") [] ∷ [])
    ∷ rule (codes "Event_11") (at (codes "State_11") [] ∷ [])
    (event_fact ∷ plain_fact ∷ []) [] ∷ []

-- 0 | ((0 | out('a')) | out('b')): what is put out stands in the order of the places
abbrev pub in_order : Proc
in_order = parallel nil (parallel (parallel nil (act (out term_a) nil)) (act (out term_b) nil))

abbrev pub in_order_short : List Rule
in_order_short = init_adds (out_fact term_a ∷ out_fact term_b ∷ []) ∷ []

-- not so: the other way round, and only that of the first child
abbrev pub out_of_order : List Rule
out_of_order = init_adds (out_fact term_b ∷ out_fact term_a ∷ []) ∷ []

abbrev pub first_alone : List Rule
first_alone = init_adds (out_fact term_a ∷ []) ∷ []

-- event A(); event G(): events stay
abbrev pub two_events : Proc
two_events = act (event plain_fact) (act (event g_fact) nil)

abbrev pub two_events_short : List Rule
two_events_short =
    init_adds (at (codes "State_") [] ∷ [])
    ∷ rule (codes "Event_") (at (codes "State_") [] ∷ []) (event_fact ∷ plain_fact ∷ [])
    (at (codes "State_1") [] ∷ [])
    ∷ rule (codes "Event_1") (at (codes "State_1") [] ∷ []) (event_fact ∷ g_fact ∷ []) [] ∷ []

-- not so: both in one rule
abbrev pub events_at_once : List Rule
events_at_once =
    init_adds (at (codes "State_") [] ∷ [])
    ∷ rule (codes "Event_") (at (codes "State_") [] ∷ [])
    (event_fact ∷ plain_fact ∷ event_fact ∷ g_fact ∷ []) [] ∷ []

-- [ ] --> [ ]; out('m'): the embedded rule stays, though it shows nothing and takes nothing else
abbrev pub idle_rule : Proc
idle_rule = act (embedded [] [] []) (act (out term_m) nil)

abbrev pub idle_rule_short : List Rule
idle_rule_short =
    init_adds (at (codes "State_") [] ∷ [])
    ∷ rule (codes "Rule_") (at (codes "State_") [] ∷ []) [] (out_fact term_m ∷ []) ∷ []

-- not so: it is carried out at once
abbrev pub idle_rule_gone : List Rule
idle_rule_gone = init_adds (out_fact term_m ∷ []) ∷ []

-- $z, P($z) and Q($z)
abbrev pub z : Var
z = record { name = codes "z"; sort = Pub }

abbrev pub p_fact : Fact
p_fact = linear (codes "P") (variable z ∷ [])

abbrev pub q_fact : Fact
q_fact = linear (codes "Q") (variable z ∷ [])

-- [ ] --[ P($z) ]-> [ Q($z) ]; (out($z) | 0): settled where the state fact stands, before the rule's own facts
abbrev pub adding_rule : Proc
adding_rule = act (embedded [] (p_fact ∷ []) (q_fact ∷ []))
    (parallel (act (out (variable z)) nil) nil)

abbrev pub adding_rule_short : List Rule
adding_rule_short =
    init_adds (at (codes "State_") [] ∷ [])
    ∷ rule (codes "Rule_") (at (codes "State_") [] ∷ []) (event_fact ∷ p_fact ∷ [])
    (out_fact (variable z) ∷ q_fact ∷ []) ∷ []

-- not so: what stands for the state fact is put last
abbrev pub adding_rule_last : List Rule
adding_rule_last =
    init_adds (at (codes "State_") [] ∷ [])
    ∷ rule (codes "Rule_") (at (codes "State_") [] ∷ []) (event_fact ∷ p_fact ∷ [])
    (q_fact ∷ out_fact (variable z) ∷ []) ∷ []

-- ~a
abbrev pub a : Var
a = record { name = codes "a"; sort = Fresh }

-- new ~a; out(~a) | new ~a; out(~a): each draws its own name
abbrev pub two_names : Proc
two_names = parallel (act (new a) (act (out (variable a)) nil))
    (act (new a) (act (out (variable a)) nil))

abbrev pub two_names_short : List Rule
two_names_short =
    init_adds (at (codes "State_1") [] ∷ at (codes "State_2") [] ∷ [])
    ∷ rule (codes "New_1") (at (codes "State_1") [] ∷ fresh_fact (variable a) ∷ []) []
    (out_fact (variable a) ∷ [])
    ∷ rule (codes "New_2") (at (codes "State_2") [] ∷ fresh_fact (variable a) ∷ []) []
    (out_fact (variable a) ∷ []) ∷ []

-- new ~c; (out(~c,'m'); out('a') | in(~c,y); (0 | ! out(y))): a right side may stand in two rules
abbrev pub channel : Proc
channel =
    act (new c) (parallel (act (send (variable c) term_m) (act (out term_a) nil))
    (act (receive (variable c) (variable y))
    (parallel nil (replicated (act (out (variable y)) nil)))))

-- ~sapic_tag
abbrev pub tag : Tree
tag = variable (record { name = codes "sapic_tag"; sort = Fresh })

abbrev pub channel_short : List Rule
channel_short =
    init_adds (at (codes "State_") [] ∷ [])
    ∷ rule (codes "New_") (at (codes "State_") [] ∷ fresh_fact (variable c) ∷ []) []
    (at (codes "State_11") (variable c ∷ []) ∷ at (codes "State_12") (variable c ∷ []) ∷ [])
    ∷ rule (codes "OutAdv_11")
    (at (codes "State_11") (variable c ∷ []) ∷ in_fact (variable c) ∷ [])
    (input_fact (variable c) ∷ [])
    (out_fact term_m ∷ out_fact term_a ∷ [])
    ∷ rule (codes "OutMsg_11") (at (codes "State_11") (variable c ∷ []) ∷ fresh_fact tag ∷ []) []
    (msg_fact tag (variable c) term_m ∷ at (codes "Semi_11") (variable c ∷ tag ∷ []) ∷ [])
    ∷ rule (codes "OutAck_11")
    (at (codes "Semi_11") (variable c ∷ tag ∷ []) ∷ ack_fact tag ∷ []) [] (out_fact term_a ∷ [])
    ∷ rule (codes "InAdv_12")
    (at (codes "State_12") (variable c ∷ []) ∷ in_fact
    (app2 pair_name (variable c) (variable y)) ∷ [])
    (input_fact (app2 pair_name (variable c) (variable y)) ∷ [])
    (at_will (codes "Semi_1212") (variable c ∷ variable y ∷ []) ∷ [])
    ∷ rule (codes "InMsg_12")
    (at (codes "State_12") (variable c ∷ []) ∷ msg_fact tag (variable c) (variable y) ∷ []) []
    (ack_fact tag ∷ at_will (codes "Semi_1212") (variable c ∷ variable y ∷ []) ∷ [])
    ∷ rule (codes "RepCopy_1212")
    (at_will (codes "Semi_1212") (variable c ∷ variable y ∷ []) ∷ []) []
    (out_fact (variable y) ∷ []) ∷ []

-- in(x); if x = 'a' then out(x) else (out('b') | event G())
abbrev pub tested : Proc
tested =
    act (input (variable x)) (test (variable x) term_a (act (out (variable x)) nil)
    (parallel (act (out term_b) nil) (act (event g_fact) nil)))

abbrev pub tested_short : List Rule
tested_short =
    init_adds (at (codes "State_") [] ∷ [])
    ∷ rule (codes "In_") (at (codes "State_") [] ∷ in_fact (variable x) ∷ [])
    (input_fact (variable x) ∷ []) (at (codes "State_1") (variable x ∷ []) ∷ [])
    ∷ rule (codes "Then_1") (at (codes "State_1") (variable x ∷ []) ∷ [])
    (eq_fact (variable x) term_a ∷ []) (out_fact (variable x) ∷ [])
    ∷ rule (codes "Else_1") (at (codes "State_1") (variable x ∷ []) ∷ [])
    (not_eq_fact (variable x) term_a ∷ [])
    (out_fact term_b ∷ at (codes "State_122") (variable x ∷ []) ∷ [])
    ∷ rule (codes "Event_122") (at (codes "State_122") (variable x ∷ []) ∷ [])
    (event_fact ∷ g_fact ∷ []) [] ∷ []

-- lookup 'k' as x in out(x) else 0
abbrev pub looked_up : Proc
looked_up = lookup term_k x (act (out (variable x)) nil) nil

abbrev pub looked_up_short : List Rule
looked_up_short =
    init_adds (at (codes "State_") [] ∷ [])
    ∷ rule (codes "Found_") (at (codes "State_") [] ∷ []) (is_in_fact term_k (variable x) ∷ [])
    (out_fact (variable x) ∷ [])
    ∷ rule (codes "Missing_") (at (codes "State_") [] ∷ []) (is_not_set_fact term_k ∷ []) [] ∷ []

-- ~sapic_lock1
abbrev pub held : Tree
held = variable (lock_var 1)

-- lock 's'; (out('a') | 0): the lock's name is in no fact behind it
abbrev pub locked : Proc
locked = act (lock term_s 1) (parallel (act (out term_a) nil) nil)

abbrev pub locked_short : List Rule
locked_short =
    init_adds (at (codes "State_") [] ∷ [])
    ∷ rule (codes "Lock_") (at (codes "State_") [] ∷ fresh_fact held ∷ [])
    (lock_fact held term_s ∷ []) (out_fact term_a ∷ []) ∷ []
