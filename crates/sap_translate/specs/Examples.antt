-- Small processes, to follow their runs by hand.
use Rattle.std.specs.Prelude.{codes, [], ◌∷◌, Some, None}
use Rattle.sap_restrict.specs.ReservedFacts.{event_fact, init_fact, input_fact}
use Rattle.sap_terms.specs.AdversaryFacts.{k_fact, linear}
use Rattle.sap_terms.specs.Equations.{app2, pair_name}
use Rattle.sap_terms.specs.Trace.{Trace}
use Rattle.sap_terms.specs.Tree.{Tree, fresh, variable, public}
use Rattle.sap_terms.specs.declared.fact.Fact.{Fact}
use Rattle.sap_terms.specs.declared.var.Sort.TheVariants.{Fresh, Msg}
use Rattle.sap_terms.specs.declared.var.Var.{Var}
use Rattle.sap_place.specs.StateFacts.{state_fact, waits_fact}
use Rattle.sap_rule.specs.RuleSteps.{RuleState}
use Rattle.sap_templates.specs.ChannelFacts.{ack_fact, msg_fact}
use Rattle.sap_process.specs.Action.{new, event, input, insert, delete, send, receive, lock, unlock}
use Rattle.sap_process.specs.Proc.{Proc, nil, parallel, replicated, act, test, lookup}

-- 'a', 'b', 'k', 'm', 's' and 'v'
abbrev pub term_a : Tree
term_a = public (codes "a")

abbrev pub term_b : Tree
term_b = public (codes "b")

abbrev pub term_k : Tree
term_k = public (codes "k")

abbrev pub term_m : Tree
term_m = public (codes "m")

abbrev pub term_s : Tree
term_s = public (codes "s")

abbrev pub term_v : Tree
term_v = public (codes "v")

-- x and y, for any message
abbrev pub x : Var
x = record { name = codes "x"; sort = Msg }

abbrev pub y : Var
y = record { name = codes "y"; sort = Msg }

-- ~c
abbrev pub c : Var
c = record { name = codes "c"; sort = Fresh }

-- A(), G(), E1(), E2(), No(), Yes(t), A(t) and B(t)
abbrev pub plain_fact : Fact
plain_fact = linear (codes "A") []

abbrev pub g_fact : Fact
g_fact = linear (codes "G") []

abbrev pub first_fact : Fact
first_fact = linear (codes "E1") []

abbrev pub second_fact : Fact
second_fact = linear (codes "E2") []

abbrev pub no_fact : Fact
no_fact = linear (codes "No") []

abbrev pub yes_fact : Tree → Fact
yes_fact t = linear (codes "Yes") (t ∷ [])

abbrev pub a_fact : Tree → Fact
a_fact t = linear (codes "A") (t ∷ [])

abbrev pub b_fact : Tree → Fact
b_fact t = linear (codes "B") (t ∷ [])

-- <x,x>, and in(<x,x>)
abbrev pub twin_pattern : Tree
twin_pattern = app2 pair_name (variable x) (variable x)

abbrev pub twins : Proc
twins = act (input twin_pattern) nil

-- in(<x,x>); event A(x)
abbrev pub twins_told : Proc
twins_told = act (input twin_pattern) (act (event (a_fact (variable x))) nil)

-- ! ! event A()
abbrev pub copied_twice : Proc
copied_twice = replicated (replicated (act (event plain_fact) nil))

-- insert 'k','v'; delete 'k'; lookup 'k' as x in event Yes(x) else event No()
abbrev pub deleted_again : Proc
deleted_again =
    act (insert term_k term_v) (act (delete term_k) (lookup term_k x (act (event (yes_fact (variable x))) nil) (act (event no_fact) nil)))

-- in(x); lock 's'; if x = 'a' then unlock 's' else 0
abbrev pub locked_test : Proc
locked_test = act (input (variable x)) (act (lock term_s 1) (test (variable x) term_a (act (unlock term_s 1) nil) nil))

-- in(x); lock 's'; if x = 'a' then unlock 's'; lock 's'; event G() else lock 's'; event No()
abbrev pub locked_twice : Proc
locked_twice =
    act (input (variable x)) (act (lock term_s 1) (test (variable x) term_a (act (unlock term_s 1) (act (lock term_s 2) (act (event g_fact) nil))) (act (lock term_s 3) (act (event no_fact) nil))))

-- new ~c; ( out(~c,'m') | in(~c,'m'); event G() | event E1(); out(~c,'m'); event E2() )
abbrev pub two_senders : Proc
two_senders =
    act (new c) (parallel (act (send (variable c) term_m) nil) (parallel (act (receive (variable c) term_m) (act (event g_fact) nil)) (act (event first_fact) (act (send (variable c) term_m) (act (event second_fact) nil)))))

-- in(x); event A(x) | in(y); event B(y)
abbrev pub two_inputs : Proc
two_inputs = parallel (act (input (variable x)) (act (event (a_fact (variable x))) nil)) (act (input (variable y)) (act (event (b_fact (variable y))) nil))

-- a full trace: a start, a split, the adversary knows 'a', shows so twice, and then both inputs take 'a', one after the other
abbrev pub two_inputs_served_once : Trace
two_inputs_served_once =
    (init_fact ∷ []) ∷ [] ∷ [] ∷ (k_fact term_a ∷ []) ∷ (k_fact term_a ∷ []) ∷ (input_fact term_a ∷ []) ∷ (input_fact term_a ∷ []) ∷ []

-- A state of the rules: the first sender, its message taken and acknowledged under the tag ~2, and the second sender, its
-- message under way under the tag ~3, wait at their places; the receiver has shown its event. Numbers whose facts were taken
-- have none.
abbrev pub both_wait : RuleState
both_wait = record {
  facts = None ∷ None ∷ None ∷ None ∷ None ∷ None ∷ None ∷ None ∷ None ∷ Some (waits_fact (1 ∷ 1 ∷ []) (fresh 1 ∷ fresh 2 ∷ [])) ∷ Some (ack_fact (fresh 2)) ∷ None
      ∷ Some (state_fact (1 ∷ 2 ∷ 1 ∷ 1 ∷ 1 ∷ []) (fresh 1 ∷ [])) ∷ None ∷ None ∷ Some (msg_fact (fresh 3) (fresh 1) term_m)
      ∷ Some (waits_fact (1 ∷ 2 ∷ 2 ∷ 1 ∷ []) (fresh 1 ∷ fresh 3 ∷ [])) ∷ [];
  known = [];
  made = 1 ∷ 2 ∷ 3 ∷ [];
}

-- the same, once the first sender went on
abbrev pub first_goes_on : RuleState
first_goes_on = record {
  facts = None ∷ None ∷ None ∷ None ∷ None ∷ None ∷ None ∷ None ∷ None ∷ None ∷ None ∷ None
      ∷ Some (state_fact (1 ∷ 2 ∷ 1 ∷ 1 ∷ 1 ∷ []) (fresh 1 ∷ [])) ∷ None ∷ None ∷ Some (msg_fact (fresh 3) (fresh 1) term_m)
      ∷ Some (waits_fact (1 ∷ 2 ∷ 2 ∷ 1 ∷ []) (fresh 1 ∷ fresh 3 ∷ [])) ∷ Some (state_fact (1 ∷ 1 ∷ 1 ∷ []) (fresh 1 ∷ [])) ∷ [];
  known = [];
  made = 1 ∷ 2 ∷ 3 ∷ [];
}

-- what is shown on the way to where both wait
abbrev pub both_wait_trace : Trace
both_wait_trace =
    (init_fact ∷ []) ∷ [] ∷ [] ∷ [] ∷ [] ∷ [] ∷ [] ∷ [] ∷ (event_fact ∷ g_fact ∷ []) ∷ (event_fact ∷ first_fact ∷ []) ∷ [] ∷ [] ∷ []
