-- Small formulas and traces, to try the definition of truth by hand.
use Rattle.std.specs.Prelude.{ℕ, Bool, false, codes, List, [], ◌∷◌, ◌≡◌, ◌⊎◌}
use Rattle.sap_terms.specs.Tree.{Tree, variable, public}
use Rattle.sap_terms.specs.Equations.{app1, app2, fst_name, pair_name}
use Rattle.sap_terms.specs.declared.var.Var.{Var}
use Rattle.sap_terms.specs.declared.var.Sort.TheVariants.{Msg, Fresh, Pub}
use Rattle.sap_terms.specs.declared.fact.Fact.{Fact}
use Rattle.sap_formula.specs.Form.{Form, truth, falsity, action, equal, same_time, earlier, negation, both, either, implies, equivalent, every, exists}
use Rattle.sap_terms.specs.Trace.{Trace}
use Rattle.sap_formula.specs.declared.binder.Binder.TheVariants.{Message, Time}

-- 'a'
abbrev pub a : Tree
a = public (codes "a")

-- 'b'
abbrev pub b : Tree
b = public (codes "b")

-- x
abbrev pub x : Var
x = record { name = codes "x"; sort = Msg }

-- ~x
abbrev pub fresh_x : Var
fresh_x = record { name = codes "x"; sort = Fresh }

-- $x
abbrev pub public_x : Var
public_x = record { name = codes "x"; sort = Pub }

-- #i
abbrev pub i : List ℕ
i = codes "i"

-- #j
abbrev pub j : List ℕ
j = codes "j"

-- A on these terms, linear or persistent
abbrev pub fact : Bool → List Tree → Fact
fact persistent args = record { name = codes "A"; persistent = persistent; args = args }

-- B('a')
abbrev pub other_fact : Fact
other_fact = record { name = codes "B"; persistent = false; args = a ∷ [] }

-- A('a')
abbrev pub trace_a : Trace
trace_a = (fact false (a ∷ []) ∷ []) ∷ []

-- A('a'), A('a')
abbrev pub trace_aa : Trace
trace_aa = (fact false (a ∷ []) ∷ []) ∷ (fact false (a ∷ []) ∷ []) ∷ []

-- A('a'), A('b')
abbrev pub trace_ab : Trace
trace_ab = (fact false (a ∷ []) ∷ []) ∷ (fact false (b ∷ []) ∷ []) ∷ []

-- one of these two
abbrev pub IsEither : Trace → Type 0
IsEither tr = (tr ≡ trace_a) ⊎ (tr ≡ trace_ab)

-- All x #i. A(x)@i ==> x = 'a'
abbrev pub only_a : Form
only_a = every (Message x ∷ Time i ∷ []) (implies (action (fact false (variable x ∷ [])) i) (equal (variable x) a))

-- Ex #i. A(t)@i
abbrev pub some_time : Tree → Form
some_time t = exists (Time i ∷ []) (action (fact false (t ∷ [])) i)

-- Ex #i #j. #i < #j
abbrev pub two_times : Form
two_times = exists (Time i ∷ Time j ∷ []) (earlier i j)

-- Ex v. v = 'b'
abbrev pub some_b : Var → Form
some_b v = exists (Message v ∷ []) (equal (variable v) b)

-- Ex x #i. A(x)@i & (Ex x #j. A(x)@j & #i < #j)
abbrev pub two_binders : Form
two_binders =
    exists (Message x ∷ Time i ∷ []) (both (action (fact false (variable x ∷ [])) i) (exists (Message x ∷ Time j ∷ []) (both (action (fact false (variable x ∷ [])) j) (earlier i j))))

-- fst(<'a','b'>)
abbrev pub first_of_pair : Tree
first_of_pair = app1 fst_name (app2 pair_name a b)

-- fst(<'a','b'>) = t
abbrev pub first_is : Tree → Form
first_is t = equal first_of_pair t

-- All #i #j. A('a')@i & A('a')@j ==> #i = #j
abbrev pub one_time_alone : Form
one_time_alone =
    every (Time i ∷ Time j ∷ []) (implies (both (action (fact false (a ∷ [])) i) (action (fact false (a ∷ [])) j)) (same_time i j))

-- formulas of T and F alone that are true, line by line of the tables
abbrev pub true_ones : List Form
true_ones =
    truth ∷ negation falsity ∷ both truth truth ∷ either truth truth ∷ either truth falsity ∷ either falsity truth ∷ implies truth truth ∷ implies falsity truth ∷ implies falsity falsity ∷ equivalent truth truth ∷ equivalent falsity falsity ∷ []

-- and those that are false
abbrev pub false_ones : List Form
false_ones =
    falsity ∷ negation truth ∷ both truth falsity ∷ both falsity truth ∷ both falsity falsity ∷ either falsity falsity ∷ implies truth falsity ∷ equivalent truth falsity ∷ equivalent falsity truth ∷ []
