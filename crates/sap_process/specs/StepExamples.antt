-- Small processes and configurations, to try the steps of processes by hand.
use Rattle.std.specs.Prelude.{Bool, true, false, codes, List, [], ◌∷◌, Option, Some, None, if◌then◌else◌}
use Rattle.sap_terms.specs.AdversaryFacts.{linear}
use Rattle.sap_terms.specs.Piles.{Pile}
use Rattle.sap_terms.specs.Same.{same_tree}
use Rattle.sap_terms.specs.Equations.{app1, app2, fst_name, pair_name}
use Rattle.sap_terms.specs.Tree.{Tree, variable, public}
use Rattle.sap_terms.specs.declared.fact.Fact.{Fact}
use Rattle.sap_terms.specs.declared.var.Sort.{Sort}
use Rattle.sap_terms.specs.declared.var.Sort.TheVariants.{Msg, Fresh, Pub}
use Rattle.sap_terms.specs.declared.var.Var.{Var}
use Rattle.sap_process.specs.Action.{new, send, receive, event, input, embedded}
use Rattle.sap_process.specs.Configuration.{Config}
use Rattle.sap_process.specs.Proc.{Proc, nil, act}

-- 'a', 'b' and 'c'
abbrev pub a : Tree
a = public (codes "a")

abbrev pub b : Tree
b = public (codes "b")

abbrev pub c : Tree
c = public (codes "c")

-- x, and the term x
abbrev pub x : Var
x = record { name = codes "x"; sort = Msg }

abbrev pub var_x : Tree
var_x = variable x

abbrev pub pair : Tree → Tree → Tree
pair t u = app2 pair_name t u

-- fst(<'a','b'>), whose normal form is 'a'
abbrev pub first_of_pair : Tree
first_of_pair = app1 fst_name (pair a b)

-- A(t), L(t) and M(t)
abbrev pub shown_fact : Tree → Fact
shown_fact t = linear (codes "A") (t ∷ [])

abbrev pub left_fact : Tree → Fact
left_fact t = linear (codes "L") (t ∷ [])

abbrev pub right_fact : Tree → Fact
right_fact t = linear (codes "M") (t ∷ [])

-- event A(t)
abbrev pub showing : Tree → Proc
showing t = act (event (shown_fact t)) nil

-- these threads, and nothing else
abbrev pub running : List (Option Proc) → Config
running ps = record { made = []; own = []; store = λ y. None; facts = []; threads = ps; frame = []; held = λ y. false }

-- one thread, and nothing else
abbrev pub alone : Proc → Config
alone p = running (Some p ∷ [])

-- the store that has the second at the first, and nothing elsewhere
abbrev pub only : Tree → Tree → Tree → Option Tree
only k v y = if same_tree k y then Some v else None

-- of all terms this one is held
abbrev pub just : Tree → Tree → Bool
just k y = if same_tree k y then true else false

-- in(x); event A(x)
abbrev pub input_shown : Proc
input_shown = act (input var_x) (showing var_x)

-- x with this sort, and the term
abbrev pub x_of : Sort → Var
x_of s = record { name = codes "x"; sort = s }

abbrev pub var_of : Sort → Tree
var_of s = variable (x_of s)

-- ~x and $x
abbrev pub fresh_x : Var
fresh_x = x_of Fresh

abbrev pub public_x : Var
public_x = x_of Pub

-- an embedded rule that adds M($x), and then event A($x)
abbrev pub adding_public : Proc
adding_public = act (embedded [] [] (right_fact (variable public_x) ∷ [])) (showing (variable public_x))

-- an embedded rule that takes L('a') twice, and then event A('a')
abbrev pub taking_twice : Proc
taking_twice = act (embedded (left_fact a ∷ left_fact a ∷ []) [] []) (showing a)

-- !L(t)
abbrev pub lasting_fact : Tree → Fact
lasting_fact t = record { name = codes "L"; persistent = true; args = t ∷ [] }

-- new x; event A(x)
abbrev pub new_shown : Proc
new_shown = act (new x) (showing var_x)

-- out(m, n); event A('b')
abbrev pub sending : Tree → Tree → Proc
sending m n = act (send m n) (showing b)

-- in(m, x); event A(x), where x has this sort
abbrev pub receiving : Tree → Sort → Proc
receiving m s = act (receive m (var_of s)) (showing (var_of s))

-- an embedded rule that takes L('a'), shows A(fst(<'a','b'>)) and adds M(fst(<'a','b'>)), and then event A('b')
abbrev pub ruling : Proc
ruling = act (embedded (left_fact a ∷ []) (shown_fact first_of_pair ∷ []) (right_fact first_of_pair ∷ [])) (showing b)

-- in(x); event A(x), where x has this sort and the message comes from the adversary
abbrev pub inputting : Sort → Proc
inputting s = act (input (var_of s)) (showing (var_of s))

-- an embedded rule that takes !L('a') twice, and then event A('a')
abbrev pub taking_lasting : Proc
taking_lasting = act (embedded (lasting_fact a ∷ lasting_fact a ∷ []) [] []) (showing a)

-- an embedded rule that adds L('a'), and then p
abbrev pub adding_left : Proc → Proc
adding_left p = act (embedded [] [] (left_fact a ∷ [])) p

-- one that takes L('a') and shows A(t), and then p
abbrev pub using_left : Tree → Proc → Proc
using_left t p = act (embedded (left_fact a ∷ []) (shown_fact t ∷ []) []) p

-- [] --> [L('a')]; [L('a')] --[A('a')]-> []; [L('a')] --[A('b')]-> []; 0
abbrev pub used_twice : Proc
used_twice = adding_left (using_left a (using_left b nil))

-- the same with !L('a')
abbrev pub adding_lasting : Proc → Proc
adding_lasting p = act (embedded [] [] (lasting_fact a ∷ [])) p

abbrev pub using_lasting : Tree → Proc → Proc
using_lasting t p = act (embedded (lasting_fact a ∷ []) (shown_fact t ∷ []) []) p

abbrev pub lasting_used_twice : Proc
lasting_used_twice = adding_lasting (using_lasting a (using_lasting b nil))

-- this thread alone, over these facts
abbrev pub over_facts : Pile → Proc → Config
over_facts facts p = record (alone p) { facts = facts }
