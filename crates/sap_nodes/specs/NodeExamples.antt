-- Small heads of which a flaw could speak at two nodes, to try by hand of which it does.
use Rattle.std.specs.Prelude.{ℕ, replicate, true, codes, List, [], ◌∷◌}
use Rattle.sap_terms.specs.AdversaryFacts.{linear}
use Rattle.sap_terms.specs.Equations.{app1, app2, fst_name, pair_name}
use Rattle.sap_terms.specs.Signature.{pairs_alone}
use Rattle.sap_terms.specs.Tree.{Tree, variable}
use Rattle.sap_terms.specs.declared.fact.Fact.{Fact}
use Rattle.sap_terms.specs.declared.var.Sort.{Sort}
use Rattle.sap_terms.specs.declared.var.Sort.TheVariants.{Msg, Fresh, Pub}
use Rattle.sap_terms.specs.declared.var.Var.{Var}
use Rattle.sap_process.specs.Action.{Action, input, lock, out, receive, event, embedded}
use Rattle.sap_process.specs.Places.{place}
use Rattle.sap_process.specs.Proc.{Proc, nil, act, lookup}
use Rattle.sap_process.specs.Sites.{Site, above_of}
use Rattle.sap_process.specs.declared.flaw.Flaw.{Flaw}
use Rattle.sap_nodes.specs.FlawNodes.{IsNodeOf}

abbrev pub var_of : List ℕ → Sort → Var
var_of n s = record { name = n; sort = s }

-- x, $x, c, y and sapic_z
abbrev pub x : Tree
x = variable (var_of (codes "x") Msg)

abbrev pub public_x : Tree
public_x = variable (var_of (codes "x") Pub)

abbrev pub c : Tree
c = variable (var_of (codes "c") Msg)

abbrev pub y : Tree
y = variable (var_of (codes "y") Msg)

abbrev pub reserved_z : Tree
reserved_z = variable (var_of (codes "sapic_z") Msg)

-- c and a fresh name x are bound
abbrev pub c_and_x : List Var
c_and_x = var_of (codes "c") Msg ∷ var_of (codes "x") Fresh ∷ []

-- the process at the root, where these are in scope
abbrev pub at_root : List Var → Proc → Site
at_root scope p = place [] (above_of scope 0) p

-- of the action where these are in scope, the flaw speaks of node k
abbrev pub SpeaksOf : List Var → Action → Flaw → ℕ → Type 0
SpeaksOf scope a w k = IsNodeOf pairs_alone [] (at_root scope (act a nil)) w k

-- in(fst(c), <w, fst(y)>): of its nodes fst, c, pair, w, fst, y the first fst is on the channel, the second in the pattern
abbrev pub destructors : Action
destructors = receive (app1 fst_name c) (app2 pair_name (variable (var_of (codes "w") Msg)) (app1 fst_name y))

-- out(<h(x), k(x)>), where neither symbol is held
abbrev pub unknown_symbols : Action
unknown_symbols = out (app2 pair_name (app1 (codes "h") x) (app1 (codes "k") x))

-- out(<x, y>) and [ ] --[ A($x) ]-> [ F(x, y) ]
abbrev pub two_variables : Action
two_variables = out (app2 pair_name x y)

abbrev pub with_public : Action
with_public = embedded [] (linear (codes "A") (public_x ∷ []) ∷ []) (linear (codes "F") (x ∷ y ∷ []) ∷ [])

-- out(<~x, $x>)
abbrev pub two_signs : Action
two_signs = out (app2 pair_name (variable (var_of (codes "x") Fresh)) public_x)

-- event A(<sapic_z, sapic_z>)
abbrev pub twice_reserved : Action
twice_reserved = event (linear (codes "A") (app2 pair_name reserved_z reserved_z ∷ []))

-- [ L(x) ] --[ K(x) ]-> [ Fr(x) ]
abbrev pub reserved_facts : Action
reserved_facts = embedded (linear (codes "L") (x ∷ []) ∷ []) (linear (codes "K") (x ∷ []) ∷ []) (linear (codes "Fr") (x ∷ []) ∷ [])

-- [ F(x) ] --[ F(x, x) ]-> [ !F(x) ]
abbrev pub lasting : Fact
lasting = record { name = codes "F"; persistent = true; args = x ∷ [] }

abbrev pub clashing : Action
clashing = embedded (linear (codes "F") (x ∷ []) ∷ []) (linear (codes "F") (x ∷ x ∷ []) ∷ []) (lasting ∷ [])

-- lookup x as x
abbrev pub found_again : Proc
found_again = lookup x (var_of (codes "x") Msg) nil nil

-- so many names, all of them a
abbrev pub many : ℕ → List Var
many n = replicate n (var_of (codes "a") Msg)

-- u, v and q
abbrev pub u : Tree
u = variable (var_of (codes "u") Msg)

abbrev pub v : Tree
v = variable (var_of (codes "v") Msg)

abbrev pub q : Tree
q = variable (var_of (codes "q") Msg)

-- in(<u, <v, q>>)
abbrev pub three_names : Proc
three_names = act (input (app2 pair_name u (app2 pair_name v q))) nil

-- lock c; in(u)
abbrev pub locked : Proc
locked = act (lock c 0) (act (input u) nil)
