-- Small heads and files, to try by hand which of their nodes are told.
use Rattle.std.specs.Prelude.{ℕ, codes, List, [], ◌∷◌}
use Rattle.sap_terms.specs.AdversaryFacts.{linear}
use Rattle.sap_terms.specs.Equations.{app2, pair_name}
use Rattle.sap_terms.specs.Tree.{Tree, public, variable}
use Rattle.sap_terms.specs.declared.var.Sort.{Sort}
use Rattle.sap_terms.specs.declared.var.Sort.TheVariants.{Msg, Fresh, Pub}
use Rattle.sap_terms.specs.declared.var.Var.{Var}
use Rattle.sap_grammar.specs.Words.{Word, mark, name}
use Rattle.sap_process.specs.Action.{Action, input, receive, embedded}
use Rattle.sap_process.specs.Places.{place}
use Rattle.sap_process.specs.Proc.{nil, act, lookup}
use Rattle.sap_process.specs.Sites.{Site, above_of}
use Rattle.sap_macro.specs.Located.{Located, nil_at, call_at, act_at}
use Rattle.sap_origin.specs.Definitions.{LocatedDefinition}
use Rattle.sap_read.specs.LocatedItems.{LocatedMain}
use Rattle.sap_captures.specs.Patterns.{IsBindingNode, IsComparedNode}

abbrev pub var_of : List ℕ → Sort → Var
var_of n s = record { name = n; sort = s }

-- x, n and v, as they are bound and as they stand in terms
abbrev pub x_var : Var
x_var = var_of (codes "x") Msg

abbrev pub n_var : Var
n_var = var_of (codes "n") Fresh

abbrev pub x : Tree
x = variable x_var

abbrev pub y : Tree
y = variable (var_of (codes "y") Msg)

abbrev pub fresh_n : Tree
fresh_n = variable n_var

abbrev pub public_v : Tree
public_v = variable (var_of (codes "v") Pub)

abbrev pub c : Tree
c = public (codes "c")

-- the place of this head at the root, where these are in scope
abbrev pub head_in : List Var → Action → Site
head_in scope a = place [] (above_of scope 0) (act a nil)

-- in(x); in('c', x); in(<x, ~n>); in(<x, x>); in(x, y)
abbrev pub one : Action
one = input x

abbrev pub on_channel : Action
on_channel = receive c x

abbrev pub with_n : Action
with_n = input (app2 pair_name x fresh_n)

abbrev pub twice : Action
twice = input (app2 pair_name x x)

abbrev pub by_x : Action
by_x = receive x y

-- [ F(x) ] --[ S(y) ]-> [ G($v) ], and [ ] --[ S($v) ]-> [ ]
abbrev pub taking : Action
taking = embedded (linear (codes "F") (x ∷ []) ∷ []) (linear (codes "S") (y ∷ []) ∷ []) (linear (codes "G") (public_v ∷ []) ∷ [])

abbrev pub showing : Action
showing = embedded [] (linear (codes "S") (public_v ∷ []) ∷ []) []

-- lookup x as y
abbrev pub found : Site
found = place [] (above_of (x_var ∷ []) 0) (lookup x (var_of (codes "y") Msg) nil nil)

-- the node binds, or is compared
abbrev pub Binds : List Var → Action → ℕ → Type 0
Binds scope a k = IsBindingNode (head_in scope a) k

abbrev pub Compares : List Var → Action → ℕ → Type 0
Compares scope a k = IsComparedNode (head_in scope a) k

-- theory T begin let A(x) = in(x) process: A(w) end
abbrev pub inner : Located
inner = act_at 4 (input x) (nil_at 4)

abbrev pub w : Tree
w = variable (var_of (codes "w") Msg)

abbrev pub used : Located
used = call_at 4 (codes "A") (w ∷ [])

abbrev pub defined : List LocatedDefinition
defined = record { name = codes "A"; params = codes "x" ∷ []; body = inner; behind = 7 } ∷ []

abbrev pub main : LocatedMain
main = record { process = used; behind = 1 }

-- its words from `let` on
abbrev pub small_words : List Word
small_words =
    name (codes "theory") ∷ name (codes "T") ∷ name (codes "begin") ∷ name (codes "let") ∷ name (codes "A") ∷ mark (codes "(") ∷ name (codes "x") ∷ mark (codes ")") ∷ mark (codes "=") ∷ name (codes "in") ∷ mark (codes "(") ∷ name (codes "x") ∷ mark (codes ")")
    ∷ name (codes "process") ∷ mark (codes ":") ∷ name (codes "A") ∷ mark (codes "(") ∷ name (codes "w") ∷ mark (codes ")") ∷ name (codes "end") ∷ []
