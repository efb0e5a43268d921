-- Small processes, to try by hand which are equal up to names.
use Rattle.std.specs.Prelude.{ℕ, codes, List, [], ◌∷◌}
use Rattle.sap_terms.specs.AdversaryFacts.{linear}
use Rattle.sap_terms.specs.Equations.{app2, pair_name}
use Rattle.sap_terms.specs.Tree.{Tree, variable, public}
use Rattle.sap_terms.specs.declared.var.Sort.TheVariants.{Msg, Fresh, Pub}
use Rattle.sap_process.specs.Action.{new, out, input, lock, unlock, embedded}
use Rattle.sap_process.specs.Proc.{Proc, nil, parallel, act, lookup}
use Rattle.sap_macro.specs.UpToNames.{AreSameUpToNames, named}

-- the terms x, y, z, ~x, ~y, $x and $y, and 'a'
abbrev pub x : Tree
x = variable (named (codes "x") Msg)

abbrev pub y : Tree
y = variable (named (codes "y") Msg)

abbrev pub z : Tree
z = variable (named (codes "z") Msg)

abbrev pub fresh_x : Tree
fresh_x = variable (named (codes "x") Fresh)

abbrev pub fresh_y : Tree
fresh_y = variable (named (codes "y") Fresh)

abbrev pub public_x : Tree
public_x = variable (named (codes "x") Pub)

abbrev pub public_y : Tree
public_y = variable (named (codes "y") Pub)

abbrev pub a : Tree
a = public (codes "a")

-- <t,u>
abbrev pub both : Tree → Tree → Tree
both t u = app2 pair_name t u

-- new ~x, new ~y, in(t), out(t), and then p
abbrev pub new_x : Proc → Proc
new_x p = act (new (named (codes "x") Fresh)) p

abbrev pub new_y : Proc → Proc
new_y p = act (new (named (codes "y") Fresh)) p

-- new x, whose sign is another
abbrev pub new_plain : Proc → Proc
new_plain p = act (new (named (codes "x") Msg)) p

abbrev pub takes : Tree → Proc → Proc
takes t p = act (input t) p

abbrev pub gives : Tree → Proc
gives t = act (out t) nil

-- lookup 'a' as x, as y, or as ~x
abbrev pub finds_x : Proc → Proc → Proc
finds_x p q = lookup a (named (codes "x") Msg) p q

abbrev pub finds_y : Proc → Proc → Proc
finds_y p q = lookup a (named (codes "y") Msg) p q

abbrev pub finds_fresh : Proc → Proc → Proc
finds_fresh p q = lookup a (named (codes "x") Fresh) p q

-- [ L(t) ] --[ A(u) ]-> [ M(v) ], and then p
abbrev pub ruled : Tree → Tree → Tree → Proc → Proc
ruled t u v p =
    act
    (embedded (linear (codes "L") (t ∷ []) ∷ []) (linear (codes "A") (u ∷ []) ∷ [])
    (linear (codes "M") (v ∷ []) ∷ []))
    p

-- lock 'a'; unlock 'a', with this label
abbrev pub locked : ℕ → Proc
locked n = act (lock a n) (act (unlock a n) nil)

-- in both branches of a parallel one name, and two; a name bound again; two names that change places; a name that a pattern
-- compares with its own; a name compared in a pattern against one bound above; a name bound in one branch alone; what an
-- embedded rule binds on its left and on its right side; and the label of a lock
abbrev pub equal_pairs : List (Proc × Proc)
equal_pairs = (
  parallel (new_x (gives fresh_x)) (new_x (gives fresh_x)),
  parallel (new_x (gives fresh_x)) (new_y (gives fresh_y)),
)
    ∷ (new_x (new_x (gives fresh_x)), new_x (new_y (gives fresh_y)))
    ∷ (takes (both x y) (gives (both y x)), takes (both y x) (gives (both x y)))
    ∷ (takes (both x x) (gives x), takes (both y y) (gives y))
    ∷ (takes x (takes (both x y) (gives y)), takes z (takes (both z x) (gives x)))
    ∷ (takes x (finds_y nil (gives x)), takes y (finds_y nil (gives y)))
    ∷ (ruled x x public_y (gives (both x public_y)), ruled y y public_x (gives (both y public_x)))
    ∷ (locked 1, locked 2) ∷ []

-- an occurrence with another binder; a name bound again, and not, on either side; two names that change places in one of both; a
-- name compared in a pattern, and bound there; a sign, at a use, at `new`, at a look-up, and of a name that a pattern compares; a
-- name of an outer binder, and of an inner one; a name that an embedded rule takes, and one that it makes up; a name that nothing
-- binds, with another and with itself; and two sides that change places
abbrev pub other_pairs : List (Proc × Proc)
other_pairs =
    (takes x (takes y (gives x)), takes x (takes y (gives y)))
    ∷ (new_x (new_y (gives fresh_x)), new_x (new_x (gives fresh_x)))
    ∷ (new_x (new_x (gives fresh_x)), new_x (new_y (gives fresh_x)))
    ∷ (takes (both x y) (gives (both x y)), takes (both x y) (gives (both y x)))
    ∷ (takes x (takes (both x y) nil), takes x (takes (both y z) nil))
    ∷ (new_x (gives fresh_x), new_x (gives x))
    ∷ (new_x (gives fresh_x), new_plain (gives fresh_x))
    ∷ (finds_x (gives x) nil, finds_fresh (gives x) nil)
    ∷ (new_x (takes fresh_x nil), new_x (takes x nil))
    ∷ (takes x (finds_y (gives x) nil), takes y (finds_y (gives y) nil))
    ∷ (ruled x x public_y nil, ruled x x public_x nil)
    ∷ (gives x, gives y) ∷ (gives x, gives x)
    ∷ (parallel (gives a) nil, parallel nil (gives a)) ∷ []

-- in each of these pairs both are equal up to names
abbrev pub AreAllSame : List (Proc × Proc) → Type 0
AreAllSame [] = Unit {0}
AreAllSame (e ∷ es) = AreSameUpToNames e.0 e.1 × AreAllSame es

-- in none
abbrev pub AreNoneSame : List (Proc × Proc) → Type 0
AreNoneSame [] = Unit {0}
AreNoneSame (e ∷ es) = ¬ AreSameUpToNames e.0 e.1 × AreNoneSame es
