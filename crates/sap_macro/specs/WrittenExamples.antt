-- Small processes that run as they are written, to try their heads and steps by hand.
use Rattle.std.specs.Prelude.{codes, List, [], ◌∷◌}
use Rattle.sap_terms.specs.AdversaryFacts.{linear}
use Rattle.sap_terms.specs.Tree.{Tree, variable, public}
use Rattle.sap_terms.specs.declared.fact.Fact.{Fact}
use Rattle.sap_terms.specs.declared.var.Sort.TheVariants.{Pub}
use Rattle.sap_process.specs.Action.{event, insert, lock, unlock, embedded}
use Rattle.sap_macro.specs.ExpansionExamples.{a, b, of_name, fresh_of, news, taking, with_x}
use Rattle.sap_macro.specs.NameExamples.{both}
use Rattle.sap_macro.specs.SortedExamples.{got}
use Rattle.sap_macro.specs.UpToNames.{named}
use Rattle.sap_macro.specs.Written.{Written, nil, call, parallel, replicated, act, test, Definition}

-- E(t)
abbrev pub told : Tree → Fact
told t = linear (codes "E") (t ∷ [])

-- event E(t)
abbrev pub telling : Tree → Written
telling t = act (event (told t)) nil

-- let A(x) = event E(x)
abbrev pub telling_x : Definition
telling_x = with_x (telling (of_name (codes "x")))

-- let B(y) = A(<y,y>)
abbrev pub passing : Definition
passing = record {
  name = codes "B";
  params = codes "y" ∷ [];
  body = call (codes "A") (both (of_name (codes "y")) (of_name (codes "y")) ∷ []);
}

-- let A(x) = !event E(x)
abbrev pub telling_again : Definition
telling_again = with_x (replicated (telling (of_name (codes "x"))))

-- A('a'), B('a') and C('a')
abbrev pub use_a : Written
use_a = call (codes "A") (a ∷ [])

abbrev pub use_b : Written
use_b = call (codes "B") (a ∷ [])

abbrev pub use_c : Written
use_c = call (codes "C") (a ∷ [])

-- both definitions
abbrev pub told_by_two : List Definition
told_by_two = telling_x ∷ passing ∷ []

-- ---- small files

-- E(t,u), N(t,u), Got(t,u), Same(t), Apart(t,u) and Put(t,u)
abbrev pub told_both : Tree → Tree → Fact
told_both t u = linear (codes "E") (t ∷ u ∷ [])

abbrev pub new_at : Tree → Tree → Fact
new_at t u = linear (codes "N") (t ∷ u ∷ [])

abbrev pub got_at : Tree → Tree → Fact
got_at t u = linear (codes "Got") (t ∷ u ∷ [])

abbrev pub same_one : Tree → Fact
same_one t = linear (codes "Same") (t ∷ [])

abbrev pub two_apart : Tree → Tree → Fact
two_apart t u = linear (codes "Apart") (t ∷ u ∷ [])

abbrev pub put_at : Tree → Tree → Fact
put_at t u = linear (codes "Put") (t ∷ u ∷ [])

-- event F, and nothing behind
abbrev pub showing : Fact → Written
showing f = act (event f) nil

-- A(t), and Put(t,u)
abbrev pub using_a : Tree → Written
using_a t = call (codes "A") (t ∷ [])

abbrev pub using_put : Tree → Tree → Written
using_put t u = call (codes "Put") (t ∷ u ∷ [])

-- let A(x) = new ~n; event E(x,~n)
abbrev pub naming_x : Definition
naming_x =
    with_x (news (codes "n") (showing (told_both (of_name (codes "x")) (fresh_of (codes "n")))))

-- new ~n; A(~n)
abbrev pub use_named : Written
use_named = news (codes "n") (using_a (fresh_of (codes "n")))

-- let B(z) = new ~n; event N(z,~n)
abbrev pub naming_z : Definition
naming_z = record {
  name = codes "B";
  params = codes "z" ∷ [];
  body = news (codes "n") (showing (new_at (of_name (codes "z")) (fresh_of (codes "n"))));
}

-- let A(x) = ! B(x)
abbrev pub naming_often : Definition
naming_often = with_x (replicated (call (codes "B") (of_name (codes "x") ∷ [])))

-- let A(k) = in(<~x,x>); event Got(x,k)
abbrev pub taking_twice : Definition
taking_twice = record {
  name = codes "A";
  params = codes "k" ∷ [];
  body = got (both (fresh_of (codes "x")) (of_name (codes "x"))) (of_name (codes "x"));
}

-- let A(x) = in(<y,x>); event E(x,y)
abbrev pub taking_other : Definition
taking_other =
    with_x
    (taking (both (of_name (codes "y")) (of_name (codes "x")))
    (showing (told_both (of_name (codes "x")) (of_name (codes "y")))))

-- in(y); A(y)
abbrev pub use_taken : Written
use_taken = taking (of_name (codes "y")) (using_a (of_name (codes "y")))

-- let A(x,y) = if x = y then event Same(x) else event Apart(x,y)
abbrev pub testing : Definition
testing = record {
  name = codes "A";
  params = codes "x" ∷ codes "y" ∷ [];
  body =
      test (of_name (codes "x")) (of_name (codes "y")) (showing (same_one (of_name (codes "x"))))
      (showing (two_apart (of_name (codes "x")) (of_name (codes "y"))));
}

-- A('a','b')
abbrev pub use_testing : Written
use_testing = call (codes "A") (a ∷ b ∷ [])

-- let C = event E(y)
abbrev pub telling_y : Definition
telling_y = record { name = codes "C"; params = []; body = telling (of_name (codes "y")) }

-- in(y); C
abbrev pub use_plain : Written
use_plain = taking (of_name (codes "y")) (call (codes "C") [])

-- unlock t, and what stands before it: event Put(t,u), insert t, u, and lock t
abbrev pub unlocking : Tree → Written
unlocking t = act (unlock t 0) nil

abbrev pub telling_put : Tree → Tree → Written
telling_put t u = act (event (put_at t u)) (unlocking t)

abbrev pub inserting : Tree → Tree → Written
inserting t u = act (insert t u) (telling_put t u)

abbrev pub locking : Tree → Tree → Written
locking t u = act (lock t 0) (inserting t u)

-- let Put(key,value) = lock key; insert key, value; event Put(key,value); unlock key
abbrev pub putting : Definition
putting = record {
  name = codes "Put";
  params = codes "key" ∷ codes "value" ∷ [];
  body = locking (of_name (codes "key")) (of_name (codes "value"));
}

-- in(<~x,x>); A(x)
abbrev pub use_twin : Written
use_twin =
    taking (both (fresh_of (codes "x")) (of_name (codes "x"))) (using_a (of_name (codes "x")))

-- 'x'
abbrev pub x_name : Tree
x_name = public (codes "x")

-- Put('a',t) | Put('b','x')
abbrev pub two_puts : Tree → Written
two_puts t = parallel (using_put a t) (using_put b x_name)

-- new ~n; ( Put('a',~n) | Put('b','x') )
abbrev pub use_store : Written
use_store = news (codes "n") (two_puts (fresh_of (codes "n")))

-- w, and $w
abbrev pub w : Tree
w = of_name (codes "w")

abbrev pub public_w : Tree
public_w = variable (named (codes "w") Pub)

-- let B(x) = 0
abbrev pub doing_nothing : Definition
doing_nothing = record { name = codes "B"; params = codes "x" ∷ []; body = nil }

-- [ l ] --[ e ]-> [ r ], and then p
abbrev pub ruling : List Fact → List Fact → List Fact → Written → Written
ruling l e r p = act (embedded l e r) p

-- S(t) alone
abbrev pub one_s : Tree → List Fact
one_s t = linear (codes "S") (t ∷ []) ∷ []

-- let A(x) = [ ] --[ S(x) ]-> [ ]
abbrev pub ruling_x : Definition
ruling_x = with_x (ruling [] (one_s (of_name (codes "x"))) [] nil)
