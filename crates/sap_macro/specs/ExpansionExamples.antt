-- Small files with definitions, to try expansions by hand.
use Rattle.std.specs.Prelude.{ℕ, codes, List, [], ◌∷◌}
use Rattle.sap_terms.specs.AdversaryFacts.{linear}
use Rattle.sap_terms.specs.Tree.{Tree, variable, public}
use Rattle.sap_terms.specs.declared.var.Sort.TheVariants.{Msg, Fresh, Pub}
use Rattle.sap_process.specs.Action.{new, out, send, input, receive, event, insert, delete, lock, unlock, embedded}
use Rattle.sap_process.specs.Proc as whole
use Rattle.sap_process.specs.Proc.{Proc}
use Rattle.sap_macro.specs.NameExamples.{both}
use Rattle.sap_macro.specs.UpToNames.{named}
use Rattle.sap_macro.specs.Written.{Written, nil, call, parallel, replicated, act, test, lookup, Definition}

-- a name as a variable, and as a fresh one
abbrev pub of_name : List ℕ → Tree
of_name n = variable (named n Msg)

abbrev pub fresh_of : List ℕ → Tree
fresh_of n = variable (named n Fresh)

-- new ~n; p, in(t); p, out(t), as they are written
abbrev pub news : List ℕ → Written → Written
news n p = act (new (named n Fresh)) p

abbrev pub taking : Tree → Written → Written
taking t p = act (input t) p

abbrev pub giving : Tree → Written
giving t = act (out t) nil

-- and as processes
abbrev pub makes : List ℕ → Proc → Proc
makes n p = whole.act (new (named n Fresh)) p

abbrev pub takes : Tree → Proc → Proc
takes t p = whole.act (input t) p

abbrev pub gives : Tree → Proc
gives t = whole.act (out t) whole.nil

-- let A(x) = ..
abbrev pub with_x : Written → Definition
with_x p = record { name = codes "A"; params = codes "x" ∷ []; body = p }

-- let A(x) = new ~n; out(<x,~n>)
abbrev pub making : Definition
making = with_x (news (codes "n") (giving (both (of_name (codes "x")) (fresh_of (codes "n")))))

-- let A(x) = (new ~n; out(~n) | new ~n; out(<~n,x>))
abbrev pub making_twice : Definition
making_twice =
    with_x
    (parallel (news (codes "n") (giving (fresh_of (codes "n"))))
    (news (codes "n") (giving (both (fresh_of (codes "n")) (of_name (codes "x"))))))

-- let A(x,y) = out(<x,y>)
abbrev pub pairing : Definition
pairing = record {
  name = codes "A";
  params = codes "x" ∷ codes "y" ∷ [];
  body = giving (both (of_name (codes "x")) (of_name (codes "y")));
}

-- let C = out(y)
abbrev pub giving_y : Definition
giving_y = record { name = codes "C"; params = []; body = giving (of_name (codes "y")) }

-- let A(y) = C
abbrev pub using_plain : Definition
using_plain = record { name = codes "A"; params = codes "y" ∷ []; body = call (codes "C") [] }

-- let B(z) = new ~n; out(z)
abbrev pub inner : Definition
inner = record {
  name = codes "B";
  params = codes "z" ∷ [];
  body = news (codes "n") (giving (of_name (codes "z")));
}

-- let A(x) = in(<x,n>); (B(n) | B(x))
abbrev pub outer : Definition
outer =
    with_x
    (taking (both (of_name (codes "x")) (of_name (codes "n")))
    (parallel (call (codes "B") (of_name (codes "n") ∷ []))
    (call (codes "B") (of_name (codes "x") ∷ []))))

-- let A(x) = in(x)
abbrev pub comparing : Definition
comparing = with_x (taking (of_name (codes "x")) nil)

-- let B(z) = new ~x; out(z)
abbrev pub making_x : Definition
making_x = record inner { body = news (codes "x") (giving (of_name (codes "z"))) }

-- 'a' and 'b'
abbrev pub a : Tree
a = public (codes "a")

abbrev pub b : Tree
b = public (codes "b")

-- let A(x) = ! if x = 'a' then lookup x as y in insert x, y; delete x else lock x; unlock x
--     else out(x, x); in(x, <x,z>); event E(z); [ L(v) ] --[ S($p) ]-> [ M(x) ]
abbrev pub all_forms : Definition
all_forms =
    with_x
    (replicated (test (of_name (codes "x")) a
    (lookup (of_name (codes "x")) (named (codes "y") Msg)
    (act (insert (of_name (codes "x")) (of_name (codes "y"))) (act (delete (of_name (codes "x"))) nil))
    (act (lock (of_name (codes "x")) 0) (act (unlock (of_name (codes "x")) 0) nil)))
    (act (send (of_name (codes "x")) (of_name (codes "x")))
    (act (receive (of_name (codes "x")) (both (of_name (codes "x")) (of_name (codes "z"))))
    (act (event (linear (codes "E") (of_name (codes "z") ∷ [])))
    (act (embedded (linear (codes "L") (of_name (codes "v") ∷ []) ∷ [])
    (linear (codes "S") (variable (named (codes "p") Pub) ∷ []) ∷ [])
    (linear (codes "M") (of_name (codes "x") ∷ []) ∷ []))
    nil))))))

-- its body with 'b' for x, and with its new names
abbrev pub all_forms_put : Proc
all_forms_put =
    whole.replicated (whole.test b a
    (whole.lookup b (named (codes "y_1") Msg)
    (whole.act (insert b (of_name (codes "y_1"))) (whole.act (delete b) whole.nil))
    (whole.act (lock b 0) (whole.act (unlock b 0) whole.nil)))
    (whole.act (send b b)
    (whole.act (receive b (both b (of_name (codes "z_1"))))
    (whole.act (event (linear (codes "E") (of_name (codes "z_1") ∷ [])))
    (whole.act (embedded (linear (codes "L") (of_name (codes "v_1") ∷ []) ∷ [])
    (linear (codes "S") (variable (named (codes "p_1") Pub) ∷ []) ∷ [])
    (linear (codes "M") (b ∷ []) ∷ []))
    whole.nil)))))

-- let A(x,y,y,x) = out('a')
abbrev pub twice_two : Definition
twice_two = record {
  name = codes "A";
  params = codes "x" ∷ codes "y" ∷ codes "y" ∷ codes "x" ∷ [];
  body = giving a;
}

-- let A(x) = C('a')
abbrev pub using_wrongly : Definition
using_wrongly = with_x (call (codes "C") (a ∷ []))

-- let B(z,z) = new ~n; out(z)
abbrev pub twice_z : Definition
twice_z = record inner { params = codes "z" ∷ codes "z" ∷ [] }

-- let B(z) = A
abbrev pub using_none : Definition
using_none = record inner { body = call (codes "A") [] }

-- the process below each form, in first branches, and in second ones
abbrev pub in_first : Written → Written
in_first p = parallel (test a a (lookup a (named (codes "y") Msg) p nil) nil) nil

abbrev pub in_second : Written → Written
in_second p =
    replicated (act (out a) (parallel nil (test a a nil (lookup a (named (codes "y") Msg) nil p))))
