-- A small file, to try by hand which places have which numbers and how many digits:
-- theory T begin let P(x) = out(x); if x = 'a' then 0 else out(x) let Q = P('a') process: Q | ! P('b') end
use Rattle.std.specs.Prelude.{codes, List, [], ◌∷◌}
use Rattle.sap_terms.specs.Tree.{Tree, public, variable}
use Rattle.sap_terms.specs.declared.var.Sort.TheVariants.{Msg}
use Rattle.sap_process.specs.Action.{out}
use Rattle.sap_macro.specs.UpToNames.{named}
use Rattle.sap_macro.specs.Written.{Written, nil, call, parallel, replicated, act, test, Definition}

abbrev pub x : Tree
x = variable (named (codes "x") Msg)

-- 'a' and 'b'
abbrev pub a : Tree
a = public (codes "a")

abbrev pub b : Tree
b = public (codes "b")

abbrev pub p_is : Definition
p_is = record {
  name = codes "P";
  params = codes "x" ∷ [];
  body = act (out x) (test x a nil (act (out x) nil));
}

abbrev pub q_is : Definition
q_is = record { name = codes "Q"; params = []; body = call (codes "P") (a ∷ []) }

abbrev pub both : List Definition
both = p_is ∷ q_is ∷ []

abbrev pub small : Written
small = parallel (call (codes "Q") []) (replicated (call (codes "P") (b ∷ [])))
