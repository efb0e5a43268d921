-- Small processes as they are written, to try sorts, and what uses name in their arguments, by hand.
use Rattle.std.specs.Prelude.{codes, [], ◌∷◌}
use Rattle.sap_terms.specs.AdversaryFacts.{linear}
use Rattle.sap_terms.specs.Tree.{Tree}
use Rattle.sap_terms.specs.declared.var.Sort.{Sort}
use Rattle.sap_process.specs.Action.{new, event}
use Rattle.sap_macro.specs.ExpansionExamples.{a, of_name, taking, with_x}
use Rattle.sap_macro.specs.NameExamples.{both}
use Rattle.sap_macro.specs.UpToNames.{named}
use Rattle.sap_macro.specs.Written.{Written, nil, call, act, lookup, Definition}

-- k
abbrev pub k : Tree
k = of_name (codes "k")

-- in(p); event Got(t, k)
abbrev pub got : Tree → Tree → Written
got p t = taking p (act (event (linear (codes "Got") (t ∷ k ∷ []))) nil)

-- B(t)
abbrev pub using_b : Tree → Written
using_b t = call (codes "B") (t ∷ [])

-- new x, where x has this sign; p
abbrev pub makes_x : Sort → Written → Written
makes_x s p = act (new (named (codes "x") s)) p

-- lookup 'a' as x in p else q, where x has this sign
abbrev pub finds_x : Sort → Written → Written → Written
finds_x s p q = lookup a (named (codes "x") s) p q

-- let A(x) = in(<~x,k>); B(t)
abbrev pub with_param : Tree → Tree → Definition
with_param p t = with_x (taking (both p k) (using_b t))
