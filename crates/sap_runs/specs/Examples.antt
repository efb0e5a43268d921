-- Small steps and terms, to try marks and the limit by hand.
use Rattle.std.specs.Prelude.{ℕ, zero, suc, codes, [], ◌∷◌}
use Rattle.sap_terms.specs.AdversaryFacts.{linear}
use Rattle.sap_terms.specs.Equations.{app1}
use Rattle.sap_terms.specs.Tree.{Tree, variable, public}
use Rattle.sap_terms.specs.declared.fact.Fact.{Fact}
use Rattle.sap_terms.specs.declared.var.Sort.TheVariants.{Msg}

-- 'k' and 'v'
abbrev pub k : Tree
k = public (codes "k")

abbrev pub v : Tree
v = public (codes "v")

-- the variable x
abbrev pub x : Tree
x = variable (record { name = codes "x"; sort = Msg })

-- A('k') and B('k')
abbrev pub a_fact : Fact
a_fact = linear (codes "A") (k ∷ [])

abbrev pub b_fact : Fact
b_fact = linear (codes "B") (k ∷ [])

-- h( .. h('k') .. ), with h so many times
abbrev pub hashed : ℕ → Tree
hashed zero = k
hashed (suc n) = app1 (codes "h") (hashed n)
