-- The facts through which rules and the adversary deal with each other.
use Rattle.std.specs.Prelude.{ℕ, false, List, [], ◌∷◌}
use Rattle.sap_terms.specs.FactNames.{k_name, in_name, out_name, fr_name}
use Rattle.sap_terms.specs.Tree.{Tree, fresh}
use Rattle.sap_terms.specs.declared.fact.Fact.{Fact}

-- a fact that is used up by the first step that takes it
abbrev pub linear : List ℕ → List Tree → Fact
linear name args = record { name = name; persistent = false; args = args }

-- the adversary knows t
abbrev pub k_fact : Tree → Fact
k_fact t = linear k_name (t ∷ [])

-- the adversary gives t
abbrev pub in_fact : Tree → Fact
in_fact t = linear in_name (t ∷ [])

-- the adversary is given t
abbrev pub out_fact : Tree → Fact
out_fact t = linear out_name (t ∷ [])

-- the fresh name n was made, and is nobody's yet
abbrev pub fr_fact : ℕ → Fact
fr_fact n = linear fr_name (fresh n ∷ [])
