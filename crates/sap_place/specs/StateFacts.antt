-- The facts that say where control is.
use Rattle.std.specs.Prelude.{ℕ, ◌+◌, true, List, [], ◌∷◌, ◌++◌, map, codes}
use Rattle.sap_terms.specs.AdversaryFacts.{linear}
use Rattle.sap_terms.specs.FactNames.{state_prefix, semi_prefix}
use Rattle.sap_terms.specs.Tree.{Tree, variable}
use Rattle.sap_terms.specs.declared.fact.Fact.{Fact}
use Rattle.sap_terms.specs.declared.var.Sort.TheVariants.{Fresh}
use Rattle.sap_terms.specs.declared.var.Var.{Var}
use Rattle.sap_place.specs.declared.place.Form.{Form}
use Rattle.sap_place.specs.declared.place.Form.TheVariants.{Rep}
use Rattle.sap_place.specs.declared.place.Place.{Place}

-- a path in decimal digits
abbrev pub digits : List ℕ → List ℕ
digits path = map (λ d. 48 + d) path

-- control is at the place with this path; the arguments are what the variables in scope stand for
abbrev pub state_fact : List ℕ → List Tree → Fact
state_fact path args = linear (state_prefix ++ digits path) args

-- a replication has started at the place with this path, and stays
abbrev pub copies_fact : List ℕ → List Tree → Fact
copies_fact path args = record { name = semi_prefix ++ digits path; persistent = true; args = args }

-- a sender waits at the place with this path, with its tag last
abbrev pub waits_fact : List ℕ → List Tree → Fact
waits_fact path args = linear (semi_prefix ++ digits path) args

-- the variable of a tag
abbrev pub tag : Var
tag = record { name = codes "sapic_tag"; sort = Fresh }

-- the state fact of a place
abbrev pub state_of : Place → Fact
state_of s = state_fact s.path (map variable s.scope)

-- that of a place that is halfway through or that stays, by its form
abbrev pub semi_of : Form → Place → Fact
semi_of Rep s = copies_fact s.path (map variable s.scope)
semi_of _ s = waits_fact s.path (map variable s.scope ++ variable tag ∷ [])
