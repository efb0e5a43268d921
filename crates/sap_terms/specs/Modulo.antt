-- Facts up to the equational theory, and their normal forms.
use Rattle.std.specs.Prelude.{◌≡◌, List, map}
use Rattle.std.specs.List.{AllZip}
use Rattle.sap_terms.specs.Choice.{Choice, instance}
use Rattle.sap_terms.specs.Equal.{IsTheoryEqual}
use Rattle.sap_terms.specs.Normal.{IsNormalForm}
use Rattle.sap_terms.specs.Equations.{Equations}
use Rattle.sap_terms.specs.declared.fact.Fact.{Fact}

-- the fact with each of its variables replaced by what it stands for
abbrev pub instance_fact : Choice → Fact → Fact
instance_fact σ f = record { name = f.name; persistent = f.persistent; args = map (instance σ) f.args }

-- the same in each of these
abbrev pub instance_facts : Choice → List Fact → List Fact
instance_facts σ fs = map (instance_fact σ) fs

-- the facts have one name and persistence, and their arguments are theory-equal, one by one
pub record IsEqualFact (e : Equations) (f h : Fact) : Type 0 where
  pub name : h.name ≡ f.name
  pub persistent : h.persistent ≡ f.persistent
  pub args : AllZip (IsTheoryEqual e) f.args h.args

-- h is f with normal forms of its arguments
pub record IsFormOfFact (e : Equations) (f h : Fact) : Type 0 where
  pub name : h.name ≡ f.name
  pub persistent : h.persistent ≡ f.persistent
  pub args : AllZip (IsNormalForm e) f.args h.args

-- the facts are theory-equal, one by one
abbrev pub AreEqualFacts : Equations → List Fact → List Fact → Type 0
AreEqualFacts e fs hs = AllZip (IsEqualFact e) fs hs

-- the second facts are the normal forms of the first, one by one
abbrev pub AreFormsOfFacts : Equations → List Fact → List Fact → Type 0
AreFormsOfFacts e fs hs = AllZip (IsFormOfFact e) fs hs
