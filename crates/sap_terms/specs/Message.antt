-- Messages: the terms that runs send, store and show, and over which the variables of rules and formulas range.
use Rattle.std.specs.Prelude.{◌≡◌, length, List, All, Some, IsTrue}
use Rattle.sap_terms.specs.Tree.{Tree, variable, public, fresh, apply, Trees, none, more, list_of, trees_of}
use Rattle.sap_terms.specs.Choice.{Choice, fits_sort}
use Rattle.sap_terms.specs.Ground.{IsGround}
use Rattle.sap_terms.specs.Normal.{IsNormal}
use Rattle.sap_terms.specs.Signature.{Sig, arity_of}
use Rattle.sap_terms.specs.Equations.{equations}
use Rattle.sap_terms.specs.Trace.{Trace}
use Rattle.sap_terms.specs.declared.fact.Fact.{Fact}
use Rattle.sap_terms.specs.declared.var.Sort.{Sort}
use Rattle.sap_terms.specs.declared.var.Sort.TheVariants.{Msg}
use Rattle.sap_terms.specs.declared.var.Var.{Var}

abbrev mutual
  -- each symbol is held with its arity
  pub IsOver : Sig → Tree → Type 0
  IsOver g (variable v) = Unit {0}
  IsOver g (public n) = Unit {0}
  IsOver g (fresh k) = Unit {0}
  IsOver g (apply f ts) = (arity_of g f ≡ Some (length (list_of ts))) × AreOver g ts

  -- in each of these
  pub AreOver : Sig → Trees → Type 0
  AreOver g none = Unit {0}
  AreOver g (more t ts) = IsOver g t × AreOver g ts

-- so it is in each argument of the fact
abbrev pub IsFactOver : Sig → Fact → Type 0
IsFactOver g f = AreOver g (trees_of f.args)

-- a ground normal term over the signature that may stand for a variable of the sort
pub record IsMessage (g : Sig) (s : Sort) (t : Tree) : Type 0 where
  pub ground : IsGround t
  pub over : IsOver g t
  pub normal : IsNormal (equations g) t
  pub sorted : IsTrue (fits_sort s t)

-- each variable stands for such a term
abbrev pub IsMessageChoice : Sig → Choice → Type 0
IsMessageChoice g σ = (v : Var) → IsMessage g v.sort (σ v)

-- a fact whose arguments are messages
abbrev pub IsMessageFact : Sig → Fact → Type 0
IsMessageFact g f = All (IsMessage g Msg) f.args

-- a list of such facts
abbrev pub AreMessageFacts : Sig → List Fact → Type 0
AreMessageFacts g fs = All (IsMessageFact g) fs

-- a trace that shows such facts alone
abbrev pub IsMessageTrace : Sig → Trace → Type 0
IsMessageTrace g tr = All (AreMessageFacts g) tr
