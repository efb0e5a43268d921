-- Terms and facts whose variables are in scope, and facts with names of their own.
use Rattle.std.specs.Prelude.{◌≡◌, false, List, [], ◌∷◌}
use Rattle.sap_terms.specs.Reserved.{is_reserved}
use Rattle.sap_terms.specs.Tree.{Tree, variable, public, fresh, apply, Trees, none, more}
use Rattle.sap_terms.specs.Variables.{is_known}
use Rattle.sap_terms.specs.declared.fact.Fact.{Fact}
use Rattle.sap_terms.specs.declared.var.Var.{Var}
use Rattle.sap_process.specs.Sites.{var_names}
use Rattle.sap_translate.specs.Members.{Member}

-- no variable of these has the name
abbrev pub IsFree : Var → List Var → Type 0
IsFree x v = is_known (var_names v) x.name ≡ false

abbrev mutual
  -- each variable of the tree is one of these, with its sort
  pub Within : List Var → Tree → Type 0
  Within v (variable x) = Member x v
  Within v (public a) = Unit {0}
  Within v (fresh n) = Unit {0}
  Within v (apply f ts) = EachWithin v ts

  -- so is each variable of the trees
  pub EachWithin : List Var → Trees → Type 0
  EachWithin v none = Unit {0}
  EachWithin v (more t ts) = Within v t × EachWithin v ts

-- the same of a list of trees
abbrev pub AllWithin : List Var → List Tree → Type 0
AllWithin v [] = Unit {0}
AllWithin v (t ∷ ts) = Within v t × AllWithin v ts

-- and of the arguments of facts
abbrev pub FactsWithin : List Var → List Fact → Type 0
FactsWithin v [] = Unit {0}
FactsWithin v (f ∷ fs) = AllWithin v f.args × FactsWithin v fs

-- no fact has a reserved name
abbrev pub AreUnreserved : List Fact → Type 0
AreUnreserved fs = (f : Fact) → Member f fs → is_reserved f.name ≡ false
