-- What stands for names in the body of a definition.
use Rattle.std.specs.Prelude.{◌≡◌, ℕ, List, [], is_some}
use Rattle.sap_terms.specs.Choice.{Choice}
use Rattle.sap_terms.specs.NameMap.{value_at}
use Rattle.sap_terms.specs.Tree.{Tree}
use Rattle.sap_terms.specs.Variables.{is_known}
use Rattle.sap_terms.specs.declared.term.Term.{Term}
use Rattle.sap_terms.specs.declared.var.Var.{Var}
use Rattle.sap_macro.specs.Expansion.{binders, by_names, put, with_uses}
use Rattle.sap_macro.specs.NewNames.{once, renamed}
use Rattle.sap_macro.specs.Written.{Definition}
use Rattle.sap_macro.specs.code.Standings.{choice_of, name_of, tree_or}
use Rattle.sap_macro.specs.code.Steps.{plain_of}
use Rattle.sap_macro.specs.declared.standing.Standing.{Standing}

-- the names that the body binds, each once, its names without parameters replaced
abbrev pub own_names_in : List Definition → Definition → List (List ℕ)
own_names_in ds d = once [] (binders d.params (with_uses (plain_of ds) d.body))

-- of each parameter its argument is kept, and of nothing else
pub record ArePut (params : List (List ℕ)) (args : List Tree) (terms : List (List ℕ × Term))
    : Type 0 where
  pub known : (x : List ℕ) → is_some (value_at terms x) ≡ is_known params x
  pub put : (other : Choice) (v : Var)
      → tree_or (value_at terms v.name) (other v) ≡ put params args other v

-- these arguments stand for the parameters, and new names for what the body binds
pub record IsEntered (ds : List Definition) (d : Definition) (args : List Tree)
    (taken : List (List ℕ)) (s : Standing) : Type 0 where
  pub choice : choice_of s ≡ put d.params args (by_names (renamed taken (own_names_in ds d)))
  pub names : name_of s ≡ renamed taken (own_names_in ds d)
