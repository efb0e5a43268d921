-- What stands for names, as a choice and as names.
use Rattle.std.specs.Prelude.{ℕ, List, Option, None, Some}
use Rattle.std.specs.Option.{unwrap_or}
use Rattle.sap_terms.specs.Choice.{Choice}
use Rattle.sap_terms.specs.NameMap.{value_at}
use Rattle.sap_terms.specs.Tree.{Tree, variable}
use Rattle.sap_terms.specs.View.{tree}
use Rattle.sap_terms.specs.declared.term.Term.{Term}
use Rattle.sap_macro.specs.UpToNames.{named}
use Rattle.sap_macro.specs.declared.standing.Standing.{Standing}

-- the term, else this tree
abbrev pub tree_or : Option Term → Tree → Tree
tree_or None u = u
tree_or (Some t) u = tree t

-- the name that stands for a name
abbrev pub name_of : Standing → List ℕ → List ℕ
name_of s x = unwrap_or (value_at s.names x) x

-- what stands for a variable
abbrev pub choice_of : Standing → Choice
choice_of s v = tree_or (value_at s.terms v.name) (variable (named (name_of s v.name) v.sort))
