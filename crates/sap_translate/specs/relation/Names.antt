-- Tests of names, variables and facts.
use Rattle.std.specs.Prelude.{map, ◌++◌, nat_eq, ℕ, Bool, true, false, ◌&&◌, List, [], ◌∷◌, codes, cond}
use Rattle.std.specs.List.{starts_with}
use Rattle.std.specs.Option.{option_map_or}
use Rattle.std.specs.Str.{bytes_eq}
use Rattle.sap_process.specs.Heads.{binder}
use Rattle.sap_process.specs.Proc.{Proc}
use Rattle.sap_process.specs.Sites.{var_names}
use Rattle.sap_terms.specs.FactNames.{state_prefix, semi_prefix}
use Rattle.sap_place.specs.StateFacts.{digits}
use Rattle.sap_terms.specs.Reserved.{is_reserved}
use Rattle.sap_terms.specs.Variables.{is_known}
use Rattle.sap_terms.specs.Same.{same_sort, same_trees}
use Rattle.sap_terms.specs.Signature.{same_bool}
use Rattle.sap_terms.specs.Tree.{Tree, variable, trees_of}
use Rattle.sap_terms.specs.declared.fact.Fact.{Fact}
use Rattle.sap_terms.specs.declared.var.Var.{Var}

-- the name of the state fact of the place with this path
abbrev pub state_name : List ℕ → List ℕ
state_name path = state_prefix ++ digits path

-- and that of its other fact
abbrev pub semi_name : List ℕ → List ℕ
semi_name path = semi_prefix ++ digits path

-- the terms that are these variables
abbrev pub vars : List Var → List Tree
vars v = map variable v

-- the test of equal variables: a variable is its name and its sort
abbrev pub same_var : Var → Var → Bool
same_var v w = bytes_eq v.name w.name && same_sort v.sort w.sort

-- the test of equal facts
abbrev pub same_fact : Fact → Fact → Bool
same_fact f g = bytes_eq f.name g.name && (same_bool f.persistent g.persistent && same_trees (trees_of f.args) (trees_of g.args))

-- the name is one of these
abbrev pub name_among : List ℕ → List (List ℕ) → Bool
name_among x [] = false
name_among x (y ∷ ys) = cond (bytes_eq x y) true (name_among x ys)

-- the variable is one of these
abbrev pub among : Var → List Var → Bool
among x [] = false
among x (y ∷ ys) = cond (same_var x y) true (among x ys)

-- the name begins as those that the rules use themselves
abbrev pub is_reserved_var : Var → Bool
is_reserved_var v = starts_with nat_eq v.name (codes "sapic_")

-- the fact's name is one that rules use themselves
abbrev pub is_reserved_fact : Fact → Bool
is_reserved_fact f = is_reserved f.name

-- something is in the list
abbrev pub has_items : {A : Type 0} → List A → Bool
has_items [] = false
has_items (x ∷ xs) = true

-- the binder names what is in scope already
abbrev pub rebinds : List Var → Proc → Bool
rebinds scope p = option_map_or (λ (v : Var). is_known (var_names scope) v.name) (binder p) false
