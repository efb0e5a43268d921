-- The variables of terms and facts.
use Rattle.std.specs.Prelude.{ℕ, Bool, false, ◌||◌, List, [], ◌∷◌, ◌++◌, if◌then◌else◌}
use Rattle.std.specs.List.{flat_map}
use Rattle.std.specs.Str.{bytes_eq}
use Rattle.sap_terms.specs.declared.fact.Fact.{Fact}
use Rattle.sap_terms.specs.declared.var.Var.{Var}
use Rattle.sap_terms.specs.Tree.{Tree, variable, public, fresh, apply, Trees, none, more, trees_of}

abbrev mutual
  -- each occurrence of a variable, from the left
  pub tree_vars : Tree → List Var
  tree_vars (variable v) = v ∷ []
  tree_vars (public n) = []
  tree_vars (fresh k) = []
  tree_vars (apply f ts) = trees_vars ts

  -- those of these trees, one tree after another
  pub trees_vars : Trees → List Var
  trees_vars none = []
  trees_vars (more t ts) = tree_vars t ++ trees_vars ts

-- each occurrence of a variable in the facts, from the left
abbrev pub facts_vars : List Fact → List Var
facts_vars fs = flat_map (λ (f : Fact). trees_vars (trees_of f.args)) fs

-- the name is one of these
abbrev pub is_known : List (List ℕ) → List ℕ → Bool
is_known [] n = false
is_known (m ∷ ms) n = bytes_eq m n || is_known ms n

-- the first occurrences of variables whose names are not known
abbrev pub new_vars : List (List ℕ) → List Var → List Var
new_vars known [] = []
new_vars known (v ∷ vs) = if is_known known v.name then new_vars known vs
    else v ∷ new_vars (known ++ v.name ∷ []) vs
