-- Matching by one walk over a pattern and a tree, as the code makes it.
use Rattle.std.specs.Prelude.{ℕ, Bool, false, List, [], ◌∷◌, ◌++◌, Option, Some, None, if◌then◌else◌}
use Rattle.std.specs.Str.{bytes_eq}
use Rattle.sap_terms.specs.declared.var.Var.{Var}
use Rattle.sap_terms.specs.declared.binding.Binding.{Binding}
use Rattle.sap_terms.specs.Same.{same_tree}
use Rattle.sap_terms.specs.Tree.{Tree, variable, public, fresh, apply, Trees, none, more}
use Rattle.sap_terms.specs.View.{tree, term}
use Rattle.sap_terms.specs.Choice.{fits_sort}
use Rattle.sap_terms.specs.Signature.{Sig, is_destructor_of}
use Rattle.sap_parts.specs.Parts.{guard, ◌>>=◌}

-- the tree that is bound to a name
abbrev pub bound : List Binding → List ℕ → Option Tree
bound [] n = None
bound (e ∷ es) n = if bytes_eq e.var.name n then Some (tree e.term) else bound es n

-- the bindings with a tree for a variable, where that is possible
abbrev pub match_variable : Var → Tree → List Binding → Option Tree → Option (List Binding)
match_variable v t b (Some u) = guard (same_tree u t) (Some b)
match_variable v t b None = guard (fits_sort v.sort t) (Some (b ++ record { var = v; term = term t } ∷ []))

-- a walk skips nothing, or what a destructor of the signature heads
abbrev pub skipped : Option Sig → List ℕ → Bool
skipped None f = false
skipped (Some g) f = is_destructor_of g f

abbrev mutual
  -- the bindings that the walk gives, which skips what one of these symbols heads
  pub match_tree : (List ℕ → Bool) → Tree → Tree → List Binding → Option (List Binding)
  match_tree s (variable v) t b = match_variable v t b (bound b v.name)
  match_tree s (public n) t b = guard (same_tree (public n) t) (Some b)
  match_tree s (fresh k) t b = guard (same_tree (fresh k) t) (Some b)
  match_tree s (apply f ps) (apply g ts) b = if s f then Some b else guard (bytes_eq f g) (match_trees s ps ts b)
  match_tree s (apply f ps) _ b = if s f then Some b else None

  -- those of these trees, one after another
  pub match_trees : (List ℕ → Bool) → Trees → Trees → List Binding → Option (List Binding)
  match_trees s none none b = Some b
  match_trees s (more p ps) (more t ts) b = match_tree s p t b >>= match_trees s ps ts
  match_trees s _ _ b = None
