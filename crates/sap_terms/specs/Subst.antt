-- Substitutions as lists of bindings.
use Rattle.std.specs.Prelude.{List, [], ◌∷◌, if◌then◌else◌}
use Rattle.std.specs.Str.{bytes_eq}
use Rattle.sap_terms.specs.Tree.{Tree, variable, Trees}
use Rattle.sap_terms.specs.View.{tree}
use Rattle.sap_terms.specs.Choice.{Choice, instance, instances}
use Rattle.sap_terms.specs.declared.binding.Binding.{Binding}

-- what the bindings choose: the first term bound to a variable's name, and the variable itself where there is none
abbrev pub bound_to : List Binding → Choice
bound_to [] v = variable v
bound_to (e ∷ es) v = if bytes_eq e.var.name v.name then tree e.term else bound_to es v

-- the tree with each bound variable replaced by its term
abbrev pub subst_tree : List Binding → Tree → Tree
subst_tree b t = instance (bound_to b) t

-- the same in each of these
abbrev pub subst_trees : List Binding → Trees → Trees
subst_trees b ts = instances (bound_to b) ts
