-- A scope that grows by the variables of nodes, as the code goes through them.
use Rattle.std.specs.Prelude.{◌+◌, ℕ, List, [], ◌∷◌, ◌++◌, if◌then◌else◌}
use Rattle.sap_terms.specs.Variables.{is_known}
use Rattle.sap_terms.specs.declared.var.Var.{Var}
use Rattle.sap_process.specs.Sites.{var_names}
use Rattle.sap_nodes.specs.HeadNodes.{Node, binder, variable, public, fresh, symbol, fact}
use Rattle.sap_nodes.specs.declared.part.Part.{Part}
use Rattle.sap_nodes.specs.declared.part.Part.TheVariants.{Pattern, Shown, Given}
use Rattle.sap_captures.specs.declared.binding.Binding.{Binding}

-- one node further
abbrev pub passed : Binding → Binding
passed b = record b { at = b.at + 1 }

-- those that are noted of a part: of a pattern the node, of others none
abbrev pub noted : Part → List ℕ → ℕ → List ℕ
noted Pattern ks k = ks ++ k ∷ []
noted Shown ks k = ks
noted Given ks k = ks

-- the node is a variable that isn't in scope
abbrev pub taken : Part → Binding → Var → Binding
taken a b v = record { scope = b.scope ++ v ∷ []; at = b.at + 1; nodes = noted a b.nodes b.at }

-- behind a node of this part
abbrev pub bound : Part → Binding → Node → Binding
bound a b (variable v) = if is_known (var_names b.scope) v.name then passed b else taken a b v
bound a b (binder v) = passed b
bound a b (public n) = passed b
bound a b (fresh k) = passed b
bound a b (symbol c f k) = passed b
bound a b (fact c f) = passed b

-- behind these
abbrev pub bound_all : Part → Binding → List Node → Binding
bound_all a b [] = b
bound_all a b (n ∷ ns) = bound_all a (bound a b n) ns
