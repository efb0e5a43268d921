-- Bindings of given variables that agree with a choice.
use Rattle.std.proofs.Common.{◌≡◌, List, [], ◌∷◌, refl, sym, ap}
use Rattle.sap_terms.specs.Choice.{Choice}
use Rattle.sap_terms.specs.View.{term, tree-term}
use Rattle.sap_terms.specs.declared.binding.Binding.{Binding}
use Rattle.sap_terms.specs.declared.var.Var.{Var}
use Rattle.sap_rewrite.specs.Match.{Agrees, bound_vars}

-- the variables, bound to what the choice gives them
abbrev pub bindings_of : Choice → List Var → List Binding
bindings_of σ [] = []
bindings_of σ (v ∷ vs) = record { var = v; term = term (σ v) } ∷ bindings_of σ vs

pub bindings_of-vars : (σ : Choice) (vs : List Var) → bound_vars (bindings_of σ vs) ≡ vs
bindings_of-vars σ [] = refl
bindings_of-vars σ (v ∷ vs) = ap (λ ws. v ∷ ws) (bindings_of-vars σ vs)

pub bindings_of-agrees : (σ : Choice) (vs : List Var) → Agrees (bindings_of σ vs) σ
bindings_of-agrees σ [] = tt
bindings_of-agrees σ (v ∷ vs) = (sym (tree-term (σ v)), bindings_of-agrees σ vs)
