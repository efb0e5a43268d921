-- Entries and bindings that a line names.
use Rattle.std.proofs.Common.{◌≡◌, ℕ, suc, List, [], ◌∷◌, length, map, Some, slice_get, refl, ap, sym}
use Rattle.std.specs.List.{All, Contains}
use Rattle.std.proofs.lemmas.List.Elements.{All-nil, All-cons, All-head, All-tail}
use Rattle.sap_terms.specs.Choice.{Choice}
use Rattle.sap_terms.specs.Tree.{Tree}
use Rattle.sap_terms.specs.View.{term, tree-term}
use Rattle.sap_terms.specs.declared.binding.Binding.{Binding}
use Rattle.sap_terms.specs.declared.var.Var.{Var}
use Rattle.sap_rewrite.specs.Match.{Agrees, bound_vars}
use Rattle.sap_terms.proofs.PlainLaws.Items.{contains_got, got_contained}

-- numbers at which the terms stand
pub numbers_of : (known ts : List Tree) → All (Contains known) ts → (ks : List ℕ) × (map (slice_get known) ks ≡ map Some ts) × (length ks ≡ length ts)
numbers_of known [] h = ([], refl, refl)
numbers_of known (t ∷ ts) h =
    let here = got_contained known t (All-head (Contains known) t ts h) in
    let rest = numbers_of known ts (All-tail (Contains known) t ts h) in
    (here.0 ∷ rest.0, (λ i. here.1 i ∷ rest.1 i), ap suc rest.2)

pub contains_numbers : (known : List Tree) (ks : List ℕ) (ts : List Tree) → map (slice_get known) ks ≡ map Some ts → All (Contains known) ts × (length ks ≡ length ts)
contains_numbers known [] [] e = (All-nil (Contains known), refl)
contains_numbers known [] (t ∷ ts) e = cc
contains_numbers known (k ∷ ks) [] e = cc
contains_numbers known (k ∷ ks) (t ∷ ts) e =
    let here : slice_get known k ≡ Some t = cc in
    let later : map (slice_get known) ks ≡ map Some ts = cc in
    let rest = contains_numbers known ks ts later in
    (All-cons (Contains known) t ts (contains_got known t k here) rest.0, ap suc rest.1)

-- the variables, bound to what the choice gives them
abbrev pub bindings_of : Choice → List Var → List Binding
bindings_of σ [] = []
bindings_of σ (v ∷ vs) = record { var = v; term = term (σ v) } ∷ bindings_of σ vs

pub bindings_of-vars : (σ : Choice) (vs : List Var) → bound_vars (bindings_of σ vs) ≡ vs
bindings_of-vars σ [] = refl
bindings_of-vars σ (v ∷ vs) = ap (λ ws. v ∷ ws) (bindings_of-vars σ vs)

pub bindings_of-agrees : (σ : Choice) (vs : List Var) → Agrees (bindings_of σ vs) σ
bindings_of-agrees σ [] = tt
bindings_of-agrees σ (v ∷ vs) = (sym (tree-term (σ v)), bindings_of-agrees σ vs)
