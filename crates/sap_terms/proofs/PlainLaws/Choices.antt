-- Choices that agree on variables, and what they make of terms and facts.
use Rattle.std.proofs.Common.{◌≡◌, List, [], ◌∷◌, ◌++◌, map, refl, ap, subst, inl, inr, arith}
use Rattle.std.specs.Prelude.{Contains}
use Rattle.std.proofs.lemmas.List.Elements.{Contains-append_left, Contains-append_right, Contains-append_cases}
use Rattle.sap_terms.specs.Choice.{Choice, instance, instances}
use Rattle.sap_terms.specs.Modulo.{instance_facts}
use Rattle.sap_terms.specs.Tree.{Tree, variable, public, fresh, apply, Trees, none, more, trees_of}
use Rattle.sap_terms.specs.Variables.{tree_vars, trees_vars, facts_vars}
use Rattle.sap_terms.specs.declared.fact.Fact.{Fact}
use Rattle.sap_terms.specs.declared.var.Var.{Var}
use Rattle.sap_terms.proofs.PlainLaws.Items.{first_item, item_cases}

-- they agree on these
abbrev pub Agree : Choice → Choice → List Var → Type 0
Agree σ τ vs = (v : Var) → Contains vs v → σ v ≡ τ v

pub agree_left : (σ τ : Choice) (vs ws : List Var) → Agree σ τ (vs ++ ws) → Agree σ τ vs
agree_left σ τ vs ws h v m = h v (Contains-append_left vs ws v m)

pub agree_right : (σ τ : Choice) (vs ws : List Var) → Agree σ τ (vs ++ ws) → Agree σ τ ws
agree_right σ τ vs ws h v m = h v (Contains-append_right vs ws v m)

mutual
  pub tree_agree : (σ τ : Choice) (t : Tree) → Agree σ τ (tree_vars t) → instance σ t ≡ instance τ t
  tree_agree σ τ (variable v) h = h v (first_item v [])
  tree_agree σ τ (public n) h = refl
  tree_agree σ τ (fresh k) h = refl
  tree_agree σ τ (apply f ts) h = ap (apply f) (trees_agree σ τ ts h)

  pub trees_agree : (σ τ : Choice) (ts : Trees) → Agree σ τ (trees_vars ts) → instances σ ts ≡ instances τ ts
  trees_agree σ τ none h = refl
  trees_agree σ τ (more t ts) h =
      λ i. more (tree_agree σ τ t (agree_left σ τ (tree_vars t) (trees_vars ts) h) i) (trees_agree σ τ ts (agree_right σ τ (tree_vars t) (trees_vars ts) h) i)

args_agree : (σ τ : Choice) (ts : List Tree) → Agree σ τ (trees_vars (trees_of ts)) → map (instance σ) ts ≡ map (instance τ) ts
args_agree σ τ [] h = refl
args_agree σ τ (t ∷ ts) h =
    λ i. tree_agree σ τ t (agree_left σ τ (tree_vars t) (trees_vars (trees_of ts)) h) i ∷ args_agree σ τ ts (agree_right σ τ (tree_vars t) (trees_vars (trees_of ts)) h) i

pub facts_agree : (σ τ : Choice) (fs : List Fact) → Agree σ τ (facts_vars fs) → instance_facts σ fs ≡ instance_facts τ fs
facts_agree σ τ [] h = refl
facts_agree σ τ (f ∷ fs) h =
    let args : map (instance σ) f.args ≡ map (instance τ) f.args = args_agree σ τ f.args (agree_left σ τ (trees_vars (trees_of f.args)) (facts_vars fs) h) in
    λ i. record { name = f.name; persistent = f.persistent; args = args i } ∷ facts_agree σ τ fs (agree_right σ τ (trees_vars (trees_of f.args)) (facts_vars fs) h) i

-- where they make one of a term, they agree on its variables
mutual
  pub tree_same : (σ τ : Choice) (t : Tree) → instance σ t ≡ instance τ t → Agree σ τ (tree_vars t)
  tree_same σ τ (variable v) e w m = subst (λ u. σ u ≡ τ u) (item_cases v w m) e
  tree_same σ τ (public n) e w m = absurd (omega (arith, m.1))
  tree_same σ τ (fresh k) e w m = absurd (omega (arith, m.1))
  tree_same σ τ (apply f ts) e w m = let same : instances σ ts ≡ instances τ ts = cc in trees_same σ τ ts same w m

  pub trees_same : (σ τ : Choice) (ts : Trees) → instances σ ts ≡ instances τ ts → Agree σ τ (trees_vars ts)
  trees_same σ τ none e w m = absurd (omega (arith, m.1))
  trees_same σ τ (more t ts) e w m =
      let first : instance σ t ≡ instance τ t = cc in
      let later : instances σ ts ≡ instances τ ts = cc in
      elim (Contains-append_cases (tree_vars t) (trees_vars ts) w m) [ inl k ↦ tree_same σ τ t first w k | inr k ↦ trees_same σ τ ts later w k ]
