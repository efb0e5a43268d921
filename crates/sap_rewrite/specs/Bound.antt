-- What bindings give that extend others.
use Rattle.std.specs.Prelude.{◌≡◌, ℕ, false, List, [], ◌∷◌, ◌++◌, map, All, Contains}
use Rattle.sap_terms.specs.declared.var.Var.{Var}
use Rattle.sap_terms.specs.declared.binding.Binding.{Binding}
use Rattle.sap_terms.specs.Choice.{Choice, instance}
use Rattle.sap_terms.specs.Message.{IsMessage, IsMessageChoice}
use Rattle.sap_terms.specs.Signature.{Sig}
use Rattle.sap_terms.specs.Subst.{bound_to, subst_tree}
use Rattle.sap_terms.specs.Tree.{Tree}
use Rattle.sap_terms.specs.Variables.{tree_vars, is_known, new_vars}
use Rattle.sap_terms.specs.View.{tree}
use Rattle.sap_rewrite.specs.Match.{Extends, Agrees, HaveOneSort, bound_vars}

-- no two of the variables have one name
abbrev pub AreNamedOnce : List Var → Type 0
AreNamedOnce [] = Unit {0}
AreNamedOnce (v ∷ vs) = (is_known (map (λ (w : Var). w.name) vs) v.name ≡ false) × AreNamedOnce vs

-- how extensions of bindings go together
pub record ExtensionsJoin : Type 0 where
  -- by no variables bindings extend themselves
  pub by_none : (b : List Binding) → Extends b [] b
  -- what extends what extends them, extends them by both lists
  pub in_turn : (b c d : List Binding) (vs ws : List Var) → Extends b vs c → Extends c ws d → Extends b (vs ++ ws) d
  -- what extends them by some variables binds no others
  pub bind_no_others : (b c : List Binding) (vs : List Var) → Extends b vs c → (v : Var) → Contains (bound_vars c) v → Contains (bound_vars b ++ vs) v

-- where each variable is named once, and what follows
pub record NamedOnceStay : Type 0 where
  -- first occurrences are named once
  pub first_occurrences : (known : List (List ℕ)) (vs : List Var) → AreNamedOnce (new_vars known vs)
  -- where bindings name each variable once, so does what extends them
  pub extended : (b c : List Binding) (vs : List Var) → Extends b vs c → AreNamedOnce (bound_vars b) → AreNamedOnce (bound_vars c)
  -- and they agree with the choice that they make
  pub agree : (b : List Binding) → AreNamedOnce (bound_vars b) → Agrees b (bound_to b)

-- some choice of messages agrees with bindings to messages that name each variable once
abbrev pub BindingsGiveChoices : Type 0
BindingsGiveChoices =
    (g : Sig) (c : List Binding) → AreNamedOnce (bound_vars c) → All (λ (e : Binding). IsMessage g e.var.sort (tree e.term)) c → (σ : Choice) × IsMessageChoice g σ × Agrees c σ

-- bindings and each choice that agrees with them turn a tree of bound variables into one tree, if no name has two sorts
abbrev pub AgreeingSubstitutes : Type 0
AgreeingSubstitutes =
    (b c : List Binding) (vs : List Var) → Extends b vs c → HaveOneSort (bound_vars b ++ vs) → (σ : Choice) → Agrees c σ → (t : Tree) → ((v : Var) → Contains (tree_vars t) v → Contains (bound_vars b ++ vs) v) → subst_tree c t ≡ instance σ t
