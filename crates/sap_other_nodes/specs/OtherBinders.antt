-- Which node binds a name that is in scope at a place.
use Rattle.std.specs.Prelude.{◌≡◌, ◌<◌, ◌+◌, ◌-◌, ◌^◌, ℕ, zero, suc, false, true, List, [], ◌∷◌, ◌++◌, length, min, slice_get, Option, Some, None}
use Rattle.sap_terms.specs.Variables.{is_known}
use Rattle.sap_terms.specs.declared.var.Var.{Var}
use Rattle.sap_process.specs.Places.{child}
use Rattle.sap_process.specs.Proc.{Proc, act, lookup}
use Rattle.sap_process.specs.Sites.{Site, message_var, var_names}
use Rattle.sap_process.specs.declared.flaw.Flaw.{Flaw}
use Rattle.sap_process.specs.declared.flaw.Flaw.TheVariants.{Rebound, SortClash}
use Rattle.sap_nodes.specs.FullScope.{IsNamed, action_binding, front_nodes}
use Rattle.sap_nodes.specs.HeadNodes.{Node, binder, head_nodes}
use Rattle.sap_other_nodes.specs.declared.other_binder.Binder.{Binder}
use Rattle.sap_other_nodes.specs.declared.other_binder.Binder.TheVariants.{On, Outer}
use Rattle.sap_other_nodes.specs.declared.other_binder.OtherNode.{OtherNode}

-- the nodes of a head that bind for its child of this digit; `lookup` binds in its first branch only
abbrev pub binding_for : Proc → ℕ → List Node
binding_for (act a p) e = action_binding a
binding_for (lookup t x p q) (suc zero) = binder (message_var x) ∷ []
binding_for _ e = []

-- node k of the head binds the name there: of the nodes that bind it is the first of this name
pub record IsBinderNode (p : Proc) (e : ℕ) (n : List ℕ) (k : ℕ) : Type 0 where
  pub index : ℕ
  pub at : k ≡ length (front_nodes p) + index
  pub node : Node
  pub stands : slice_get (binding_for p e) index ≡ Some node
  pub named : IsNamed n node
  pub first : (j : ℕ) (m : Node) → j < index → slice_get (binding_for p e) j ≡ Some m → ¬ IsNamed n m

-- on the way along this path from the process the head with so many digits in front of it is the first that binds the name: by its node k
pub data IsBoundOn : Proc → List ℕ → List ℕ → ℕ → ℕ → Type 0 where
  bound_here : {p : Proc} {e k : ℕ} {path n : List ℕ} → IsBinderNode p e n k → IsBoundOn p (e ∷ path) n 0 k
  bound_below : {p q : Proc} {e d k : ℕ} {path n : List ℕ} → ((j : ℕ) → ¬ IsBinderNode p e n j) → child p e ≡ Some q
      → IsBoundOn q path n d k → IsBoundOn p (e ∷ path) n (suc d) k

-- node k of the head is a variable of this name
pub record HasName (p : Proc) (k : ℕ) (n : List ℕ) : Type 0 where
  pub node : Node
  pub stands : slice_get (head_nodes p) k ≡ Some node
  pub named : IsNamed n node

-- what binds the name that node k of the head of this place has, where these are in scope at the root of the process: one of these where it
-- is among them, or else the first head on the way there that binds it, that of the place itself included
pub data IsBinderOf (scope : List Var) (p : Proc) (s : Site) (k : ℕ) : Binder → Type 0 where
  outer : {n : List ℕ} → HasName s.body k n → is_known (var_names scope) n ≡ true → IsBinderOf scope p s k Outer
  on_the_way : {n : List ℕ} {f : OtherNode} {j : ℕ} → HasName s.body k n → is_known (var_names scope) n ≡ false
      → IsBoundOn p (s.path ++ 1 ∷ []) n f.depth j → f.node ≡ min j (2 ^ 64 - 1) → IsBinderOf scope p s k (On f)

-- it is told, or that there is none
abbrev pub IsBinderTold : List Var → Proc → Site → ℕ → Option Binder → Type 0
IsBinderTold scope p s k None = (b : Binder) → ¬ IsBinderOf scope p s k b
IsBinderTold scope p s k (Some b) = IsBinderOf scope p s k b

-- the flaws that speak of a name which is in scope: it is bound again, or has another sign than its binder's sort
abbrev pub IsOfBinding : Flaw → Type 0
IsOfBinding Rebound = Unit {0}
IsOfBinding SortClash = Unit {0}
IsOfBinding _ = ⊥
