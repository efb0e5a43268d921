-- The way along a path to what binds a name, as the code goes it.
use Rattle.std.specs.Prelude.{◌≡◌, ◌+◌, ◌-◌, ◌^◌, ℕ, List, [], ◌∷◌, ◌++◌, min, slice_get, Option, Some, None, true, false}
use Rattle.sap_terms.specs.Variables.{is_known}
use Rattle.sap_terms.specs.declared.var.Var.{Var}
use Rattle.sap_process.specs.Places.{child}
use Rattle.sap_process.specs.Proc.{Proc}
use Rattle.sap_process.specs.Sites.{var_names}
use Rattle.sap_nodes.specs.HeadNodes.{Node, head_nodes}
use Rattle.sap_other_nodes.specs.OtherBinders.{IsBinderNode, IsBoundOn}
use Rattle.sap_other_nodes.specs.code.Seeks.{name_of}
use Rattle.sap_other_nodes.specs.declared.other_binder.Binder.{Binder}
use Rattle.sap_other_nodes.specs.declared.other_binder.Binder.TheVariants.{On, Outer}
use Rattle.sap_other_nodes.specs.declared.other_binder.OtherNode.{OtherNode}

-- the process to which these digits lead
abbrev pub process_down : Option Proc → List ℕ → Option Proc
process_down None v = None
process_down (Some p) [] = Some p
process_down (Some p) (e ∷ v) = process_down (child p e) v

-- the name of a node, if there is one and it is a variable
abbrev pub named_by : Option Node → Option (List ℕ)
named_by None = None
named_by (Some n) = name_of n

abbrev pub name_at : Proc → ℕ → Option (List ℕ)
name_at p k = named_by (slice_get (head_nodes p) k)

-- this node of the head is told, by the digits that lead to its place, or that none binds the name
abbrev pub IsBoundHere : Proc → ℕ → List ℕ → ℕ → Option OtherNode → Type 0
IsBoundHere p e n depth None = (j : ℕ) → ¬ IsBinderNode p e n j
IsBoundHere p e n depth (Some f) = (j : ℕ) × IsBinderNode p e n j × (f.depth ≡ depth) × (f.node ≡ min j (2 ^ 64 - 1))

-- of the heads along these digits, where so many lead to the first
abbrev pub IsAlong : Proc → List ℕ → List ℕ → ℕ → Option OtherNode → Type 0
IsAlong p way n depth None = (d j : ℕ) → ¬ IsBoundOn p way n d j
IsAlong p way n depth (Some f) =
    (d : ℕ) × (j : ℕ) × IsBoundOn p way n d j × (f.depth ≡ depth + d) × (f.node ≡ min j (2 ^ 64 - 1))

-- this binds the name, or nothing does
abbrev pub IsBinderFound : List Var → Proc → List ℕ → List ℕ → Option Binder → Type 0
IsBinderFound scope p path n None = (is_known (var_names scope) n ≡ false) × ((d j : ℕ) → ¬ IsBoundOn p (path ++ 1 ∷ []) n d j)
IsBinderFound scope p path n (Some Outer) = is_known (var_names scope) n ≡ true
IsBinderFound scope p path n (Some (On f)) =
    (is_known (var_names scope) n ≡ false) × (j : ℕ) × IsBoundOn p (path ++ 1 ∷ []) n f.depth j × (f.node ≡ min j (2 ^ 64 - 1))
