-- A fact of a head by its node, and the first that differs from a fact, as the code finds them.
use Rattle.std.specs.Prelude.{ℕ, ◌+◌, min, nat_eq, Bool, true, false, not, ◌&&◌, ◌||◌, List, [], ◌∷◌, ◌++◌, length, Option, Some, None, option_map}
use Rattle.std.specs.List.{find}
use Rattle.std.specs.Str.{bytes_eq}
use Rattle.sap_terms.specs.Signature.{same_bool}
use Rattle.sap_terms.specs.Tree.{trees_count, trees_of}
use Rattle.sap_terms.specs.declared.fact.Fact.{Fact}
use Rattle.sap_process.specs.Action.{Action, event, embedded}
use Rattle.sap_process.specs.Places.{child}
use Rattle.sap_process.specs.Proc.{Proc, nil, parallel, replicated, act, test, lookup}
use Rattle.sap_nodes.specs.declared.part.Part.{Part}
use Rattle.sap_nodes.specs.declared.part.Part.TheVariants.{Pattern, Shown, Given}
use Rattle.sap_other_nodes.specs.declared.other_fact.Entry.{Entry}
use Rattle.sap_other_nodes.specs.declared.other_fact.OtherFact.{OtherFact}
use Rattle.sap_other_nodes.specs.declared.other_fact.Sought.{Sought}
use Rattle.sap_other_nodes.specs.declared.other_fact.Sought.TheVariants.{Node, Other}

abbrev pub is_shown : Part → Bool
is_shown Shown = true
is_shown _ = false

-- the second fact has the kind and the name of the first, and differs from it
abbrev pub differs : Part → Fact → Part → Fact → Bool
differs a f b h =
    same_bool (is_shown a) (is_shown b) && bytes_eq h.name f.name
    && (not (nat_eq (length h.args) (length f.args)) || not (is_shown a) && not (same_bool h.persistent f.persistent))

-- a fact of a head with its part and its node
pub record Numbered : Type 0 where
  pub node : ℕ
  pub part : Part
  pub fact : Fact

abbrev pub numbered : ℕ → Part → Fact → Numbered
numbered k a f = record { node = k; part = a; fact = f }

-- it is the one with this node, or one that differs from this one
abbrev pub is_sought : Sought → Numbered → Bool
is_sought (Node k) x = nat_eq x.node k
is_sought (Other a f) x = differs a f.now x.part x.fact

-- the nodes of a fact
abbrev pub fact_size : Fact → ℕ
fact_size f = trees_count (trees_of f.args) + 1

-- the greatest u64
abbrev pub most : ℕ
most = 18446744073709551615

-- how many stand in front of what follows these facts; from the greatest u64 on, that number
abbrev pub past : ℕ → List Fact → ℕ
past k [] = k
past k (f ∷ fs) = past (min (k + fact_size f) most) fs

-- these facts, where so many nodes stand in front of them
abbrev pub numbered_facts : ℕ → Part → List Fact → List Numbered
numbered_facts k a [] = []
numbered_facts k a (f ∷ fs) = numbered k a f ∷ numbered_facts (min (k + fact_size f) most) a fs

-- those of an action, as they are written
abbrev pub action_facts : Action → List Numbered
action_facts (event f) = numbered 0 Shown f ∷ []
action_facts (embedded l e r) =
    numbered_facts 0 Pattern l ++ (numbered_facts (past 0 l) Shown e ++ numbered_facts (past (past 0 l) e) Given r)
action_facts _ = []

-- and of a head
abbrev pub head_facts : Proc → List Numbered
head_facts (act x p) = action_facts x
head_facts _ = []

-- what the code finds in a head
abbrev pub entry_of : Entry → Numbered
entry_of e = numbered e.node e.part e.fact.now

-- the first that is there
abbrev pub or_else : Option (List ℕ × ℕ) → Option (List ℕ × ℕ) → Option (List ℕ × ℕ)
or_else None o = o
or_else (Some x) o = Some x

-- with the path of its place
abbrev pub at_path : List ℕ → Numbered → List ℕ × ℕ
at_path path x = (path, x.node)

-- the first of the heads from this place on, in preorder
abbrev pub seek : (Numbered → Bool) → List ℕ → Proc → Option (List ℕ × ℕ)
seek pass path nil = None
seek pass path (parallel p q) = or_else (seek pass (path ++ 1 ∷ []) p) (seek pass (path ++ 2 ∷ []) q)
seek pass path (replicated p) = seek pass (path ++ 1 ∷ []) p
seek pass path (act x p) =
    or_else (option_map (at_path path) (find pass (action_facts x))) (seek pass (path ++ 1 ∷ []) p)
seek pass path (test t u p q) = or_else (seek pass (path ++ 1 ∷ []) p) (seek pass (path ++ 2 ∷ []) q)
seek pass path (lookup t x p q) = or_else (seek pass (path ++ 1 ∷ []) p) (seek pass (path ++ 2 ∷ []) q)

-- what the code tells
abbrev pub place_of : OtherFact → List ℕ × ℕ
place_of o = (o.path, o.node)

-- the process at the end of these digits
abbrev pub process_at : Option Proc → List ℕ → Option Proc
process_at None path = None
process_at (Some p) [] = Some p
process_at (Some p) (e ∷ path) = process_at (child p e) path

-- the fact with this node at its head
abbrev pub fact_with : ℕ → Option Proc → Option Numbered
fact_with k None = None
fact_with k (Some p) = find (λ (x : Numbered). nat_eq x.node k) (head_facts p)
