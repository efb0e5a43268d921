-- Of which node of a head a flaw speaks.
use Rattle.std.specs.Prelude.{◌≡◌, ◌<◌, ℕ, true, List, [], ◌∷◌, ◌++◌, take, min, ◌-◌, ◌^◌, slice_get, Option, Some, None, Contains, codes, nat_eq}
use Rattle.std.specs.List.{flat_map, starts_with}
use Rattle.sap_terms.specs.Reserved.{is_reserved}
use Rattle.sap_terms.specs.Signature.{Sig, arity_of, is_destructor_of}
use Rattle.sap_terms.specs.Variables.{is_known}
use Rattle.sap_terms.specs.declared.fact.Fact.{Fact}
use Rattle.sap_terms.specs.declared.var.Sort.TheVariants.{Msg}
use Rattle.sap_terms.specs.declared.var.Var.{Var}
use Rattle.sap_process.specs.Flaws.{HasOtherArity, HasOtherForm, unbound, scope_at, binder_of}
use Rattle.sap_process.specs.Heads.{stored_facts, shown_facts}
use Rattle.sap_process.specs.Sites.{Site, var_names}
use Rattle.sap_process.specs.declared.flaw.Flaw.{Flaw}
use Rattle.sap_process.specs.declared.flaw.Flaw.TheVariants.{BadFunction, ReservedVar, ReservedFact, FactClash, PatternDestructor, Unbound, Rebound, SortClash, ScopeFull}
use Rattle.sap_nodes.specs.HeadNodes.{Node, binder, variable, symbol, fact, head_nodes}
use Rattle.sap_nodes.specs.declared.part.Part.TheVariants.{Pattern, Shown, Given}

-- a symbol that isn't held on so many terms, or a plain identifier that is bound and a constant
abbrev pub IsBadNode : Sig → Node → Type 0
IsBadNode g (symbol a f n) = ¬ (arity_of g f ≡ Some n)
IsBadNode g (binder v) = (v.sort ≡ Msg) × (arity_of g v.name ≡ Some 0)
IsBadNode g _ = ⊥

-- a variable, bound here or not, whose name begins as those that the rules use themselves
abbrev pub IsReservedVarNode : Node → Type 0
IsReservedVarNode (variable v) = starts_with nat_eq v.name (codes "sapic_") ≡ true
IsReservedVarNode (binder v) = starts_with nat_eq v.name (codes "sapic_") ≡ true
IsReservedVarNode _ = ⊥

-- a fact with a name that rules use themselves
abbrev pub IsReservedFactNode : Node → Type 0
IsReservedFactNode (fact a f) = is_reserved f.name ≡ true
IsReservedFactNode _ = ⊥

-- one of these facts has the name of this one, and differs from it
pub record Differs (differ : Fact → Fact → Type 0) (earlier : List Fact) (f : Fact) : Type 0 where
  pub other : Fact
  pub stands : Contains earlier other
  pub name : other.name ≡ f.name
  pub differs : differ other f

-- the fact, where the node is one that is taken or added
abbrev pub stored_of : Node → List Fact
stored_of (fact Pattern f) = f ∷ []
stored_of (fact Given f) = f ∷ []
stored_of _ = []

-- the fact, where it is one that is shown
abbrev pub shown_of : Node → List Fact
shown_of (fact Shown f) = f ∷ []
shown_of _ = []

-- a fact that differs from one of its name and kind, at a place before or at a node in front of it
abbrev pub IsClashingNode : List Site → List Node → Node → Type 0
IsClashingNode before front (fact Shown f) =
    Differs HasOtherArity (flat_map (λ (b : Site). shown_facts b.body) before ++ flat_map shown_of front) f
IsClashingNode before front (fact a f) =
    Differs HasOtherForm (flat_map (λ (b : Site). stored_facts b.body) before ++ flat_map stored_of front) f
IsClashingNode before front _ = ⊥

-- a destructor in a pattern
abbrev pub IsDestructorNode : Sig → Node → Type 0
IsDestructorNode g (symbol Pattern f n) = is_destructor_of g f ≡ true
IsDestructorNode g _ = ⊥

-- a variable that nothing binds
abbrev pub IsUnboundNode : Site → Node → Type 0
IsUnboundNode s (variable v) = Contains (unbound s.above.scope s.body) v
IsUnboundNode s _ = ⊥

-- what is bound has a name that is in scope already
abbrev pub IsReboundNode : Site → Node → Type 0
IsReboundNode s (binder v) = is_known (var_names s.above.scope) v.name ≡ true
IsReboundNode s _ = ⊥

-- the variable has a sign that isn't the sort of its binder, where these are in scope
pub record HasOtherSign (scope : List Var) (v : Var) : Type 0 where
  pub signed : ¬ (v.sort ≡ Msg)
  pub bound : Var
  pub binder : binder_of scope v.name ≡ Some bound
  pub other : ¬ (bound.sort ≡ v.sort)

-- such a variable
abbrev pub IsOtherSignNode : Site → Node → Type 0
IsOtherSignNode s (variable v) = HasOtherSign (scope_at s.above.scope s.body) v
IsOtherSignNode s _ = ⊥

-- the node has the flaw, where these places stand before its place and these nodes in front of it; of no node of a head is it
-- said that its scope is full
abbrev pub IsFlawedNode : Sig → List Site → Site → Flaw → List Node → Node → Type 0
IsFlawedNode g before s BadFunction front n = IsBadNode g n
IsFlawedNode g before s ReservedVar front n = IsReservedVarNode n
IsFlawedNode g before s ReservedFact front n = IsReservedFactNode n
IsFlawedNode g before s FactClash front n = IsClashingNode before front n
IsFlawedNode g before s PatternDestructor front n = IsDestructorNode g n
IsFlawedNode g before s Unbound front n = IsUnboundNode s n
IsFlawedNode g before s Rebound front n = IsReboundNode s n
IsFlawedNode g before s SortClash front n = IsOtherSignNode s n
IsFlawedNode g before s ScopeFull front n = ⊥

-- node k of the head, from 0, has it
pub record IsFlawedAt (g : Sig) (before : List Site) (s : Site) (w : Flaw) (k : ℕ) : Type 0 where
  pub node : Node
  pub stands : slice_get (head_nodes s.body) k ≡ Some node
  pub flaw : IsFlawedNode g before s w (take k (head_nodes s.body)) node

-- the flaw speaks of node k of the head: the first that has it
pub record IsNodeOf (g : Sig) (before : List Site) (s : Site) (w : Flaw) (k : ℕ) : Type 0 where
  pub here : IsFlawedAt g before s w k
  pub first : (j : ℕ) → j < k → ¬ IsFlawedAt g before s w j

-- the flaws that speak of a node of the head: all but that of scopes that are full
abbrev pub IsOfHead : Flaw → Type 0
IsOfHead ScopeFull = ⊥
IsOfHead _ = Unit {0}

-- those that the signature and names alone decide
abbrev pub IsOfWords : Flaw → Type 0
IsOfWords BadFunction = Unit {0}
IsOfWords ReservedVar = Unit {0}
IsOfWords ReservedFact = Unit {0}
IsOfWords PatternDestructor = Unit {0}
IsOfWords _ = ⊥

-- the number is that of the node of which the flaw speaks, and from the greatest u64 on that; there is none where it speaks of no node
abbrev pub IsTold : Sig → List Site → Site → Flaw → Option ℕ → Type 0
IsTold g before s w None = (k : ℕ) → ¬ IsNodeOf g before s w k
IsTold g before s w (Some n) = (k : ℕ) × IsNodeOf g before s w k × (n ≡ min k (2 ^ 64 - 1))
