-- Where a place has a flaw, a node of its head has it.
use Rattle.std.proofs.Common.{◌≡◌, ℕ, List, [], ◌∷◌, ◌++◌, Bool, true, false, cond, Option, Some, None, inl, inr, refl, sym, ap, subst, length, filter}
use Rattle.std.specs.Prelude.{◌⊎◌, Contains, codes, nat_eq, slice_get, take, not, if◌then◌else◌}
use Rattle.std.specs.List.{starts_with}
use Rattle.std.proofs.lemmas.List.Elements.{Contains-append_left, Contains-append_right, Contains-append_cases}
use Rattle.sap_terms.specs.Destructors.{HasDestructor, AnyHasDestructor}
use Rattle.sap_terms.specs.Message.{IsOver, AreOver}
use Rattle.sap_terms.specs.Same.{same_sort}
use Rattle.sap_terms.specs.Signature.{Sig, arity_of}
use Rattle.sap_terms.specs.Tree as tree
use Rattle.sap_terms.specs.Tree.{Tree, Trees, none, more, trees_of, list_of}
use Rattle.sap_terms.specs.Variables.{tree_vars, trees_vars, facts_vars, is_known, new_vars}
use Rattle.sap_terms.specs.declared.fact.Fact.{Fact}
use Rattle.sap_terms.specs.declared.var.Sort.TheVariants.{Pub}
use Rattle.sap_terms.specs.declared.var.Var.{Var}
use Rattle.sap_terms.proofs.PlainLaws.Items.{first_item, later_item, item_cases, cons_cases, got_contained}
use Rattle.sap_process.specs.Action.{new, out, send, input, receive, event, insert, delete, lock, unlock, embedded}
use Rattle.sap_process.specs.Flaws.{AppliesBadly, BindsConstant, HasReservedVar, HasReservedFact, HasPatternDestructor, unbound_in, unbound, Rebinds, HasSortClash, HasFlaw}
use Rattle.sap_process.specs.Heads.{terms_vars, head_terms, listed, binder}
use Rattle.sap_process.specs.Proc.{Proc, nil, parallel, replicated, act, test, lookup}
use Rattle.sap_process.specs.Sites.{Site, var_names}
use Rattle.sap_process.specs.declared.flaw.Flaw.{Flaw}
use Rattle.sap_process.specs.declared.flaw.Flaw.TheVariants.{BadFunction, ReservedVar, ReservedFact, FactClash, PatternDestructor, Unbound, Rebound, SortClash, ScopeFull}
use Rattle.sap_nodes.specs.HeadNodes as node
use Rattle.sap_nodes.specs.HeadNodes.{Node, tree_nodes, trees_nodes, action_nodes, head_nodes}
use Rattle.sap_nodes.specs.FlawNodes.{IsBadNode, IsReservedVarNode, IsReservedFactNode, IsDestructorNode, IsUnboundNode, IsReboundNode, IsOtherSignNode, IsFlawedNode, IsFlawedAt, IsNodeOf, IsOfHead}
use Rattle.sap_nodes.specs.declared.part.Part.{Part}
use Rattle.sap_nodes.specs.declared.part.Part.TheVariants.{Pattern}
use Rattle.sap_nodes.proofs.ClashNodes.{clashing_node}
use Rattle.sap_nodes.proofs.Decisions.{arities, flawed_at}
use Rattle.sap_nodes.proofs.HeadMembers.{none_of, Has, has_first, has_later, has_left, has_right, in_flat, head_has, pattern_has, var_has, rule_var_has, binder_has, bound_name, fact_has}
use Rattle.sap_nodes.proofs.Least.{least}

-- a term is over the signature, or a symbol in it isn't
mutual
  over_or_bad : (g : Sig) (a : Part) (t : Tree) → IsOver g t ⊎ Has (IsBadNode g) (tree_nodes a t)
  over_or_bad g a (tree.variable v) = inl tt
  over_or_bad g a (tree.public n) = inl tt
  over_or_bad g a (tree.fresh k) = inl tt
  over_or_bad g a (tree.apply f ts) =
      elim (arities (arity_of g f) (length (list_of ts))) as (λ _. IsOver g (tree.apply f ts) ⊎ Has (IsBadNode g) (tree_nodes a (tree.apply f ts))) [
        | inl e ↦ elim (over_or_bads g a ts) as (λ _. IsOver g (tree.apply f ts) ⊎ Has (IsBadNode g) (tree_nodes a (tree.apply f ts))) [
          | inl o ↦ inl (e, o)
          | inr h ↦ inr (has_later (IsBadNode g) (node.symbol a f (length (list_of ts))) (trees_nodes a ts) h)
        ]
        | inr refuted ↦ inr (has_first (IsBadNode g) (node.symbol a f (length (list_of ts))) (trees_nodes a ts) refuted)
      ]

  over_or_bads : (g : Sig) (a : Part) (ts : Trees) → AreOver g ts ⊎ Has (IsBadNode g) (trees_nodes a ts)
  over_or_bads g a none = inl tt
  over_or_bads g a (more t ts) =
      elim (over_or_bad g a t) as (λ _. AreOver g (more t ts) ⊎ Has (IsBadNode g) (trees_nodes a (more t ts))) [
        | inl o ↦ elim (over_or_bads g a ts) as (λ _. AreOver g (more t ts) ⊎ Has (IsBadNode g) (trees_nodes a (more t ts))) [
          | inl os ↦ inl (o, os)
          | inr h ↦ inr (has_right (IsBadNode g) (tree_nodes a t) (trees_nodes a ts) h)
        ]
        | inr h ↦ inr (has_left (IsBadNode g) (tree_nodes a t) (trees_nodes a ts) h)
      ]

applied_badly : (g : Sig) (s : Site) → AppliesBadly g s → Has (IsBadNode g) (head_nodes s.body)
applied_badly g s h = head_has (IsBadNode g) s.body h.term h.stands bad where
  bad : (a : Part) → Has (IsBadNode g) (tree_nodes a h.term)
  bad a = elim (over_or_bad g a h.term) as (λ _. Has (IsBadNode g) (tree_nodes a h.term)) [ inl o ↦ absurd (h.bad o) | inr k ↦ k ]

bad_function : (g : Sig) (s : Site) → AppliesBadly g s ⊎ BindsConstant g s → Has (IsBadNode g) (head_nodes s.body)
bad_function g s (inl h) = applied_badly g s h
bad_function g s (inr h) = binder_has (IsBadNode g) s.body h.var h.stands (h.plain, h.constant)

mutual
  with_destructor : (g : Sig) (t : Tree) → HasDestructor g t → Has (IsDestructorNode g) (tree_nodes Pattern t)
  with_destructor g (tree.variable v) h = absurd h
  with_destructor g (tree.public n) h = absurd h
  with_destructor g (tree.fresh k) h = absurd h
  with_destructor g (tree.apply f ts) (inl e) = has_first (IsDestructorNode g) (node.symbol Pattern f (length (list_of ts))) (trees_nodes Pattern ts) e
  with_destructor g (tree.apply f ts) (inr h) =
      has_later (IsDestructorNode g) (node.symbol Pattern f (length (list_of ts))) (trees_nodes Pattern ts) (with_destructors g ts h)

  with_destructors : (g : Sig) (ts : Trees) → AnyHasDestructor g ts → Has (IsDestructorNode g) (trees_nodes Pattern ts)
  with_destructors g none h = absurd h
  with_destructors g (more t ts) (inl h) = has_left (IsDestructorNode g) (tree_nodes Pattern t) (trees_nodes Pattern ts) (with_destructor g t h)
  with_destructors g (more t ts) (inr h) = has_right (IsDestructorNode g) (tree_nodes Pattern t) (trees_nodes Pattern ts) (with_destructors g ts h)

pattern_destructor : (g : Sig) (s : Site) → HasPatternDestructor g s → Has (IsDestructorNode g) (head_nodes s.body)
pattern_destructor g s h = pattern_has (IsDestructorNode g) s.body h.term h.stands (with_destructor g h.term h.destructor)

-- a variable whose name is reserved
listed_is : (o : Option Var) (v : Var) → Contains (listed o) v → o ≡ Some v
listed_is None v c = absurd (none_of v c)
listed_is (Some w) v c = ap Some (item_cases w v c)

reserved_var : (s : Site) → HasReservedVar s → Has IsReservedVarNode (head_nodes s.body)
reserved_var s h = by (Contains-append_cases (listed (binder s.body)) (terms_vars (head_terms s.body)) h.var h.stands) where
  bound : Contains (listed (binder s.body)) h.var → Has IsReservedVarNode (head_nodes s.body)
  bound k =
      let found = bound_name s.body h.var (listed_is (binder s.body) h.var k) in
      binder_has IsReservedVarNode s.body found.0 found.1 (subst (λ (n : List ℕ). starts_with nat_eq n (codes "sapic_") ≡ true) (sym found.2) h.reserved)

  by : Contains (listed (binder s.body)) h.var ⊎ Contains (terms_vars (head_terms s.body)) h.var → Has IsReservedVarNode (head_nodes s.body)
  by (inl k) = bound k
  by (inr k) = var_has IsReservedVarNode s.body h.var k h.reserved

reserved_fact : (s : Site) → HasReservedFact s → Has IsReservedFactNode (head_nodes s.body)
reserved_fact s h = fact_has IsReservedFactNode s.body h.fact h.stands (λ a. h.reserved)

-- what a filter leaves was there, and so were first occurrences
pub filtered : {X : Type 0} (p : X → Bool) (xs : List X) (x : X) → Contains (filter p xs) x → Contains xs x
filtered p [] x c = c
filtered {X} p (y ∷ ys) x c = by (p y) c (filtered p ys x) where
  by : (b : Bool) → Contains (cond b (y ∷ filter p ys) (filter p ys)) x → (Contains (filter p ys) x → Contains ys x) → Contains (y ∷ ys) x
  by false k later = later_item y ys x (later k)
  by true k later =
      elim (cons_cases y (filter p ys) x k) as (λ _. Contains (y ∷ ys) x) [
        | inl e ↦ subst (λ z. Contains (y ∷ ys) z) e (first_item y ys)
        | inr m ↦ later_item y ys x (later m)
      ]

first_ones : (known : List (List ℕ)) (vs : List Var) (v : Var) → Contains (new_vars known vs) v → Contains vs v
first_ones known [] v c = c
first_ones known (w ∷ ws) v c = by (is_known known w.name) c (first_ones known ws v) (first_ones (known ++ w.name ∷ []) ws v) where
  by : (b : Bool) → Contains (if b then new_vars known ws else w ∷ new_vars (known ++ w.name ∷ []) ws) v → (Contains (new_vars known ws) v → Contains ws v)
      → (Contains (new_vars (known ++ w.name ∷ []) ws) v → Contains ws v) → Contains (w ∷ ws) v
  by true k later after = later_item w ws v (later k)
  by false k later after =
      elim (cons_cases w (new_vars (known ++ w.name ∷ []) ws) v k) as (λ _. Contains (w ∷ ws) v) [
        | inl e ↦ subst (λ z. Contains (w ∷ ws) z) e (first_item w ws)
        | inr m ↦ later_item w ws v (after m)
      ]

-- a variable of a rule's other sides
rule_var : (Q : Node → Type 0) (l e r : List Fact) (v : Var) → Contains (facts_vars (e ++ r)) v → Q (node.variable v) → Has Q (action_nodes (embedded l e r))
rule_var Q l e r v c q =
    let found = in_flat (λ (f : Fact). trees_vars (trees_of f.args)) (e ++ r) v c in
    rule_var_has Q l e r found.0 v (Contains-append_right l (e ++ r) found.0 found.1) found.2 q

used_var : (scope : List Var) (Q : Node → Type 0) (p : Proc) (v : Var) → Contains (unbound_in scope (head_terms p)) v → Q (node.variable v) → Has Q (head_nodes p)
used_var scope Q p v c q = var_has Q p v (filtered (λ (w : Var). not (is_known (var_names scope) w.name)) (terms_vars (head_terms p)) v c) q

-- the channel of an input alone
channel_var : (scope : List Var) (Q : Node → Type 0) (t u : Tree) (p : Proc) (v : Var) → Contains (unbound_in scope (t ∷ [])) v → Q (node.variable v)
    → Has Q (head_nodes (act (receive t u) p))
channel_var scope Q t u p v c q =
    let there = filtered (λ (w : Var). not (is_known (var_names scope) w.name)) (terms_vars (t ∷ [])) v c in
    let found = in_flat tree_vars (t ∷ []) v there in
    var_has Q (act (receive t u) p) v
    (Contains-append_left (tree_vars t) (terms_vars (u ∷ [])) v
    (subst (λ z. Contains (tree_vars z) v) (sym (item_cases t found.0 found.1)) found.2)) q

unbound_var : (scope : List Var) (Q : Node → Type 0) (p : Proc) (v : Var) → Contains (unbound scope p) v → Q (node.variable v) → Has Q (head_nodes p)
unbound_var scope Q nil v c q = absurd (none_of v c)
unbound_var scope Q (parallel p r) v c q = absurd (none_of v c)
unbound_var scope Q (replicated p) v c q = absurd (none_of v c)
unbound_var scope Q (act (new x) p) v c q = absurd (none_of v c)
unbound_var scope Q (act (out t) p) v c q = used_var scope Q (act (out t) p) v c q
unbound_var scope Q (act (send t u) p) v c q = used_var scope Q (act (send t u) p) v c q
unbound_var scope Q (act (input t) p) v c q = absurd (none_of v c)
unbound_var scope Q (act (receive t u) p) v c q = channel_var scope Q t u p v c q
unbound_var scope Q (act (event f) p) v c q = used_var scope Q (act (event f) p) v c q
unbound_var scope Q (act (insert t u) p) v c q = used_var scope Q (act (insert t u) p) v c q
unbound_var scope Q (act (delete t) p) v c q = used_var scope Q (act (delete t) p) v c q
unbound_var scope Q (act (lock t n) p) v c q = used_var scope Q (act (lock t n) p) v c q
unbound_var scope Q (act (unlock t n) p) v c q = used_var scope Q (act (unlock t n) p) v c q
unbound_var scope Q (act (embedded l e r) p) v c q =
    rule_var Q l e r v
    (first_ones (var_names (scope ++ facts_vars l)) (facts_vars (e ++ r)) v
    (filtered (λ (w : Var). not (same_sort w.sort Pub)) (new_vars (var_names (scope ++ facts_vars l)) (facts_vars (e ++ r))) v c)) q
unbound_var scope Q (test t u p r) v c q = used_var scope Q (test t u p r) v c q
unbound_var scope Q (lookup t x p r) v c q = used_var scope Q (lookup t x p r) v c q

some_item : {X : Type 0} (xs : List X) → ¬ (xs ≡ []) → (x : X) × Contains xs x
some_item [] refuted = absurd (refuted refl)
some_item (x ∷ xs) refuted = (x, first_item x xs)

not_bound : (s : Site) → ¬ (unbound s.above.scope s.body ≡ []) → Has (IsUnboundNode s) (head_nodes s.body)
not_bound s h =
    let found = some_item (unbound s.above.scope s.body) h in
    unbound_var s.above.scope (IsUnboundNode s) s.body found.0 found.1 found.1

bound_again : (s : Site) → Rebinds s → Has (IsReboundNode s) (head_nodes s.body)
bound_again s h =
    let found = bound_name s.body h.var h.stands in
    binder_has (IsReboundNode s) s.body found.0 found.1 (subst (λ (n : List ℕ). is_known (var_names s.above.scope) n ≡ true) (sym found.2) h.in_scope)

other_sign : (s : Site) → HasSortClash s → Has (IsOtherSignNode s) (head_nodes s.body)
other_sign s h =
    var_has (IsOtherSignNode s) s.body h.var h.stands (record { signed = h.signed; bound = h.bound; binder = h.binder; other = h.other })

-- where it stands
placed : (Q : Node → Type 0) (ns : List Node) → Has Q ns → (k : ℕ) × (n : Node) × (slice_get ns k ≡ Some n) × Q n
placed Q ns h = let at = got_contained ns h.0 h.1 in (at.0, h.0, at.1, h.2)

-- a node of the head has the flaw
flawed_node : (g : Sig) (before : List Site) (s : Site) (w : Flaw) → IsOfHead w → HasFlaw g before s w
    → (k : ℕ) × (n : Node) × (slice_get (head_nodes s.body) k ≡ Some n) × IsFlawedNode g before s w (take k (head_nodes s.body)) n
flawed_node g before s BadFunction o h = placed (IsBadNode g) (head_nodes s.body) (bad_function g s h)
flawed_node g before s ReservedVar o h = placed IsReservedVarNode (head_nodes s.body) (reserved_var s h)
flawed_node g before s ReservedFact o h = placed IsReservedFactNode (head_nodes s.body) (reserved_fact s h)
flawed_node g before s FactClash o h = clashing_node before s h
flawed_node g before s PatternDestructor o h = placed (IsDestructorNode g) (head_nodes s.body) (pattern_destructor g s h)
flawed_node g before s Unbound o h = placed (IsUnboundNode s) (head_nodes s.body) (not_bound s h)
flawed_node g before s Rebound o h = placed (IsReboundNode s) (head_nodes s.body) (bound_again s h)
flawed_node g before s SortClash o h = placed (IsOtherSignNode s) (head_nodes s.body) (other_sign s h)
flawed_node g before s ScopeFull o h = absurd o

pub some_node : (g : Sig) (before : List Site) (s : Site) (w : Flaw) → IsOfHead w → HasFlaw g before s w → (k : ℕ) × IsNodeOf g before s w k
some_node g before s w o h =
    let found = flawed_node g before s w o h in
    let first = least (IsFlawedAt g before s w) (flawed_at g before s w) found.0 (record { node = found.1; stands = found.2; flaw = found.3 }) in
    (first.0, record { here = first.1.0; first = first.1.1 })
