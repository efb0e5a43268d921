-- Where what a head binds stands.
use Rattle.std.proofs.Common.{◌≡◌, ℕ, ◌+◌, ◌<◌, List, [], ◌∷◌, ◌++◌, Bool, true, false, Some, None, inl, inr, arith, length, refl, sym, ap, subst, ◌∙◌}
use Rattle.std.specs.Prelude.{Contains, min, slice_get, if◌then◌else◌}
use Rattle.std.proofs.lemmas.List.{length-append}
use Rattle.std.proofs.lemmas.List.Elements.{Contains-append_cases}
use Rattle.sap_terms.specs.Signature.{Sig}
use Rattle.sap_terms.specs.Tree as tree
use Rattle.sap_terms.specs.Tree.{Tree, Trees, none, more, node_count, trees_count}
use Rattle.sap_terms.specs.Variables.{is_known}
use Rattle.sap_terms.specs.declared.fact.Fact.{Fact}
use Rattle.sap_terms.specs.declared.var.Var.{Var}
use Rattle.sap_terms.proofs.PlainLaws.Items.{item_cases, cons_cases, contains_got}
use Rattle.sap_process.specs.Action.{Action, new, out, send, input, receive, event, insert, delete, lock, unlock, embedded}
use Rattle.sap_process.specs.Proc.{Proc, nil, parallel, replicated, act, test, lookup}
use Rattle.sap_process.specs.Sites.{Site, var_names, message_var}
use Rattle.sap_process.specs.declared.flaw.Flaw.TheVariants.{Rebound}
use Rattle.sap_nodes.specs.HeadNodes.{Node, binder, variable, public, fresh, symbol, fact, tree_nodes, trees_nodes, fact_nodes, facts_nodes, head_nodes}
use Rattle.sap_nodes.specs.FlawNodes.{IsReboundNode, IsFlawedAt, IsTold}
use Rattle.sap_nodes.specs.code.Rebound.{action_binder_at, binder_at}
use Rattle.sap_nodes.specs.code.Searches.{most}
use Rattle.sap_nodes.specs.declared.part.Part.{Part}
use Rattle.sap_nodes.specs.declared.part.Part.TheVariants.{Pattern, Shown, Given}
use Rattle.sap_nodes.proofs.HeadMembers.{none_of, in_flat}
use Rattle.sap_nodes.proofs.UnboundTold.{back_got, got_cases}

-- nothing is bound in terms and facts
mutual
  none_bound : (s : Site) (a : Part) (t : Tree) (n : Node) → Contains (tree_nodes a t) n → IsReboundNode s n → ⊥
  none_bound s a (tree.variable v) n c h = subst (IsReboundNode s) (sym (item_cases (variable v) n c)) h
  none_bound s a (tree.public k) n c h = subst (IsReboundNode s) (sym (item_cases (public k) n c)) h
  none_bound s a (tree.fresh k) n c h = subst (IsReboundNode s) (sym (item_cases (fresh k) n c)) h
  none_bound s a (tree.apply f ts) n c h =
      elim (cons_cases (symbol a f _) (trees_nodes a ts) n c) as (λ _. ⊥) [ inl e ↦ subst (IsReboundNode s) (sym e) h | inr k ↦ none_bounds s a ts n k h ]

  none_bounds : (s : Site) (a : Part) (ts : Trees) (n : Node) → Contains (trees_nodes a ts) n → IsReboundNode s n → ⊥
  none_bounds s a none n c h = none_of n c
  none_bounds s a (more t ts) n c h =
      elim (Contains-append_cases (tree_nodes a t) (trees_nodes a ts) n c) as (λ _. ⊥) [ inl k ↦ none_bound s a t n k h | inr k ↦ none_bounds s a ts n k h ]

fact_none : (s : Site) (a : Part) (f : Fact) (n : Node) → Contains (fact_nodes a f) n → IsReboundNode s n → ⊥
fact_none s a f n c h =
    elim (cons_cases (fact a f) (trees_nodes a (tree.trees_of f.args)) n c) as (λ _. ⊥) [
      | inl e ↦ subst (IsReboundNode s) (sym e) h
      | inr k ↦ none_bounds s a (tree.trees_of f.args) n k h
    ]

facts_none : (s : Site) (a : Part) (fs : List Fact) (n : Node) → Contains (facts_nodes a fs) n → IsReboundNode s n → ⊥
facts_none s a fs n c h = let found = in_flat (fact_nodes a) fs n c in fact_none s a found.0 n found.2 h

-- none of these nodes binds
abbrev Clear : Site → List Node → Type 0
Clear s ns = (n : Node) → Contains ns n → IsReboundNode s n → ⊥

both_clear : (s : Site) (ms ns : List Node) → Clear s ms → Clear s ns → Clear s (ms ++ ns)
both_clear s ms ns c d n k h = elim (Contains-append_cases ms ns n k) as (λ _. ⊥) [ inl m ↦ c n m h | inr m ↦ d n m h ]

-- nothing is told where none binds
clear_told : (g : Sig) (before : List Site) (s : Site) → Clear s (head_nodes s.body) → IsTold g before s Rebound None
clear_told g before s c k h = c h.here.node (contains_got (head_nodes s.body) h.here.node k h.here.stands) h.here.flaw

-- behind nodes that don't bind stands what is bound
last_told : (g : Sig) (before : List Site) (s : Site) (front : List Node) (v : Var) (b : Bool) → head_nodes s.body ≡ front ++ binder v ∷ [] → Clear s front
    → is_known (var_names s.above.scope) v.name ≡ b → IsTold g before s Rebound (if b then Some (min (length front) most) else None)
last_told g before s front v false e c d = clear_told g before s (subst (Clear s) (sym e) (both_clear s front (binder v ∷ []) c only)) where
  only : (n : Node) → Contains (binder v ∷ []) n → IsReboundNode s n → ⊥
  only n k h = let known : is_known (var_names s.above.scope) v.name ≡ true = subst (IsReboundNode s) (sym (item_cases (binder v) n k)) h in cc
last_told g before s front v true e c d = told (back_got front (binder v ∷ []) 0 (binder v) refl) where
  earlier : (k j : ℕ) → k ≡ length front + 0 → j < k → IsFlawedAt g before s Rebound j → ⊥
  earlier k j is l h =
      elim (got_cases front (binder v ∷ []) j h.node (sym (ap (λ ns. slice_get ns j) e) ∙ h.stands)) as (λ _. ⊥) [
        | inl there ↦ c h.node there h.flaw
        | inr behind ↦ let at = behind.1 in omega (arith, is, l, at)
      ]

  told : (k : ℕ) × (k ≡ length front + 0) × (slice_get (front ++ binder v ∷ []) k ≡ Some (binder v)) → IsTold g before s Rebound (Some (min (length front) most))
  told r = (
    r.0,
    record {
      here = record { node = binder v; stands = ap (λ ns. slice_get ns r.0) e ∙ r.2; flaw = d };
      first = λ j. earlier r.0 j r.1;
    },
    let is = r.1 in omega (arith, is),
  )

-- as many nodes stand for a term as it has
mutual
  pub counted : (a : Part) (t : Tree) → length (tree_nodes a t) ≡ node_count t
  counted a (tree.variable v) = refl
  counted a (tree.public n) = refl
  counted a (tree.fresh k) = refl
  counted a (tree.apply f ts) = let rest = counted_all a ts in omega (arith, rest)

  counted_all : (a : Part) (ts : Trees) → length (trees_nodes a ts) ≡ trees_count ts
  counted_all a none = refl
  counted_all a (more t ts) =
      let here = counted a t in let rest = counted_all a ts in let long = length-append (tree_nodes a t) (trees_nodes a ts) in omega (arith, here, rest, long)

told_clear : (g : Sig) (before : List Site) (s : Site) (ns : List Node) → head_nodes s.body ≡ ns → Clear s ns → IsTold g before s Rebound None
told_clear g before s ns e c = clear_told g before s (subst (Clear s) (sym e) c)

two_clear : (s : Site) (a b : Part) (t u : Tree) → Clear s (tree_nodes a t ++ tree_nodes b u)
two_clear s a b t u = both_clear s (tree_nodes a t) (tree_nodes b u) (none_bound s a t) (none_bound s b u)

told_action : (g : Sig) (before : List Site) (s : Site) (x : Action) (p : Proc) → s.body ≡ act x p → IsTold g before s Rebound (action_binder_at s.above.scope x)
told_action g before s (new v) p e = last_told g before s [] v (is_known (var_names s.above.scope) v.name) (ap head_nodes e) (λ n k h. none_of n k) refl
told_action g before s (out t) p e = told_clear g before s (tree_nodes Given t) (ap head_nodes e) (none_bound s Given t)
told_action g before s (send t u) p e = told_clear g before s (tree_nodes Given t ++ tree_nodes Given u) (ap head_nodes e) (two_clear s Given Given t u)
told_action g before s (input t) p e = told_clear g before s (tree_nodes Pattern t) (ap head_nodes e) (none_bound s Pattern t)
told_action g before s (receive t u) p e = told_clear g before s (tree_nodes Given t ++ tree_nodes Pattern u) (ap head_nodes e) (two_clear s Given Pattern t u)
told_action g before s (event f) p e = told_clear g before s (fact_nodes Shown f) (ap head_nodes e) (fact_none s Shown f)
told_action g before s (insert t u) p e = told_clear g before s (tree_nodes Given t ++ tree_nodes Given u) (ap head_nodes e) (two_clear s Given Given t u)
told_action g before s (delete t) p e = told_clear g before s (tree_nodes Given t) (ap head_nodes e) (none_bound s Given t)
told_action g before s (lock t n) p e = told_clear g before s (tree_nodes Given t) (ap head_nodes e) (none_bound s Given t)
told_action g before s (unlock t n) p e = told_clear g before s (tree_nodes Given t) (ap head_nodes e) (none_bound s Given t)
told_action g before s (embedded l m r) p e =
    told_clear g before s (facts_nodes Pattern l ++ (facts_nodes Shown m ++ facts_nodes Given r)) (ap head_nodes e)
    (both_clear s (facts_nodes Pattern l) (facts_nodes Shown m ++ facts_nodes Given r) (facts_none s Pattern l)
    (both_clear s (facts_nodes Shown m) (facts_nodes Given r) (facts_none s Shown m) (facts_none s Given r)))

told_head : (g : Sig) (before : List Site) (s : Site) (p : Proc) → s.body ≡ p → IsTold g before s Rebound (binder_at s.above.scope p)
told_head g before s nil e = told_clear g before s [] (ap head_nodes e) (λ n k h. none_of n k)
told_head g before s (parallel p q) e = told_clear g before s [] (ap head_nodes e) (λ n k h. none_of n k)
told_head g before s (replicated p) e = told_clear g before s [] (ap head_nodes e) (λ n k h. none_of n k)
told_head g before s (act x p) e = told_action g before s x p e
told_head g before s (test t u p q) e = told_clear g before s (tree_nodes Given t ++ tree_nodes Given u) (ap head_nodes e) (two_clear s Given Given t u)
told_head g before s (lookup t x p q) e =
    subst (λ k. IsTold g before s Rebound (if is_known (var_names s.above.scope) x.name then Some (min k most) else None)) (counted Given t)
    (last_told g before s (tree_nodes Given t) (message_var x) (is_known (var_names s.above.scope) x.name) (ap head_nodes e) (none_bound s Given t) refl)

pub rebound_told : (g : Sig) (before : List Site) (s : Site) (p : Proc) (scope : List Var) → s.body ≡ p → s.above.scope ≡ scope
    → IsTold g before s Rebound (binder_at scope p)
rebound_told g before s p scope e d = subst (λ (vs : List Var). IsTold g before s Rebound (binder_at vs p)) d (told_head g before s p e)
