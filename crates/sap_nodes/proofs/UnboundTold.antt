-- A search for a variable that nothing binds tells of which node the flaw speaks.
use Rattle.std.proofs.Common.{◌≡◌, ℕ, zero, suc, ◌+◌, ◌<◌, List, [], ◌∷◌, ◌++◌, Bool, true, Some, None, inl, inr, arith, length, refl, sym, ap, subst, ◌∙◌}
use Rattle.std.specs.Prelude.{◌⊎◌, Contains, min, slice_get, if◌then◌else◌}
use Rattle.std.specs.List.{flat_map}
use Rattle.std.proofs.lemmas.List.{append-nil}
use Rattle.std.proofs.lemmas.List.Concat.{flat_map-append}
use Rattle.std.proofs.lemmas.List.Elements.{Contains-append_right}
use Rattle.sap_terms.specs.Signature.{Sig}
use Rattle.sap_terms.specs.Tree as tree
use Rattle.sap_terms.specs.Tree.{Tree, Trees, none, more, trees_of}
use Rattle.sap_terms.specs.Variables.{tree_vars, trees_vars, facts_vars}
use Rattle.sap_terms.specs.declared.fact.Fact.{Fact}
use Rattle.sap_terms.specs.declared.var.Var.{Var}
use Rattle.sap_terms.proofs.PlainLaws.Items.{first_item, later_item, cons_cases}
use Rattle.sap_process.specs.Action.{Action, new, out, send, input, receive, event, insert, delete, lock, unlock, embedded}
use Rattle.sap_process.specs.Flaws.{unbound}
use Rattle.sap_process.specs.Heads.{terms_vars}
use Rattle.sap_process.specs.Proc.{Proc, nil, parallel, replicated, act, test, lookup}
use Rattle.sap_process.specs.Sites.{Site, var_names}
use Rattle.sap_process.specs.declared.flaw.Flaw.TheVariants.{Unbound}
use Rattle.sap_nodes.specs.HeadNodes.{Node, binder, variable, public, fresh, symbol, fact, tree_nodes, trees_nodes, fact_nodes, facts_nodes, head_nodes}
use Rattle.sap_nodes.specs.FlawNodes.{IsUnboundNode, IsFlawedAt, IsTold}
use Rattle.sap_nodes.specs.code.Searches.{most, at_first, found_at}
use Rattle.sap_nodes.specs.code.Trails.{met_all, head_met}
use Rattle.sap_nodes.specs.declared.finding.Search.{Search}
use Rattle.sap_nodes.specs.declared.part.Part.{Part}
use Rattle.sap_nodes.specs.declared.part.Part.TheVariants.{Pattern, Shown, Given}
use Rattle.sap_nodes.specs.declared.trail.How.TheVariants.{Taken, Ruled, Used}
use Rattle.sap_nodes.proofs.HeadMembers.{none_of}
use Rattle.sap_nodes.proofs.UnboundLemmas.{vars_of, Hit, Miss, unknown, unsigned_new, searched, new_known_not, trail_of, outcome_used, outcome_rule, behind_left}

-- the node is a variable
is_var : (s : Site) (n : Node) → IsUnboundNode s n → (v : Var) × (n ≡ variable v) × Contains (unbound s.above.scope s.body) v
is_var s (variable v) h = (v, refl, h)
is_var s (binder v) h = absurd h
is_var s (public n) h = absurd h
is_var s (fresh k) h = absurd h
is_var s (symbol a f k) h = absurd h
is_var s (fact a f) h = absurd h

-- nothing is told where there is no such variable
missed : (g : Sig) (before : List Site) (s : Site) (free : List Var) (r : Search) → unbound s.above.scope s.body ≡ free → Miss free r
    → IsTold g before s Unbound (found_at r)
missed g before s free r e m = subst (IsTold g before s Unbound) (sym (ap (λ (b : Bool). if b then Some r.at else None) m.found)) (λ k h. nothing k h.here) where
  nothing : (k : ℕ) → IsFlawedAt g before s Unbound k → ⊥
  nothing k h = let v = is_var s h.node h.flaw in none_of v.0 (subst (λ vs. Contains vs v.0) (e ∙ m.nothing) v.2)

-- the node at this index is told, where it is the first one
hit : (g : Sig) (before : List Site) (s : Site) (free : List Var) (r : Search) (k : ℕ) (v : Var) → unbound s.above.scope s.body ≡ free
    → slice_get (head_nodes s.body) k ≡ Some (variable v) → Contains free v
    → ((j : ℕ) (u : Var) → j < k → slice_get (head_nodes s.body) j ≡ Some (variable u) → Contains free u → ⊥)
    → r.found ≡ true → r.at ≡ min k most → IsTold g before s Unbound (found_at r)
hit g before s free r k v e stands is first found counted =
    subst (IsTold g before s Unbound) (sym (ap (λ (b : Bool). if b then Some r.at else None) found)) (
      k,
      record {
        here = record { node = variable v; stands = stands; flaw = subst (λ vs. Contains vs v) (sym e) is };
        first = earlier;
      },
      counted,
    )
  where
    earlier : (j : ℕ) → j < k → IsFlawedAt g before s Unbound j → ⊥
    earlier j l h =
        let u = is_var s h.node h.flaw in
        first j u.0 l (h.stands ∙ ap Some u.1) (subst (λ vs. Contains vs u.0) e u.2)

-- items of the front of a list, and behind it
pub front_got : (xs ys : List Node) (k : ℕ) (x : Node) → slice_get xs k ≡ Some x → slice_get (xs ++ ys) k ≡ Some x
front_got [] ys k x e = cc
front_got (z ∷ zs) ys zero x e = e
front_got (z ∷ zs) ys (suc k) x e = front_got zs ys k x e

pub front_same : (xs ys : List Node) (k : ℕ) (x : Node) → slice_get xs k ≡ Some x → (j : ℕ) → j < k → slice_get (xs ++ ys) j ≡ slice_get xs j
front_same [] ys k x e j l = cc
front_same (z ∷ zs) ys zero x e j l = absurd (omega (arith, l))
front_same (z ∷ zs) ys (suc k) x e zero l = refl
front_same (z ∷ zs) ys (suc k) x e (suc j) l = front_same zs ys k x e j (omega (arith, l))

pub back_got : (xs ys : List Node) (k : ℕ) (x : Node) → slice_get ys k ≡ Some x → (i : ℕ) × (i ≡ length xs + k) × (slice_get (xs ++ ys) i ≡ Some x)
back_got [] ys k x e = (k, omega arith, e)
back_got (z ∷ zs) ys k x e = let later = back_got zs ys k x e in let is = later.1 in (suc later.0, omega (arith, is), later.2)

pub got_cases : (xs ys : List Node) (i : ℕ) (x : Node) → slice_get (xs ++ ys) i ≡ Some x → Contains xs x ⊎ ((j : ℕ) × (i ≡ length xs + j) × (slice_get ys j ≡ Some x))
got_cases [] ys i x e = inr (i, omega arith, e)
got_cases (z ∷ zs) ys zero x e = inl (subst (λ n. Contains (z ∷ zs) n) (same z x e) (first_item z zs)) where
  same : (m n : Node) → Some m ≡ Some n → m ≡ n
  same m n d = cc
got_cases (z ∷ zs) ys (suc i) x e = by (got_cases zs ys i x e) where
  by : Contains zs x ⊎ ((j : ℕ) × (i ≡ length zs + j) × (slice_get ys j ≡ Some x)) → Contains (z ∷ zs) x ⊎ ((j : ℕ) × (suc i ≡ length (z ∷ zs) + j) × (slice_get ys j ≡ Some x))
  by (inl c) = inl (later_item z zs x c)
  by (inr h) = let is = h.1 in inr (h.0, omega (arith, is), h.2)

-- of what is evaluated before anything is bound
told_used : (g : Sig) (before : List Site) (s : Site) (used rest : List Node) → head_nodes s.body ≡ used ++ rest
    → unbound s.above.scope s.body ≡ unknown s.above.scope (flat_map vars_of used) → IsTold g before s Unbound (found_at (searched Used s.above.scope 0 used))
told_used g before s used rest e free = by (outcome_used s.above.scope used 0 (omega arith)) where
  by : Hit (unknown s.above.scope (flat_map vars_of used)) used 0 (searched Used s.above.scope 0 used)
      ⊎ Miss (unknown s.above.scope (flat_map vars_of used)) (searched Used s.above.scope 0 used)
      → IsTold g before s Unbound (found_at (searched Used s.above.scope 0 used))
  by (inr m) = missed g before s (unknown s.above.scope (flat_map vars_of used)) (searched Used s.above.scope 0 used) free m
  by (inl h) = hit g before s (unknown s.above.scope (flat_map vars_of used)) (searched Used s.above.scope 0 used) h.place h.var free
      (ap (λ ns. slice_get ns h.place) e ∙ front_got used rest h.place (variable h.var) h.stands) h.is
      (λ j u l k c. h.first j u l (sym (front_same used rest h.place (variable h.var) h.stands j l) ∙ sym (ap (λ ns. slice_get ns j) e) ∙ k) c)
      h.found (let n = h.counted in omega (arith, n))

-- the variable of a node is one of theirs
pub var_in : (ns : List Node) (v : Var) → Contains ns (variable v) → Contains (flat_map vars_of ns) v
var_in [] v c = absurd (none_of (variable v) c)
var_in (n ∷ ns) v c = by (cons_cases n ns (variable v) c) (var_in ns v) where
  by : (n ≡ variable v) ⊎ Contains ns (variable v) → (Contains ns (variable v) → Contains (flat_map vars_of ns) v) → Contains (vars_of n ++ flat_map vars_of ns) v
  by (inl e) later = subst (λ m. Contains (vars_of m ++ flat_map vars_of ns) v) (sym e) (first_item v (flat_map vars_of ns))
  by (inr k) later = Contains-append_right (vars_of n) (flat_map vars_of ns) v (later k)

-- of the other sides of an embedded rule
told_rule : (g : Sig) (before : List Site) (s : Site) (left right : List Node) → head_nodes s.body ≡ left ++ right
    → unbound s.above.scope s.body ≡ unsigned_new (var_names (s.above.scope ++ flat_map vars_of left)) (flat_map vars_of right)
    → IsTold g before s Unbound (found_at (searched Ruled (s.above.scope ++ flat_map vars_of left) (min (0 + length left) most) right))
told_rule g before s left right e free = by (outcome_rule (s.above.scope ++ flat_map vars_of left) right (min (0 + length left) most) (omega arith)) where
  known : (u : Var) → Contains left (variable u) → Contains (unsigned_new (var_names (s.above.scope ++ flat_map vars_of left)) (flat_map vars_of right)) u → ⊥
  known u l c = new_known_not (s.above.scope ++ flat_map vars_of left) (flat_map vars_of right) u
      (Contains-append_right s.above.scope (flat_map vars_of left) u (var_in left u l)) c

  by : Hit (unsigned_new (var_names (s.above.scope ++ flat_map vars_of left)) (flat_map vars_of right)) right (min (0 + length left) most)
      (searched Ruled (s.above.scope ++ flat_map vars_of left) (min (0 + length left) most) right)
      ⊎ Miss (unsigned_new (var_names (s.above.scope ++ flat_map vars_of left)) (flat_map vars_of right))
      (searched Ruled (s.above.scope ++ flat_map vars_of left) (min (0 + length left) most) right)
      → IsTold g before s Unbound (found_at (searched Ruled (s.above.scope ++ flat_map vars_of left) (min (0 + length left) most) right))
  by (inr m) = missed g before s (unsigned_new (var_names (s.above.scope ++ flat_map vars_of left)) (flat_map vars_of right))
      (searched Ruled (s.above.scope ++ flat_map vars_of left) (min (0 + length left) most) right) free m
  by (inl h) =
      let at = back_got left right h.place (variable h.var) h.stands in
      let is = at.1 in
      let n = h.counted in
      hit g before s (unsigned_new (var_names (s.above.scope ++ flat_map vars_of left)) (flat_map vars_of right))
      (searched Ruled (s.above.scope ++ flat_map vars_of left) (min (0 + length left) most) right) at.0 h.var free
      (ap (λ ns. slice_get ns at.0) e ∙ at.2) h.is
      (earlier h.place at.0 is h.first) h.found (omega (arith, is, n))
    where
      earlier : (p i : ℕ) → i ≡ length left + p
          → ((j : ℕ) (u : Var) → j < p → slice_get right j ≡ Some (variable u) → Contains (unsigned_new (var_names (s.above.scope ++ flat_map vars_of left)) (flat_map vars_of right)) u → ⊥)
          → (j : ℕ) (u : Var) → j < i → slice_get (head_nodes s.body) j ≡ Some (variable u)
          → Contains (unsigned_new (var_names (s.above.scope ++ flat_map vars_of left)) (flat_map vars_of right)) u → ⊥
      earlier p i is first j u l k c =
          elim (got_cases left right j (variable u) (sym (ap (λ ns. slice_get ns j) e) ∙ k)) as (λ _. ⊥) [
            | inl there ↦ known u there c
            | inr behind ↦ let at = behind.1 in first behind.0 u (omega (arith, is, l, at)) behind.2 c
          ]

-- the variables of nodes

mutual
  pub tree_variables : (a : Part) (t : Tree) → flat_map vars_of (tree_nodes a t) ≡ tree_vars t
  tree_variables a (tree.variable v) = refl
  tree_variables a (tree.public n) = refl
  tree_variables a (tree.fresh k) = refl
  tree_variables a (tree.apply f ts) = trees_variables a ts

  trees_variables : (a : Part) (ts : Trees) → flat_map vars_of (trees_nodes a ts) ≡ trees_vars ts
  trees_variables a none = refl
  trees_variables a (more t ts) =
      flat_map-append vars_of (tree_nodes a t) (trees_nodes a ts) ∙ ap (λ vs. vs ++ flat_map vars_of (trees_nodes a ts)) (tree_variables a t)
      ∙ ap (λ vs. tree_vars t ++ vs) (trees_variables a ts)

list_variables : (a : Part) (ts : List Tree) → flat_map vars_of (trees_nodes a (trees_of ts)) ≡ terms_vars ts
list_variables a [] = refl
list_variables a (t ∷ ts) =
    flat_map-append vars_of (tree_nodes a t) (trees_nodes a (trees_of ts)) ∙ ap (λ vs. vs ++ flat_map vars_of (trees_nodes a (trees_of ts))) (tree_variables a t)
    ∙ ap (λ vs. tree_vars t ++ vs) (list_variables a ts)

pub facts_variables : (a : Part) (fs : List Fact) → flat_map vars_of (facts_nodes a fs) ≡ facts_vars fs
facts_variables a [] = refl
facts_variables a (f ∷ fs) =
    flat_map-append vars_of (fact_nodes a f) (facts_nodes a fs) ∙ ap (λ vs. vs ++ flat_map vars_of (facts_nodes a fs)) (trees_variables a (trees_of f.args))
    ∙ ap (λ vs. trees_vars (trees_of f.args) ++ vs) (facts_variables a fs)

one_variables : (t : Tree) → terms_vars (t ∷ []) ≡ flat_map vars_of (tree_nodes Given t)
one_variables t = append-nil (tree_vars t) ∙ sym (tree_variables Given t)

two_variables : (t u : Tree) → terms_vars (t ∷ u ∷ []) ≡ flat_map vars_of (tree_nodes Given t ++ tree_nodes Given u)
two_variables t u =
    ap (λ vs. tree_vars t ++ vs) (append-nil (tree_vars u) ∙ sym (tree_variables Given u)) ∙ ap (λ vs. vs ++ flat_map vars_of (tree_nodes Given u)) (sym (tree_variables Given t))
    ∙ sym (flat_map-append vars_of (tree_nodes Given t) (tree_nodes Given u))

pub other_variables : (e r : List Fact) → facts_vars (e ++ r) ≡ flat_map vars_of (facts_nodes Shown e ++ facts_nodes Given r)
other_variables e r =
    flat_map-append (λ (f : Fact). trees_vars (trees_of f.args)) e r ∙ ap (λ vs. vs ++ facts_vars r) (sym (facts_variables Shown e))
    ∙ ap (λ vs. flat_map vars_of (facts_nodes Shown e) ++ vs) (sym (facts_variables Given r)) ∙ sym (flat_map-append vars_of (facts_nodes Shown e) (facts_nodes Given r))

-- a site with this process and scope
abbrev Told : Sig → List Site → Site → Proc → Type 0
Told g before s p = IsTold g before s Unbound (found_at (head_met (trail_of s.above.scope 0) p).search)

one_told : (g : Sig) (before : List Site) (s : Site) (t : Tree) (rest : List Node) → head_nodes s.body ≡ tree_nodes Given t ++ rest
    → unbound s.above.scope s.body ≡ unknown s.above.scope (terms_vars (t ∷ [])) → IsTold g before s Unbound (found_at (searched Used s.above.scope 0 (tree_nodes Given t)))
one_told g before s t rest e free = told_used g before s (tree_nodes Given t) rest e (free ∙ ap (unknown s.above.scope) (one_variables t))

two_told : (g : Sig) (before : List Site) (s : Site) (t u : Tree) → head_nodes s.body ≡ tree_nodes Given t ++ tree_nodes Given u
    → unbound s.above.scope s.body ≡ unknown s.above.scope (terms_vars (t ∷ u ∷ []))
    → IsTold g before s Unbound (found_at (searched Used s.above.scope 0 (tree_nodes Given t ++ tree_nodes Given u)))
two_told g before s t u e free =
    told_used g before s (tree_nodes Given t ++ tree_nodes Given u) [] (e ∙ sym (append-nil (tree_nodes Given t ++ tree_nodes Given u)))
    (free ∙ ap (unknown s.above.scope) (two_variables t u))

rule_told : (g : Sig) (before : List Site) (s : Site) (l e r : List Fact)
    → head_nodes s.body ≡ facts_nodes Pattern l ++ (facts_nodes Shown e ++ facts_nodes Given r)
    → unbound s.above.scope s.body ≡ unsigned_new (var_names (s.above.scope ++ facts_vars l)) (facts_vars (e ++ r))
    → IsTold g before s Unbound
    (found_at (met_all Ruled (met_all Taken (trail_of s.above.scope 0) (facts_nodes Pattern l)) (facts_nodes Shown e ++ facts_nodes Given r)).search)
rule_told g before s l e r nodes free =
    subst (λ a. IsTold g before s Unbound (found_at (met_all Ruled a (facts_nodes Shown e ++ facts_nodes Given r)).search))
    (sym (behind_left s.above.scope (facts_nodes Pattern l) 0 (omega arith)))
    (told_rule g before s (facts_nodes Pattern l) (facts_nodes Shown e ++ facts_nodes Given r) nodes
    (free ∙ ap (λ vs. unsigned_new (var_names (s.above.scope ++ vs)) (facts_vars (e ++ r))) (sym (facts_variables Pattern l))
    ∙ ap (unsigned_new (var_names (s.above.scope ++ flat_map vars_of (facts_nodes Pattern l)))) (other_variables e r)))

same_free : (s : Site) (p : Proc) → s.body ≡ p → unbound s.above.scope s.body ≡ unbound s.above.scope p
same_free s p e = ap (unbound s.above.scope) e

told_action : (g : Sig) (before : List Site) (s : Site) (x : Action) (p : Proc) → s.body ≡ act x p → Told g before s (act x p)
told_action g before s (new x) p e = told_used g before s [] (binder x ∷ []) (ap head_nodes e) (same_free s _ e)
told_action g before s (out t) p e = one_told g before s t [] (ap head_nodes e ∙ sym (append-nil (tree_nodes Given t))) (same_free s _ e)
told_action g before s (send t u) p e = two_told g before s t u (ap head_nodes e) (same_free s _ e)
told_action g before s (input t) p e = told_used g before s [] (tree_nodes Pattern t) (ap head_nodes e) (same_free s _ e)
told_action g before s (receive t u) p e = one_told g before s t (tree_nodes Pattern u) (ap head_nodes e) (same_free s _ e)
told_action g before s (event f) p e =
    told_used g before s (fact_nodes Shown f) [] (ap head_nodes e ∙ sym (append-nil (fact_nodes Shown f)))
    (same_free s _ e ∙ ap (unknown s.above.scope) (sym (list_variables Shown f.args)))
told_action g before s (insert t u) p e = two_told g before s t u (ap head_nodes e) (same_free s _ e)
told_action g before s (delete t) p e = one_told g before s t [] (ap head_nodes e ∙ sym (append-nil (tree_nodes Given t))) (same_free s _ e)
told_action g before s (lock t n) p e = one_told g before s t [] (ap head_nodes e ∙ sym (append-nil (tree_nodes Given t))) (same_free s _ e)
told_action g before s (unlock t n) p e = one_told g before s t [] (ap head_nodes e ∙ sym (append-nil (tree_nodes Given t))) (same_free s _ e)
told_action g before s (embedded l m r) p e = rule_told g before s l m r (ap head_nodes e) (same_free s _ e)

told_head : (g : Sig) (before : List Site) (s : Site) (p : Proc) → s.body ≡ p → Told g before s p
told_head g before s nil e = told_used g before s [] [] (ap head_nodes e) (same_free s _ e)
told_head g before s (parallel p q) e = told_used g before s [] [] (ap head_nodes e) (same_free s _ e)
told_head g before s (replicated p) e = told_used g before s [] [] (ap head_nodes e) (same_free s _ e)
told_head g before s (act x p) e = told_action g before s x p e
told_head g before s (test t u p q) e = two_told g before s t u (ap head_nodes e) (same_free s _ e)
told_head g before s (lookup t x p q) e = one_told g before s t _ (ap head_nodes e) (same_free s _ e)

pub unbound_told : (g : Sig) (before : List Site) (s : Site) (p : Proc) (scope : List Var) → s.body ≡ p → s.above.scope ≡ scope
    → IsTold g before s Unbound (found_at (head_met (record { known = scope; search = at_first }) p).search)
unbound_told g before s p scope e d =
    subst (λ (vs : List Var). IsTold g before s Unbound (found_at (head_met (record { known = vs; search = at_first }) p).search)) d (told_head g before s p e)
