-- One name or lock is the first too many on the way to a place in whose scope too many are.
use Rattle.std.proofs.Common.{◌≡◌, ℕ, zero, suc, ◌+◌, ◌-◌, ◌<◌, ◌≤◌, List, [], ◌∷◌, ◌++◌, Bool, true, false, Option, Some, None, inl, inr, arith, length, refl, sym, ap, subst, ◌∙◌}
use Rattle.std.specs.Option.{option_map}
use Rattle.std.specs.Prelude.{◌⊎◌, Contains, slice_get, nat_lt, if◌then◌else◌}
use Rattle.std.proofs.lemmas.Bool.Decides.{Decides-ltb}
use Rattle.std.proofs.lemmas.List.Elements.{Contains-append_cases}
use Rattle.sap_terms.specs.Tree as tree
use Rattle.sap_terms.specs.Tree.{Tree, Trees, none, more, trees_of, list_of}
use Rattle.sap_terms.specs.declared.fact.Fact.{Fact}
use Rattle.sap_terms.specs.declared.limits.TheConstants.{MOST_SCOPE_NAMES}
use Rattle.sap_terms.specs.declared.var.Var.{Var}
use Rattle.sap_terms.proofs.PlainLaws.Items.{item_cases, cons_cases, contains_got}
use Rattle.sap_terms.proofs.PlainLaws.Known.{clash}
use Rattle.sap_terms.proofs.PlainLaws.Numbers.{same_number}
use Rattle.sap_process.specs.Action.{new, out, send, input, receive, event, insert, delete, lock, unlock, embedded}
use Rattle.sap_process.specs.Places.{place, place_from, child}
use Rattle.sap_process.specs.Proc.{Proc, nil, parallel, replicated, act, test, lookup}
use Rattle.sap_process.specs.Sites.{Above, Site, scope_below, message_var}
use Rattle.sap_nodes.specs.FullScope.{IsFull, IsNamed, binding_nodes, front_nodes, IsLastName, IsLock, IsLast, Fills, here, further}
use Rattle.sap_nodes.specs.HeadNodes as node
use Rattle.sap_nodes.specs.HeadNodes.{Node, tree_nodes, trees_nodes, fact_nodes, facts_nodes}
use Rattle.sap_nodes.specs.code.Full.{is_lock, head_bound}
use Rattle.sap_nodes.specs.declared.part.Part.{Part}
use Rattle.sap_nodes.specs.declared.part.Part.TheVariants.{Pattern, Shown, Given}
use Rattle.sap_nodes.proofs.FullTold.{fuller, none_full, locks_below, locking}
use Rattle.sap_nodes.proofs.HeadMembers.{none_of, in_flat}
use Rattle.sap_nodes.proofs.LastNames.{HeadOutcome, known_head, head_outcome}

-- nothing is bound by `new` in terms and facts
abbrev Bare : List Node → Type 0
Bare ns = (w : Var) → Contains ns (node.binder w) → ⊥

no_variable : (v w : Var) → node.variable v ≡ node.binder w → ⊥
no_variable v w e = cc

no_public : (k : List ℕ) (w : Var) → node.public k ≡ node.binder w → ⊥
no_public k w e = cc

no_fresh : (k : ℕ) (w : Var) → node.fresh k ≡ node.binder w → ⊥
no_fresh k w e = cc

no_symbol : (a : Part) (f : List ℕ) (n : ℕ) (w : Var) → node.symbol a f n ≡ node.binder w → ⊥
no_symbol a f n w e = cc

no_fact : (a : Part) (f : Fact) (w : Var) → node.fact a f ≡ node.binder w → ⊥
no_fact a f w e = cc

mutual
  bare : (a : Part) (t : Tree) (w : Var) → Contains (tree_nodes a t) (node.binder w) → ⊥
  bare a (tree.variable v) w c = no_variable v w (item_cases (node.variable v) (node.binder w) c)
  bare a (tree.public k) w c = no_public k w (item_cases (node.public k) (node.binder w) c)
  bare a (tree.fresh k) w c = no_fresh k w (item_cases (node.fresh k) (node.binder w) c)
  bare a (tree.apply f ts) w c =
      elim (cons_cases (node.symbol a f (length (list_of ts))) (trees_nodes a ts) (node.binder w) c) as (λ _. ⊥) [
        | inl e ↦ no_symbol a f (length (list_of ts)) w e
        | inr k ↦ bares a ts w k
      ]

  bares : (a : Part) (ts : Trees) (w : Var) → Contains (trees_nodes a ts) (node.binder w) → ⊥
  bares a none w c = none_of (node.binder w) c
  bares a (more t ts) w c =
      elim (Contains-append_cases (tree_nodes a t) (trees_nodes a ts) (node.binder w) c) as (λ _. ⊥) [ inl k ↦ bare a t w k | inr k ↦ bares a ts w k ]

bare_fact : (a : Part) (f : Fact) → Bare (fact_nodes a f)
bare_fact a f w c =
    elim (cons_cases (node.fact a f) (trees_nodes a (trees_of f.args)) (node.binder w) c) as (λ _. ⊥) [
      | inl e ↦ no_fact a f w e
      | inr k ↦ bares a (trees_of f.args) w k
    ]

bare_facts : (a : Part) (fs : List Fact) → Bare (facts_nodes a fs)
bare_facts a fs w c = let found = in_flat (fact_nodes a) fs (node.binder w) c in bare_fact a found.0 w found.2

bare_both : (ms ns : List Node) → Bare ms → Bare ns → Bare (ms ++ ns)
bare_both ms ns h k w c = elim (Contains-append_cases ms ns (node.binder w) c) as (λ _. ⊥) [ inl m ↦ h w m | inr m ↦ k w m ]

one_var : (v w : Var) → Some v ≡ Some w → v ≡ w
one_var v w e = cc

-- a node of such a name is a variable
named_var : (ns : List Node) → Bare ns → (i : ℕ) (n : Node) (m : List ℕ) → slice_get ns i ≡ Some n → IsNamed m n → (v : Var) × (slice_get ns i ≡ Some (node.variable v)) × (v.name ≡ m)
named_var ns b i (node.variable v) m e h = (v, e, h)
named_var ns b i (node.binder v) m e h = absurd (b v (contains_got ns (node.binder v) i e))
named_var ns b i (node.public k) m e h = absurd h
named_var ns b i (node.fresh k) m e h = absurd h
named_var ns b i (node.symbol a f k) m e h = absurd h
named_var ns b i (node.fact a f) m e h = absurd h

-- so one node is the one
same_index : (u : Above) (p : Proc) (e j k : ℕ) (x : IsLastName u p e j) (y : IsLastName u p e k) → x.index ≡ y.index → j ≡ k
same_index u p e j k x y i = x.at ∙ ap (λ n. length (front_nodes p) + n) i ∙ sym (y.at)

bare_index : (u : Above) (p : Proc) (e j k : ℕ) → Bare (binding_nodes p) → (x : IsLastName u p e j) (y : IsLastName u p e k) → x.index ≡ y.index
bare_index u p e j k b x y = same_number x.index y.index earlier later where
  same : x.var.name ≡ y.var.name
  same = ap (λ (v : Var). v.name) (one_var x.var y.var (sym x.last ∙ y.last))

  earlier : x.index < y.index → ⊥
  earlier l = let v = named_var (binding_nodes p) b x.index x.node x.var.name x.stands x.named in y.first x.index v.0 l v.1 (v.2 ∙ same)

  later : y.index < x.index → ⊥
  later l = let v = named_var (binding_nodes p) b y.index y.node y.var.name y.stands y.named in x.first y.index v.0 l v.1 (v.2 ∙ sym same)

only_index : (n m : Node) (i : ℕ) → slice_get (n ∷ []) i ≡ Some m → i ≡ 0
only_index n m zero e = refl
only_index n m (suc i) e = cc

single_index : (u : Above) (p : Proc) (e j k : ℕ) (n : Node) → binding_nodes p ≡ n ∷ [] → (x : IsLastName u p e j) (y : IsLastName u p e k) → x.index ≡ y.index
single_index u p e j k n is x y =
    only_index n x.node x.index (sym (ap (λ ns. slice_get ns x.index) is) ∙ x.stands)
    ∙ sym (only_index n y.node y.index (sym (ap (λ ns. slice_get ns y.index) is) ∙ y.stands))

no_index : (u : Above) (p : Proc) (e j k : ℕ) → binding_nodes p ≡ [] → (x : IsLastName u p e j) (y : IsLastName u p e k) → x.index ≡ y.index
no_index u p e j k is x y = bare_index u p e j k (λ w c. none_of (node.binder w) (subst (λ ns. Contains ns (node.binder w)) is c)) x y

one_index : (u : Above) (p : Proc) (e j k : ℕ) (x : IsLastName u p e j) (y : IsLastName u p e k) → x.index ≡ y.index
one_index u nil e j k x y = no_index u nil e j k refl x y
one_index u (parallel p q) e j k x y = no_index u (parallel p q) e j k refl x y
one_index u (replicated p) e j k x y = no_index u (replicated p) e j k refl x y
one_index u (act (new v) p) e j k x y = single_index u (act (new v) p) e j k (node.binder v) refl x y
one_index u (act (out t) p) e j k x y = no_index u (act (out t) p) e j k refl x y
one_index u (act (send t v) p) e j k x y = no_index u (act (send t v) p) e j k refl x y
one_index u (act (input t) p) e j k x y = bare_index u (act (input t) p) e j k (bare Pattern t) x y
one_index u (act (receive t v) p) e j k x y = bare_index u (act (receive t v) p) e j k (bare Pattern v) x y
one_index u (act (event f) p) e j k x y = no_index u (act (event f) p) e j k refl x y
one_index u (act (insert t v) p) e j k x y = no_index u (act (insert t v) p) e j k refl x y
one_index u (act (delete t) p) e j k x y = no_index u (act (delete t) p) e j k refl x y
one_index u (act (lock t n) p) e j k x y = no_index u (act (lock t n) p) e j k refl x y
one_index u (act (unlock t n) p) e j k x y = no_index u (act (unlock t n) p) e j k refl x y
one_index u (act (embedded l m r) p) e j k x y =
    bare_index u (act (embedded l m r) p) e j k
    (bare_both (facts_nodes Pattern l) (facts_nodes Shown m ++ facts_nodes Given r) (bare_facts Pattern l)
    (bare_both (facts_nodes Shown m) (facts_nodes Given r) (bare_facts Shown m) (bare_facts Given r))) x y
one_index u (test t v p q) e j k x y = no_index u (test t v p q) e j k refl x y
one_index u (lookup t v p q) e j k x y = single_index u (lookup t v p q) e j k (node.binder (message_var v)) refl x y

-- a lock binds no name
no_name : (u : Above) (p : Proc) (e k : ℕ) → IsLock p → IsLastName u p e k → ⊥
no_name u (act (lock t n) p) e k h x = let s = x.stands in nothing x.index x.node s where
  nothing : (i : ℕ) (n : Node) → slice_get [] i ≡ Some n → ⊥
  nothing i n e = cc
no_name u (act (new v) p) e k h x = absurd h
no_name u (act (out t) p) e k h x = absurd h
no_name u (act (send t v) p) e k h x = absurd h
no_name u (act (input t) p) e k h x = absurd h
no_name u (act (receive t v) p) e k h x = absurd h
no_name u (act (event f) p) e k h x = absurd h
no_name u (act (insert t v) p) e k h x = absurd h
no_name u (act (delete t) p) e k h x = absurd h
no_name u (act (unlock t n) p) e k h x = absurd h
no_name u (act (embedded l m r) p) e k h x = absurd h
no_name u nil e k h x = absurd h
no_name u (parallel p q) e k h x = absurd h
no_name u (replicated p) e k h x = absurd h
no_name u (test t v p q) e k h x = absurd h
no_name u (lookup t v p q) e k h x = absurd h

one_last : (u : Above) (p : Proc) (e : ℕ) (o r : Option ℕ) → IsLast u p e o → IsLast u p e r → o ≡ r
one_last u p e None None x y = refl
one_last u p e None (Some k) x y = absurd (no_name u p e k x y)
one_last u p e (Some j) None x y = absurd (no_name u p e j y x)
one_last u p e (Some j) (Some k) x y = ap Some (same_index u p e j k x y (one_index u p e j k x y))

one_child : (p q : Proc) → Some p ≡ Some q → p ≡ q
one_child p q e = cc

pub one_filling : (u : Above) (p : Proc) (v : List ℕ) (d k : ℕ) (o r : Option ℕ) → Fills u p v d o → Fills u p v k r → (d ≡ k) × (o ≡ r)
one_filling u p _ _ _ o r (here {e = e} room full last) y = at_here u p e _ _ o r full last y where
  at_here : (u : Above) (p : Proc) (e : ℕ) (v : List ℕ) (k : ℕ) (o r : Option ℕ) → IsFull (scope_below u p e) → IsLast u p e o → Fills u p (e ∷ v) k r → (0 ≡ k) × (o ≡ r)
  at_here u p e v _ o r full last (here room f other) = (refl, one_last u p e o r last other)
  at_here u p e v _ o r full last (further {q = q} {d = d} c fills) = absurd (none_full (scope_below u p e) q v d r fills full)
one_filling u p _ _ _ o r (further {q = q} {e = e} {d = d} {path = v} c fills) y = later y (λ k h. one_filling (scope_below u p e) q v d k o r fills h) where
  later : {k : ℕ} → Fills u p (e ∷ v) k r → ((k : ℕ) → Fills (scope_below u p e) q v k r → (d ≡ k) × (o ≡ r)) → (suc d ≡ k) × (o ≡ r)
  later (here room full last) rest = absurd (none_full (scope_below u p e) q v d o fills full)
  later (further {q = w} {d = k} f other) rest =
      let same = rest k (subst (λ (z : Proc). Fills (scope_below u p e) z v k r) (one_child w q (sym f ∙ c)) other) in (ap suc same.0, same.1)

-- at each place that has too much in scope
decided : (m n : ℕ) → (m < n) ⊎ (n ≤ m)
decided m n = by (nat_lt m n) refl where
  by : (b : Bool) → nat_lt m n ≡ b → (m < n) ⊎ (n ≤ m)
  by true e = inl ((Decides-ltb m n).0 e)
  by false e = inr (not_less (λ l. clash (nat_lt m n) ((Decides-ltb m n).1 l) e)) where
    not_less : (m < n → ⊥) → n ≤ m
    not_less refuted = omega (arith, refuted)

some_last : (u : Above) (p : Proc) (e : ℕ) → length u.scope + u.locks ≤ MOST_SCOPE_NAMES → IsFull (scope_below u p e) → (o : Option ℕ) × IsLast u p e o
some_last u p e few full = by (head_outcome u.scope u.locks p e few) where
  by : HeadOutcome u.scope u.locks p e (head_bound (MOST_SCOPE_NAMES - u.locks) u.scope p e) → (o : Option ℕ) × IsLast u p e o
  by (inl h) = (Some h.place, h.last)
  by (inr s) = locked (is_lock p) refl (locks_below u p e) where
    locked : (b : Bool) → is_lock p ≡ b → (scope_below u p e).locks ≡ (if b then u.locks + 1 else u.locks) → (o : Option ℕ) × IsLast u p e o
    locked true d k = (None, locking p d)
    locked false d k =
        let n = ap length (known_head u.scope u.locks p e) in let m = s.few in absurd (omega (arith, n, m, k, full, few))

no_place : (s : Site) → None ≡ Some s → ⊥
no_place s e = cc

same_above : (x y : Site) → Some x ≡ Some y → x ≡ y
same_above x y e = cc

pub some_filling : (v path : List ℕ) (u : Above) (p : Proc) (s : Site) → place_from scope_below (Some (place path u p)) v ≡ Some s
    → length u.scope + u.locks ≤ MOST_SCOPE_NAMES → IsFull s.above → (d : ℕ) × (o : Option ℕ) × Fills u p v d o
some_filling [] path u p s e few full =
    let f = subst (λ (x : Site). IsFull x.above) (sym (same_above (place path u p) s e)) full in absurd (omega (arith, f, few))
some_filling (e ∷ v) path u p s h few full =
    by (child p e) refl h (λ q k l. some_filling v (path ++ e ∷ []) (scope_below u p e) q s k l full) (decided MOST_SCOPE_NAMES (length (scope_below u p e).scope + (scope_below u p e).locks))
  where
    by : (c : Option Proc) → child p e ≡ c → place_from scope_below (option_map (place (path ++ e ∷ []) (scope_below u p e)) c) v ≡ Some s
        → ((q : Proc) → place_from scope_below (Some (place (path ++ e ∷ []) (scope_below u p e) q)) v ≡ Some s
        → length (scope_below u p e).scope + (scope_below u p e).locks ≤ MOST_SCOPE_NAMES → (d : ℕ) × (o : Option ℕ) × Fills (scope_below u p e) q v d o)
        → IsFull (scope_below u p e) ⊎ (length (scope_below u p e).scope + (scope_below u p e).locks ≤ MOST_SCOPE_NAMES)
        → (d : ℕ) × (o : Option ℕ) × Fills u p (e ∷ v) d o
    by c d k later (inl f) =
        let last = some_last u p e few f in (0, last.0, here (λ g. omega (arith, g, few)) f last.1)
    by None d k later (inr l) = absurd (no_place s k)
    by (Some q) d k later (inr l) = let r = later q k l in (suc r.0, r.1, further d r.2)

-- and where there is one, it has
pub full_below : (v path : List ℕ) (u : Above) (p : Proc) (s : Site) → place_from scope_below (Some (place path u p)) v ≡ Some s → IsFull u → IsFull s.above
full_below [] path u p s e full = subst (λ (x : Site). IsFull x.above) (same_above (place path u p) s e) full
full_below (e ∷ v) path u p s h full = by (child p e) h (λ q k. full_below v (path ++ e ∷ []) (scope_below u p e) q s k (fuller u p e full)) where
  by : (c : Option Proc) → place_from scope_below (option_map (place (path ++ e ∷ []) (scope_below u p e)) c) v ≡ Some s
      → ((q : Proc) → place_from scope_below (Some (place (path ++ e ∷ []) (scope_below u p e) q)) v ≡ Some s → IsFull s.above) → IsFull s.above
  by None k later = absurd (no_place s k)
  by (Some q) k later = later q k

pub filled_place : (v path : List ℕ) (u : Above) (p : Proc) (s : Site) (d : ℕ) (o : Option ℕ) → Fills u p v d o
    → place_from scope_below (Some (place path u p)) v ≡ Some s → IsFull s.above
filled_place _ path u p s _ o (here {e = e} {path = v} room full last) h = by (child p e) h where
  by : (c : Option Proc) → place_from scope_below (option_map (place (path ++ e ∷ []) (scope_below u p e)) c) v ≡ Some s → IsFull s.above
  by None k = absurd (no_place s k)
  by (Some q) k = full_below v (path ++ e ∷ []) (scope_below u p e) q s k full
filled_place _ path u p s _ o (further {q = q} {e = e} {d = d} {path = v} c fills) h =
    filled_place v (path ++ e ∷ []) (scope_below u p e) q s d o fills (ap (λ z. place_from scope_below (option_map (place (path ++ e ∷ []) (scope_below u p e)) z) v) (sym c) ∙ h)
