-- Which node of a head binds a name, as the code finds it, and what is in scope below.
use Rattle.std.proofs.Common.{◌≡◌, ℕ, zero, suc, ◌+◌, ◌<◌, ◌≤◌, List, [], ◌∷◌, ◌++◌, Bool, true, false, Some, None, inl, inr, arith, length, nat_eq, refl, sym, ap, subst, ◌∙◌}
use Rattle.std.specs.Prelude.{◌⊎◌, min, slice_get, if◌then◌else◌}
use Rattle.std.specs.List.{flat_map}
use Rattle.std.proofs.lemmas.Bool.Decides.{Decides-eqb}
use Rattle.std.proofs.lemmas.List.Concat.{flat_map-append}
use Rattle.std.proofs.lemmas.List.{append-nil, length-append}
use Rattle.std.proofs.lemmas.Option.{slice_get_within}
use Rattle.sap_terms.specs.Tree as tree
use Rattle.sap_terms.specs.Tree.{Tree, Trees, none, more, node_count, trees_count, trees_of}
use Rattle.sap_terms.specs.Variables.{facts_vars, is_known, new_vars, tree_vars, trees_vars}
use Rattle.sap_terms.specs.declared.fact.Fact.{Fact}
use Rattle.sap_terms.specs.declared.var.Var.{Var}
use Rattle.sap_terms.proofs.PlainLaws.Known.{clash, apart, not_in, out_of}
use Rattle.sap_process.specs.Action.{new, out, send, input, receive, event, insert, delete, lock, unlock, embedded}
use Rattle.sap_process.specs.Proc.{Proc, nil, parallel, replicated, act, test, lookup}
use Rattle.sap_process.specs.Sites.{Above, fresh_var, message_var, scope_below, var_names}
use Rattle.sap_nodes.specs.FullScope.{IsNamed, front_nodes}
use Rattle.sap_nodes.specs.HeadNodes as node
use Rattle.sap_nodes.specs.HeadNodes.{Node, binder, variable, tree_nodes, trees_nodes, fact_nodes, facts_nodes, head_nodes}
use Rattle.sap_nodes.specs.declared.part.Part.{Part}
use Rattle.sap_nodes.specs.declared.part.Part.TheVariants.{Pattern, Shown, Given}
use Rattle.sap_other_nodes.specs.OtherBinders.{IsBinderNode, binding_for}
use Rattle.sap_other_nodes.specs.code.Binders.{IsBoundHere}
use Rattle.sap_other_nodes.specs.code.Seeks.{after, bound_after, from_node, most}
use Rattle.sap_other_nodes.specs.declared.seek.Seek.{Seek}
use Rattle.sap_other_nodes.specs.declared.seek.Wanted.TheVariants.{Named}
use Rattle.sap_other_nodes.proofs.SeekOutcomes.{Hit, Miss, outcome}

-- as many nodes stand for a term as it has
mutual
  pub counted : (a : Part) (t : Tree) → length (tree_nodes a t) ≡ node_count t
  counted a (tree.variable v) = refl
  counted a (tree.public n) = refl
  counted a (tree.fresh k) = refl
  counted a (tree.apply f ts) = let rest = counted_all a ts in omega (arith, rest)

  counted_all : (a : Part) (ts : Trees) → length (trees_nodes a ts) ≡ trees_count ts
  counted_all a none = refl
  counted_all a (more t ts) =
      let here = counted a t in let rest = counted_all a ts in let long = length-append (tree_nodes a t) (trees_nodes a ts) in omega (arith, here, rest, long)

-- ---- the search of a head

later_digit : (n : ℕ) → nat_eq (suc (suc n)) 1 ≡ false
later_digit n = by (nat_eq (suc (suc n)) 1) refl where
  by : (b : Bool) → nat_eq (suc (suc n)) 1 ≡ b → b ≡ false
  by true e = let k = (Decides-eqb (suc (suc n)) 1).0 e in absurd (omega (arith, k))
  by false e = refl

abbrev pub Searched : List ℕ → Proc → ℕ → Seek → Type 0
Searched n p e r = Hit n (binding_for p e) (min (length (front_nodes p)) most) r ⊎ Miss n (binding_for p e) r

unbound : (n : List ℕ) → Miss n [] (from_node 0 n)
unbound n = record { each = λ j m e. cc; found = refl }

in_front : (n : List ℕ) (p : Proc) (e : ℕ) (k : ℕ) (r : Seek) → length (front_nodes p) ≡ k → Hit n (binding_for p e) (min k most) r ⊎ Miss n (binding_for p e) r → Searched n p e r
in_front n p e k r same h = subst (λ (i : ℕ). Hit n (binding_for p e) (min i most) r ⊎ Miss n (binding_for p e) r) (sym same) h

pub searched : (n : List ℕ) (p : Proc) (e : ℕ) → Searched n p e (bound_after n p e)
searched n nil e = inr (unbound n)
searched n (parallel p q) e = inr (unbound n)
searched n (replicated p) e = inr (unbound n)
searched n (act (new x) p) e = outcome n (binder x ∷ []) 0 (omega arith)
searched n (act (out t) p) e = inr (unbound n)
searched n (act (send t u) p) e = inr (unbound n)
searched n (act (input t) p) e = outcome n (tree_nodes Pattern t) 0 (omega arith)
searched n (act (receive t u) p) e =
    in_front n (act (receive t u) p) e (node_count t) _ (counted Given t) (outcome n (tree_nodes Pattern u) (min (node_count t) most) (omega arith))
searched n (act (event f) p) e = inr (unbound n)
searched n (act (insert t u) p) e = inr (unbound n)
searched n (act (delete t) p) e = inr (unbound n)
searched n (act (lock t k) p) e = inr (unbound n)
searched n (act (unlock t k) p) e = inr (unbound n)
searched n (act (embedded l m r) p) e = outcome n (facts_nodes Pattern l ++ (facts_nodes Shown m ++ facts_nodes Given r)) 0 (omega arith)
searched n (test t u p q) e = inr (unbound n)
searched n (lookup t x p q) zero = inr (unbound n)
searched n (lookup t x p q) (suc zero) =
    in_front n (lookup t x p q) 1 (node_count t) _ (counted Given t) (outcome n (binder (message_var x) ∷ []) (min (node_count t) most) (omega arith))
searched n (lookup t x p q) (suc (suc k)) =
    subst (λ (b : Bool). Searched n (lookup t x p q) (suc (suc k)) (if b then after Named (from_node (min (node_count t) most) n) (binder (message_var x) ∷ []) else from_node 0 n))
    (sym (later_digit k)) (inr (unbound n))

hit_node : (n : List ℕ) (p : Proc) (e : ℕ) (r : Seek) (h : Hit n (binding_for p e) (min (length (front_nodes p)) most) r) → IsBinderNode p e n (length (front_nodes p) + h.place)
hit_node n p e r h = record { index = h.place; at = refl; node = h.node; stands = h.stands; named = h.named; first = h.first }

no_node : (n : List ℕ) (p : Proc) (e : ℕ) (r : Seek) → Miss n (binding_for p e) r → (j : ℕ) → IsBinderNode p e n j → ⊥
no_node n p e r h j b = h.each b.index b.node b.stands b.named

-- what the code tells of it
pub bound_there : (n : List ℕ) (p : Proc) (e depth : ℕ) (s : Seek) → s ≡ bound_after n p e → s.found ≡ true → IsBoundHere p e n depth (Some (record { depth = depth; node = s.at }))
bound_there n p e depth s is found = by (subst (Searched n p e) (sym is) (searched n p e)) where
  by : Searched n p e s → IsBoundHere p e n depth (Some (record { depth = depth; node = s.at }))
  by (inl h) = (length (front_nodes p) + h.place, hit_node n p e s h, refl, let c = h.counted in omega (arith, c))
  by (inr h) = clash s.found found h.found

pub bound_nowhere : (n : List ℕ) (p : Proc) (e depth : ℕ) (s : Seek) → s ≡ bound_after n p e → s.found ≡ false → IsBoundHere p e n depth None
bound_nowhere n p e depth s is lost = by (subst (Searched n p e) (sym is) (searched n p e)) where
  by : Searched n p e s → IsBoundHere p e n depth None
  by (inl h) = clash s.found h.found lost
  by (inr h) = no_node n p e s h

-- ---- what is in scope below

abbrev vars_of : Node → List Var
vars_of (variable v) = v ∷ []
vars_of _ = []

mutual
  tree_variables : (a : Part) (t : Tree) → flat_map vars_of (tree_nodes a t) ≡ tree_vars t
  tree_variables a (tree.variable v) = refl
  tree_variables a (tree.public n) = refl
  tree_variables a (tree.fresh k) = refl
  tree_variables a (tree.apply f ts) = trees_variables a ts

  trees_variables : (a : Part) (ts : Trees) → flat_map vars_of (trees_nodes a ts) ≡ trees_vars ts
  trees_variables a none = refl
  trees_variables a (more t ts) =
      flat_map-append vars_of (tree_nodes a t) (trees_nodes a ts) ∙ ap (λ vs. vs ++ flat_map vars_of (trees_nodes a ts)) (tree_variables a t)
      ∙ ap (λ vs. tree_vars t ++ vs) (trees_variables a ts)

facts_variables : (a : Part) (fs : List Fact) → flat_map vars_of (facts_nodes a fs) ≡ facts_vars fs
facts_variables a [] = refl
facts_variables a (f ∷ fs) =
    flat_map-append vars_of (fact_nodes a f) (facts_nodes a fs) ∙ ap (λ vs. vs ++ flat_map vars_of (facts_nodes a fs)) (trees_variables a (trees_of f.args))
    ∙ ap (λ vs. trees_vars (trees_of f.args) ++ vs) (facts_variables a fs)

rule_variables : (l e r : List Fact) → flat_map vars_of (facts_nodes Pattern l ++ (facts_nodes Shown e ++ facts_nodes Given r)) ≡ facts_vars (l ++ (e ++ r))
rule_variables l e r =
    flat_map-append vars_of (facts_nodes Pattern l) (facts_nodes Shown e ++ facts_nodes Given r)
    ∙ ap (λ vs. vs ++ flat_map vars_of (facts_nodes Shown e ++ facts_nodes Given r)) (facts_variables Pattern l)
    ∙ ap (λ vs. facts_vars l ++ vs)
    (flat_map-append vars_of (facts_nodes Shown e) (facts_nodes Given r) ∙ ap (λ vs. vs ++ flat_map vars_of (facts_nodes Given r)) (facts_variables Shown e)
    ∙ ap (λ vs. facts_vars e ++ vs) (facts_variables Given r) ∙ sym (flat_map-append (λ (f : Fact). trees_vars (trees_of f.args)) e r))
    ∙ sym (flat_map-append (λ (f : Fact). trees_vars (trees_of f.args)) l (e ++ r))

-- none of these nodes has the name
abbrev Unnamed : List ℕ → List Node → Type 0
Unnamed n ns = (j : ℕ) (m : Node) → slice_get ns j ≡ Some m → IsNamed n m → ⊥

abbrev Unknown : List ℕ → List Var → Type 0
Unknown n vs = is_known (var_names vs) n ≡ false

unnamed_vars : (n : List ℕ) (ns : List Node) → Unnamed n ns → Unknown n (flat_map vars_of ns)
unnamed_vars n [] h = refl
unnamed_vars n (variable v ∷ ns) h =
    out_of n v.name (var_names (flat_map vars_of ns)) (apart v.name n (λ e. h 0 (variable v) refl e)) (unnamed_vars n ns (λ j m. h (suc j) m))
unnamed_vars n (node.binder v ∷ ns) h = unnamed_vars n ns (λ j m. h (suc j) m)
unnamed_vars n (node.public k ∷ ns) h = unnamed_vars n ns (λ j m. h (suc j) m)
unnamed_vars n (node.fresh k ∷ ns) h = unnamed_vars n ns (λ j m. h (suc j) m)
unnamed_vars n (node.symbol a f k ∷ ns) h = unnamed_vars n ns (λ j m. h (suc j) m)
unnamed_vars n (node.fact a f ∷ ns) h = unnamed_vars n ns (λ j m. h (suc j) m)

unknown_new : (n : List ℕ) (ks : List (List ℕ)) (vs : List Var) → Unknown n vs → Unknown n (new_vars ks vs)
unknown_new n ks [] h = refl
unknown_new n ks (v ∷ vs) h =
    let both = not_in n v.name (var_names vs) h in
    by (is_known ks v.name) (unknown_new n ks vs both.1) (out_of n v.name (var_names (new_vars (ks ++ v.name ∷ []) vs)) both.0 (unknown_new n (ks ++ v.name ∷ []) vs both.1))
  where
    by : (b : Bool) → Unknown n (new_vars ks vs) → Unknown n (v ∷ new_vars (ks ++ v.name ∷ []) vs) → Unknown n (if b then new_vars ks vs else v ∷ new_vars (ks ++ v.name ∷ []) vs)
    by true same further = same
    by false same further = further

unknown_both : (n : List ℕ) (us vs : List Var) → Unknown n us → Unknown n vs → Unknown n (us ++ vs)
unknown_both n [] vs h k = k
unknown_both n (u ∷ us) vs h k = let both = not_in n u.name (var_names us) h in out_of n u.name (var_names (us ++ vs)) both.0 (unknown_both n us vs both.1 k)

-- behind nodes without the name
behind : (n : List ℕ) (scope : List Var) (ns : List Node) (vs : List Var) → flat_map vars_of ns ≡ vs → Unknown n scope → Unnamed n ns → Unknown n (scope ++ new_vars (var_names scope) vs)
behind n scope ns vs is unknown lone =
    unknown_both n scope (new_vars (var_names scope) vs) unknown (unknown_new n (var_names scope) vs (subst (Unknown n) is (unnamed_vars n ns lone)))

-- behind a binder of another name
beside : (n : List ℕ) (scope : List Var) (m : Node) (w : Var) → (w.name ≡ n → IsNamed n m) → Unknown n scope → Unnamed n (m ∷ []) → Unknown n (scope ++ w ∷ [])
beside n scope m w is unknown lone = unknown_both n scope (w ∷ []) unknown (out_of n w.name [] (apart w.name n (λ e. lone 0 m refl (is e))) refl)

same_scope : (n : List ℕ) (scope : List Var) → Unknown n scope → Unknown n (scope ++ [])
same_scope n scope h = subst (Unknown n) (sym (append-nil scope)) h

-- where no node of the head binds the name, it isn't in scope below
unbound_below : (n : List ℕ) (a : Above) (p : Proc) (e : ℕ) → Unknown n a.scope → Unnamed n (binding_for p e) → Unknown n (scope_below a p e).scope
unbound_below n a nil e h lone = h
unbound_below n a (parallel p q) e h lone = h
unbound_below n a (replicated p) e h lone = h
unbound_below n a (act (new x) p) e h lone = beside n a.scope (binder x) (fresh_var x) (λ is. is) h lone
unbound_below n a (act (out t) p) e h lone = same_scope n a.scope h
unbound_below n a (act (send t u) p) e h lone = same_scope n a.scope h
unbound_below n a (act (input t) p) e h lone = behind n a.scope (tree_nodes Pattern t) (tree_vars t) (tree_variables Pattern t) h lone
unbound_below n a (act (receive t u) p) e h lone = behind n a.scope (tree_nodes Pattern u) (tree_vars u) (tree_variables Pattern u) h lone
unbound_below n a (act (event f) p) e h lone = same_scope n a.scope h
unbound_below n a (act (insert t u) p) e h lone = same_scope n a.scope h
unbound_below n a (act (delete t) p) e h lone = same_scope n a.scope h
unbound_below n a (act (lock t k) p) e h lone = same_scope n a.scope h
unbound_below n a (act (unlock t k) p) e h lone = same_scope n a.scope h
unbound_below n a (act (embedded l m r) p) e h lone =
    behind n a.scope (facts_nodes Pattern l ++ (facts_nodes Shown m ++ facts_nodes Given r)) (facts_vars (l ++ (m ++ r))) (rule_variables l m r) h lone
unbound_below n a (test t u p q) e h lone = h
unbound_below n a (lookup t x p q) zero h lone = h
unbound_below n a (lookup t x p q) (suc zero) h lone = beside n a.scope (binder (message_var x)) (message_var x) (λ is. is) h lone
unbound_below n a (lookup t x p q) (suc (suc k)) h lone = h

-- a head binds the name, or it isn't in scope below where it isn't above
pub head_cases : (n : List ℕ) (a : Above) (p : Proc) (e : ℕ) → is_known (var_names a.scope) n ≡ false
    → ((j : ℕ) × IsBinderNode p e n j) ⊎ (((j : ℕ) → IsBinderNode p e n j → ⊥) × (is_known (var_names (scope_below a p e).scope) n ≡ false))
head_cases n a p e unknown = by (searched n p e) where
  by : Searched n p e (bound_after n p e) → ((j : ℕ) × IsBinderNode p e n j) ⊎ (((j : ℕ) → IsBinderNode p e n j → ⊥) × (is_known (var_names (scope_below a p e).scope) n ≡ false))
  by (inl h) = inl (length (front_nodes p) + h.place, hit_node n p e _ h)
  by (inr h) = inr (no_node n p e _ h, unbound_below n a p e unknown h.each)

-- ---- the node that binds is one of the head

fits : (a b c : List Node) (i k : ℕ) → length a + length b ≤ length c → i < length b → k ≡ length a + i → k < length c
fits a b c i k le low e = omega (arith, le, low, e)

joined : (a b : List Node) → length a + length b ≤ length (a ++ b)
joined a b = let e = length-append a b in omega (arith, e)

front_and_binding : (p : Proc) (e i : ℕ) → i < length (binding_for p e) → length (front_nodes p) + length (binding_for p e) ≤ length (head_nodes p)
front_and_binding nil e i low = absurd (omega (arith, low))
front_and_binding (parallel p q) e i low = absurd (omega (arith, low))
front_and_binding (replicated p) e i low = absurd (omega (arith, low))
front_and_binding (act (new x) p) e i low = omega (arith)
front_and_binding (act (out t) p) e i low = absurd (omega (arith, low))
front_and_binding (act (send t u) p) e i low = absurd (omega (arith, low))
front_and_binding (act (input t) p) e i low = joined [] (tree_nodes Pattern t)
front_and_binding (act (receive t u) p) e i low = joined (tree_nodes Given t) (tree_nodes Pattern u)
front_and_binding (act (event f) p) e i low = absurd (omega (arith, low))
front_and_binding (act (insert t u) p) e i low = absurd (omega (arith, low))
front_and_binding (act (delete t) p) e i low = absurd (omega (arith, low))
front_and_binding (act (lock t n) p) e i low = absurd (omega (arith, low))
front_and_binding (act (unlock t n) p) e i low = absurd (omega (arith, low))
front_and_binding (act (embedded l m r) p) e i low = joined [] (facts_nodes Pattern l ++ (facts_nodes Shown m ++ facts_nodes Given r))
front_and_binding (test t u p q) e i low = absurd (omega (arith, low))
front_and_binding (lookup t x p q) zero i low = absurd (omega (arith, low))
front_and_binding (lookup t x p q) (suc zero) i low = joined (tree_nodes Given t) (binder (message_var x) ∷ [])
front_and_binding (lookup t x p q) (suc (suc k)) i low = absurd (omega (arith, low))

pub in_head : (p : Proc) (e : ℕ) (n : List ℕ) (j : ℕ) → IsBinderNode p e n j → j < length (head_nodes p)
in_head p e n j b =
    let low = slice_get_within (binding_for p e) b.index b.node b.stands in
    fits (front_nodes p) (binding_for p e) (head_nodes p) b.index j (front_and_binding p e b.index low) low b.at
