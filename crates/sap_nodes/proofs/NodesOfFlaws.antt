-- Where a node of its head has a flaw, the place has it.
use Rattle.std.proofs.Common.{◌≡◌, ℕ, zero, suc, List, [], ◌∷◌, ◌++◌, Option, Some, None, inl, inr, length, take, slice_get, refl, sym, ap, subst, ◌∙◌}
use Rattle.std.specs.Prelude.{◌⊎◌, Contains, codes, nat_eq, true}
use Rattle.std.specs.List.{flat_map, starts_with}
use Rattle.std.proofs.lemmas.List.Elements.{Contains-append_left, Contains-append_right, Contains-append_cases}
use Rattle.sap_terms.specs.Destructors.{HasDestructor, AnyHasDestructor}
use Rattle.sap_terms.specs.Message.{IsOver, AreOver}
use Rattle.sap_terms.specs.Signature.{Sig, arity_of, is_destructor_of}
use Rattle.sap_terms.specs.Tree as tree
use Rattle.sap_terms.specs.Tree.{Tree, Trees, none, more, trees_of, list_of}
use Rattle.sap_terms.specs.Variables.{tree_vars, is_known}
use Rattle.sap_terms.specs.declared.fact.Fact.{Fact}
use Rattle.sap_terms.specs.declared.var.Var.{Var}
use Rattle.sap_terms.proofs.PlainLaws.Items.{first_item, later_item, item_cases, cons_cases, contains_got}
use Rattle.sap_process.specs.Action.{Action, new, out, send, input, receive, event, insert, delete, lock, unlock, embedded}
use Rattle.sap_process.specs.Flaws.{unbound, HasClash, HasOtherArity, HasOtherForm, HasReservedVar, HasReservedFact, HasPatternDestructor, Rebinds, HasSortClash, HasFlaw}
use Rattle.sap_process.specs.Heads.{facts_terms, terms_vars, head_terms, binder, bound_as, listed, patterns, stored_facts, shown_facts}
use Rattle.sap_process.specs.Proc.{Proc, nil, parallel, replicated, act, test, lookup}
use Rattle.sap_process.specs.Sites.{Site, var_names, message_var}
use Rattle.sap_process.specs.declared.flaw.Flaw.{Flaw}
use Rattle.sap_process.specs.declared.flaw.Flaw.TheVariants.{BadFunction, ReservedVar, ReservedFact, FactClash, PatternDestructor, Unbound, Rebound, SortClash, ScopeFull}
use Rattle.sap_nodes.specs.HeadNodes as node
use Rattle.sap_nodes.specs.HeadNodes.{Node, tree_nodes, trees_nodes, fact_nodes, facts_nodes, action_nodes, head_nodes}
use Rattle.sap_nodes.specs.FlawNodes.{IsBadNode, IsReservedVarNode, IsReservedFactNode, IsDestructorNode, IsUnboundNode, IsReboundNode, IsOtherSignNode, IsClashingNode, Differs, stored_of, shown_of, IsFlawedAt, IsNodeOf, IsOfHead}
use Rattle.sap_nodes.specs.declared.part.Part.{Part}
use Rattle.sap_nodes.specs.declared.part.Part.TheVariants.{Pattern, Shown, Given}
use Rattle.sap_nodes.proofs.ClashNodes.{stored, shown as shown_in}
use Rattle.sap_nodes.proofs.HeadMembers.{none_of, in_flat}
use Rattle.sap_nodes.proofs.UnboundTold.{var_in, tree_variables}

-- the node stands in a term at the head, or is what is bound there or a fact there
data Origin (p : Proc) (n : Node) : Type 0 where
  in_term : (a : Part) (t : Tree) → Contains (head_terms p) t → (a ≡ Pattern → Contains (patterns p) t) → Contains (tree_nodes a t) n → Origin p n
  is_bound : (v : Var) → bound_as p ≡ Some v → node.binder v ≡ n → Origin p n
  is_fact : (a : Part) (f : Fact) → Contains (stored_facts p ++ shown_facts p) f → node.fact a f ≡ n → Origin p n

flat_in : {X Y : Type 0} (f : X → List Y) (xs : List X) (x : X) (y : Y) → Contains xs x → Contains (f x) y → Contains (flat_map f xs) y
flat_in f [] x y c k = absurd (none_of x c)
flat_in {X} {Y} f (z ∷ zs) x y c k = by (cons_cases z zs x c) (λ m. flat_in f zs x y m k) where
  by : (z ≡ x) ⊎ Contains zs x → (Contains zs x → Contains (flat_map f zs) y) → Contains (f z ++ flat_map f zs) y
  by (inl e) later = Contains-append_left (f z) (flat_map f zs) y (subst (λ w. Contains (f w) y) (sym e) k)
  by (inr m) later = Contains-append_right (f z) (flat_map f zs) y (later m)

given : Given ≡ Pattern → ⊥
given e = cc

shown : Shown ≡ Pattern → ⊥
shown e = cc

-- in an argument of a fact, or the fact
in_list : (a : Part) (ts : List Tree) (n : Node) → Contains (trees_nodes a (trees_of ts)) n → (t : Tree) × Contains ts t × Contains (tree_nodes a t) n
in_list a [] n c = absurd (none_of n c)
in_list a (t ∷ ts) n c = by (Contains-append_cases (tree_nodes a t) (trees_nodes a (trees_of ts)) n c) (in_list a ts n) where
  by : Contains (tree_nodes a t) n ⊎ Contains (trees_nodes a (trees_of ts)) n
      → (Contains (trees_nodes a (trees_of ts)) n → (u : Tree) × Contains ts u × Contains (tree_nodes a u) n)
      → (u : Tree) × Contains (t ∷ ts) u × Contains (tree_nodes a u) n
  by (inl k) later = (t, first_item t ts, k)
  by (inr k) later = let found = later k in (found.0, later_item t ts found.0 found.1, found.2)

of_fact : (p : Proc) (a : Part) (f : Fact) (n : Node) → Contains (stored_facts p ++ shown_facts p) f → ((t : Tree) → Contains f.args t → Contains (head_terms p) t)
    → ((t : Tree) → a ≡ Pattern → Contains f.args t → Contains (patterns p) t) → Contains (fact_nodes a f) n → Origin p n
of_fact p a f n there terms taken c = by (cons_cases (node.fact a f) (trees_nodes a (trees_of f.args)) n c) where
  by : (node.fact a f ≡ n) ⊎ Contains (trees_nodes a (trees_of f.args)) n → Origin p n
  by (inl e) = is_fact a f there e
  by (inr k) = let found = in_list a f.args n k in in_term a found.0 (terms found.0 found.1) (λ e. taken found.0 e found.1) found.2

of_two : (p : Proc) (a b : Part) (t u : Tree) (n : Node) → Contains (head_terms p) t → Contains (head_terms p) u → (a ≡ Pattern → Contains (patterns p) t)
    → (b ≡ Pattern → Contains (patterns p) u) → Contains (tree_nodes a t ++ tree_nodes b u) n → Origin p n
of_two p a b t u n ht hu pt pu c = by (Contains-append_cases (tree_nodes a t) (tree_nodes b u) n c) where
  by : Contains (tree_nodes a t) n ⊎ Contains (tree_nodes b u) n → Origin p n
  by (inl k) = in_term a t ht pt k
  by (inr k) = in_term b u hu pu k

first_of : (t u : Tree) → Contains (t ∷ u ∷ []) t
first_of t u = first_item t (u ∷ [])

second_of : (t u : Tree) → Contains (t ∷ u ∷ []) u
second_of t u = later_item t (u ∷ []) u (first_item u [])

args_in : (fs : List Fact) (f : Fact) (t : Tree) → Contains fs f → Contains f.args t → Contains (facts_terms fs) t
args_in fs f t c k = flat_in (λ (h : Fact). h.args) fs f t c k

of_rule : (l e r : List Fact) (q : Proc) (n : Node) → Contains (facts_nodes Pattern l ++ (facts_nodes Shown e ++ facts_nodes Given r)) n → Origin (act (embedded l e r) q) n
of_rule l e r q n c = by (Contains-append_cases (facts_nodes Pattern l) (facts_nodes Shown e ++ facts_nodes Given r) n c) where
  in_left : (f : Fact) → Contains l f → Contains (l ++ (e ++ r)) f
  in_left f k = Contains-append_left l (e ++ r) f k

  in_middle : (f : Fact) → Contains e f → Contains (l ++ (e ++ r)) f
  in_middle f k = Contains-append_right l (e ++ r) f (Contains-append_left e r f k)

  in_right : (f : Fact) → Contains r f → Contains (l ++ (e ++ r)) f
  in_right f k = Contains-append_right l (e ++ r) f (Contains-append_right e r f k)

  behind : Contains (facts_nodes Shown e) n ⊎ Contains (facts_nodes Given r) n → Origin (act (embedded l e r) q) n
  behind (inl k) =
      let found = in_flat (fact_nodes Shown) e n k in
      of_fact (act (embedded l e r) q) Shown found.0 n (Contains-append_right (l ++ r) e found.0 found.1)
      (λ t m. args_in (l ++ (e ++ r)) found.0 t (in_middle found.0 found.1) m) (λ t d m. absurd (shown d)) found.2
  behind (inr k) =
      let found = in_flat (fact_nodes Given) r n k in
      of_fact (act (embedded l e r) q) Given found.0 n (Contains-append_left (l ++ r) e found.0 (Contains-append_right l r found.0 found.1))
      (λ t m. args_in (l ++ (e ++ r)) found.0 t (in_right found.0 found.1) m) (λ t d m. absurd (given d)) found.2

  by : Contains (facts_nodes Pattern l) n ⊎ Contains (facts_nodes Shown e ++ facts_nodes Given r) n → Origin (act (embedded l e r) q) n
  by (inl k) =
      let found = in_flat (fact_nodes Pattern) l n k in
      of_fact (act (embedded l e r) q) Pattern found.0 n (Contains-append_left (l ++ r) e found.0 (Contains-append_left l r found.0 found.1))
      (λ t m. args_in (l ++ (e ++ r)) found.0 t (in_left found.0 found.1) m) (λ t d m. args_in l found.0 t found.1 m) found.2
  by (inr k) = behind (Contains-append_cases (facts_nodes Shown e) (facts_nodes Given r) n k)

of_given : (p : Proc) (t : Tree) (n : Node) → Contains (head_terms p) t → Contains (tree_nodes Given t) n → Origin p n
of_given p t n c k = in_term Given t c (λ e. absurd (given e)) k

action_origin : (x : Action) (q : Proc) (n : Node) → Contains (action_nodes x) n → Origin (act x q) n
action_origin (new v) q n c = is_bound v refl (item_cases (node.binder v) n c)
action_origin (out t) q n c = of_given (act (out t) q) t n (first_item t []) c
action_origin (send t u) q n c =
    of_two (act (send t u) q) Given Given t u n (first_of t u) (second_of t u) (λ e. absurd (given e)) (λ e. absurd (given e)) c
action_origin (input t) q n c = in_term Pattern t (first_item t []) (λ e. first_item t []) c
action_origin (receive t u) q n c =
    of_two (act (receive t u) q) Given Pattern t u n (first_of t u) (second_of t u) (λ e. absurd (given e)) (λ e. first_item u []) c
action_origin (event f) q n c = of_fact (act (event f) q) Shown f n (first_item f []) (λ t m. m) (λ t d m. absurd (shown d)) c
action_origin (insert t u) q n c =
    of_two (act (insert t u) q) Given Given t u n (first_of t u) (second_of t u) (λ e. absurd (given e)) (λ e. absurd (given e)) c
action_origin (delete t) q n c = of_given (act (delete t) q) t n (first_item t []) c
action_origin (lock t k) q n c = of_given (act (lock t k) q) t n (first_item t []) c
action_origin (unlock t k) q n c = of_given (act (unlock t k) q) t n (first_item t []) c
action_origin (embedded l e r) q n c = of_rule l e r q n c

origin : (p : Proc) (n : Node) → Contains (head_nodes p) n → Origin p n
origin nil n c = absurd (none_of n c)
origin (parallel p q) n c = absurd (none_of n c)
origin (replicated p) n c = absurd (none_of n c)
origin (act x q) n c = action_origin x q n c
origin (test t u p q) n c =
    of_two (test t u p q) Given Given t u n (first_of t u) (second_of t u) (λ e. absurd (given e)) (λ e. absurd (given e)) c
origin (lookup t x p q) n c = by (Contains-append_cases (tree_nodes Given t) (node.binder (message_var x) ∷ []) n c) where
  by : Contains (tree_nodes Given t) n ⊎ Contains (node.binder (message_var x) ∷ []) n → Origin (lookup t x p q) n
  by (inl k) = of_given (lookup t x p q) t n (first_item t []) k
  by (inr k) = is_bound (message_var x) refl (item_cases (node.binder (message_var x)) n k)

-- what stands in terms

var_symbol : (v : Var) (b : Part) (f : List ℕ) (k : ℕ) → node.variable v ≡ node.symbol b f k → ⊥
var_symbol v b f k e = cc

public_symbol : (m : List ℕ) (b : Part) (f : List ℕ) (k : ℕ) → node.public m ≡ node.symbol b f k → ⊥
public_symbol m b f k e = cc

fresh_symbol : (m : ℕ) (b : Part) (f : List ℕ) (k : ℕ) → node.fresh m ≡ node.symbol b f k → ⊥
fresh_symbol m b f k e = cc

abbrev symbol_name : Node → List ℕ
symbol_name (node.symbol a f k) = f
symbol_name _ = []

abbrev symbol_terms : Node → ℕ
symbol_terms (node.symbol a f k) = k
symbol_terms _ = 0

abbrev symbol_part : Node → Part
symbol_part (node.symbol a f k) = a
symbol_part _ = Given

same_held : (g : Sig) (a b : Part) (h f : List ℕ) (m k : ℕ) → node.symbol a h m ≡ node.symbol b f k → arity_of g h ≡ Some m → arity_of g f ≡ Some k
same_held g a b h f m k e o = sym (ap (λ n. arity_of g (symbol_name n)) e) ∙ o ∙ ap (λ n. Some (symbol_terms n)) e

mutual
  held_in : (g : Sig) (a b : Part) (t : Tree) (f : List ℕ) (k : ℕ) → Contains (tree_nodes a t) (node.symbol b f k) → IsOver g t → arity_of g f ≡ Some k
  held_in g a b (tree.variable v) f k c o = let e = item_cases (node.variable v) (node.symbol b f k) c in absurd (var_symbol v b f k e)
  held_in g a b (tree.public m) f k c o = let e = item_cases (node.public m) (node.symbol b f k) c in absurd (public_symbol m b f k e)
  held_in g a b (tree.fresh m) f k c o = let e = item_cases (node.fresh m) (node.symbol b f k) c in absurd (fresh_symbol m b f k e)
  held_in g a b (tree.apply h ts) f k c o =
      elim (cons_cases (node.symbol a h (length (list_of ts))) (trees_nodes a ts) (node.symbol b f k) c) as (λ _. arity_of g f ≡ Some k) [
        | inl e ↦ same_held g a b h f (length (list_of ts)) k e o.0
        | inr m ↦ held_in_all g a b ts f k m o.1
      ]

  held_in_all : (g : Sig) (a b : Part) (ts : Trees) (f : List ℕ) (k : ℕ) → Contains (trees_nodes a ts) (node.symbol b f k) → AreOver g ts → arity_of g f ≡ Some k
  held_in_all g a b none f k c o = absurd (none_of (node.symbol b f k) c)
  held_in_all g a b (more t ts) f k c o =
      elim (Contains-append_cases (tree_nodes a t) (trees_nodes a ts) (node.symbol b f k) c) as (λ _. arity_of g f ≡ Some k) [
        | inl m ↦ held_in g a b t f k m o.0
        | inr m ↦ held_in_all g a b ts f k m o.1
      ]

mutual
  destructor_in : (g : Sig) (a : Part) (t : Tree) (f : List ℕ) (k : ℕ) → Contains (tree_nodes a t) (node.symbol Pattern f k) → is_destructor_of g f ≡ true
      → (a ≡ Pattern) × HasDestructor g t
  destructor_in g a (tree.variable v) f k c d = absurd (var_symbol v Pattern f k (item_cases (node.variable v) (node.symbol Pattern f k) c))
  destructor_in g a (tree.public m) f k c d = absurd (public_symbol m Pattern f k (item_cases (node.public m) (node.symbol Pattern f k) c))
  destructor_in g a (tree.fresh m) f k c d = absurd (fresh_symbol m Pattern f k (item_cases (node.fresh m) (node.symbol Pattern f k) c))
  destructor_in g a (tree.apply h ts) f k c d =
      elim (cons_cases (node.symbol a h (length (list_of ts))) (trees_nodes a ts) (node.symbol Pattern f k) c) as (λ _. (a ≡ Pattern) × HasDestructor g (tree.apply h ts)) [
        | inl e ↦ (ap symbol_part e, inl (ap (λ n. is_destructor_of g (symbol_name n)) e ∙ d))
        | inr m ↦ let found = destructor_in_all g a ts f k m d in (found.0, inr found.1)
      ]

  destructor_in_all : (g : Sig) (a : Part) (ts : Trees) (f : List ℕ) (k : ℕ) → Contains (trees_nodes a ts) (node.symbol Pattern f k) → is_destructor_of g f ≡ true
      → (a ≡ Pattern) × AnyHasDestructor g ts
  destructor_in_all g a none f k c d = absurd (none_of (node.symbol Pattern f k) c)
  destructor_in_all g a (more t ts) f k c d =
      elim (Contains-append_cases (tree_nodes a t) (trees_nodes a ts) (node.symbol Pattern f k) c) as (λ _. (a ≡ Pattern) × AnyHasDestructor g (more t ts)) [
        | inl m ↦ let found = destructor_in g a t f k m d in (found.0, inl found.1)
        | inr m ↦ let found = destructor_in_all g a ts f k m d in (found.0, inr found.1)
      ]

-- neither what is bound nor a fact stands in a term
abbrev IsTermNode : Node → Type 0
IsTermNode (node.binder v) = ⊥
IsTermNode (node.fact a f) = ⊥
IsTermNode _ = Unit {0}

mutual
  term_node : (a : Part) (t : Tree) (n : Node) → Contains (tree_nodes a t) n → IsTermNode n
  term_node a (tree.variable v) n c = subst IsTermNode (item_cases (node.variable v) n c) tt
  term_node a (tree.public m) n c = subst IsTermNode (item_cases (node.public m) n c) tt
  term_node a (tree.fresh m) n c = subst IsTermNode (item_cases (node.fresh m) n c) tt
  term_node a (tree.apply h ts) n c =
      elim (cons_cases (node.symbol a h (length (list_of ts))) (trees_nodes a ts) n c) as (λ _. IsTermNode n) [ inl e ↦ subst IsTermNode e tt | inr m ↦ term_node_all a ts n m ]

  term_node_all : (a : Part) (ts : Trees) (n : Node) → Contains (trees_nodes a ts) n → IsTermNode n
  term_node_all a none n c = absurd (none_of n c)
  term_node_all a (more t ts) n c =
      elim (Contains-append_cases (tree_nodes a t) (trees_nodes a ts) n c) as (λ _. IsTermNode n) [ inl m ↦ term_node a t n m | inr m ↦ term_node_all a ts n m ]

binder_other : (v : Var) (n : Node) → IsTermNode n → node.binder v ≡ n → ⊥
binder_other v n h e = subst IsTermNode (sym e) h

fact_other : (a : Part) (f : Fact) (n : Node) → IsTermNode n → node.fact a f ≡ n → ⊥
fact_other a f n h e = subst IsTermNode (sym e) h

-- a variable at a node is one of the head's terms
head_var : (p : Proc) (v : Var) → Contains (head_nodes p) (node.variable v) → Contains (terms_vars (head_terms p)) v
head_var p v c = by (origin p (node.variable v) c) where
  by : Origin p (node.variable v) → Contains (terms_vars (head_terms p)) v
  by (in_term a t ht pt k) = flat_in tree_vars (head_terms p) t v ht (subst (λ vs. Contains vs v) (tree_variables a t) (var_in (tree_nodes a t) v k))
  by (is_bound w e d) = absurd (binder_other w (node.variable v) tt d)
  by (is_fact a f k d) = absurd (fact_other a f (node.variable v) tt d)

abbrev binder_var : Node → Option Var
binder_var (node.binder v) = Some v
binder_var _ = None

head_binder : (p : Proc) (v : Var) → Contains (head_nodes p) (node.binder v) → bound_as p ≡ Some v
head_binder p v c = by (origin p (node.binder v) c) where
  apart : (a : Part) (f : Fact) → node.fact a f ≡ node.binder v → ⊥
  apart a f e = cc

  by : Origin p (node.binder v) → bound_as p ≡ Some v
  by (in_term a t ht pt k) = absurd (term_node a t (node.binder v) k)
  by (is_bound w e d) = e ∙ ap binder_var d
  by (is_fact a f k d) = absurd (apart a f d)

abbrev node_fact : Node → Option Fact
node_fact (node.fact a f) = Some f
node_fact _ = None

some_fact : (f h : Fact) → Some f ≡ Some h → f ≡ h
some_fact f h e = cc

head_fact : (p : Proc) (a : Part) (f : Fact) → Contains (head_nodes p) (node.fact a f) → Contains (stored_facts p ++ shown_facts p) f
head_fact p a f c = by (origin p (node.fact a f) c) where
  apart : (w : Var) → node.binder w ≡ node.fact a f → ⊥
  apart w e = cc

  by : Origin p (node.fact a f) → Contains (stored_facts p ++ shown_facts p) f
  by (in_term b t ht pt k) = absurd (term_node b t (node.fact a f) k)
  by (is_bound w e d) = absurd (apart w d)
  by (is_fact b h k d) = subst (Contains (stored_facts p ++ shown_facts p)) (some_fact h f (ap node_fact d)) k

-- the binder has the name of what is bound
some_var : (v w : Var) → Some v ≡ Some w → v ≡ w
some_var v w e = cc

bound_binder : (p : Proc) (v : Var) → bound_as p ≡ Some v → (w : Var) × (binder p ≡ Some w) × (w.name ≡ v.name)
bound_binder (act (new x) p) v e = (x, refl, ap (λ (z : Var). z.name) (some_var x v e))
bound_binder (lookup t x p q) v e = (x, refl, ap (λ (z : Var). z.name) (some_var (message_var x) v e))
bound_binder _ v e = cc

listed_in : (o : Option Var) (w : Var) → o ≡ Some w → Contains (listed o) w
listed_in o w e = subst (λ (m : Option Var). Contains (listed m) w) (sym e) (first_item w [])

bad_place : (g : Sig) (before : List Site) (s : Site) (n : Node) → Contains (head_nodes s.body) n → IsBadNode g n → HasFlaw g before s BadFunction
bad_place g before s (node.symbol b f k) c h = by (origin s.body (node.symbol b f k) c) where
  by : Origin s.body (node.symbol b f k) → HasFlaw g before s BadFunction
  by (in_term a t ht pt m) = inl (record { term = t; stands = ht; bad = λ o. h (held_in g a b t f k m o) })
  by (is_bound w e d) = absurd (binder_other w (node.symbol b f k) tt d)
  by (is_fact a i m d) = absurd (fact_other a i (node.symbol b f k) tt d)
bad_place g before s (node.binder v) c h = inr (record { var = v; stands = head_binder s.body v c; plain = h.0; constant = h.1 })
bad_place g before s (node.variable v) c h = absurd h
bad_place g before s (node.public m) c h = absurd h
bad_place g before s (node.fresh m) c h = absurd h
bad_place g before s (node.fact a f) c h = absurd h

reserved_var_place : (s : Site) (n : Node) → Contains (head_nodes s.body) n → IsReservedVarNode n → HasReservedVar s
reserved_var_place s (node.variable v) c h =
    record { var = v; stands = Contains-append_right (listed (binder s.body)) (terms_vars (head_terms s.body)) v (head_var s.body v c); reserved = h }
reserved_var_place s (node.binder v) c h =
    let w = bound_binder s.body v (head_binder s.body v c) in
    record {
      var = w.0;
      stands = Contains-append_left (listed (binder s.body)) (terms_vars (head_terms s.body)) w.0 (listed_in (binder s.body) w.0 w.1);
      reserved = subst (λ (n : List ℕ). starts_with nat_eq n (codes "sapic_") ≡ true) (sym w.2) h;
    }
reserved_var_place s (node.symbol b f k) c h = absurd h
reserved_var_place s (node.public m) c h = absurd h
reserved_var_place s (node.fresh m) c h = absurd h
reserved_var_place s (node.fact a f) c h = absurd h

reserved_fact_place : (s : Site) (n : Node) → Contains (head_nodes s.body) n → IsReservedFactNode n → HasReservedFact s
reserved_fact_place s (node.fact a f) c h = record { fact = f; stands = head_fact s.body a f c; reserved = h }
reserved_fact_place s (node.variable v) c h = absurd h
reserved_fact_place s (node.binder v) c h = absurd h
reserved_fact_place s (node.symbol b f k) c h = absurd h
reserved_fact_place s (node.public m) c h = absurd h
reserved_fact_place s (node.fresh m) c h = absurd h

destructor_place : (g : Sig) (s : Site) (n : Node) → Contains (head_nodes s.body) n → IsDestructorNode g n → HasPatternDestructor g s
destructor_place g s (node.symbol Pattern f k) c h = by (origin s.body (node.symbol Pattern f k) c) where
  by : Origin s.body (node.symbol Pattern f k) → HasPatternDestructor g s
  by (in_term a t ht pt m) = let found = destructor_in g a t f k m h in record { term = t; stands = pt found.0; destructor = found.1 }
  by (is_bound w e d) = absurd (binder_other w (node.symbol Pattern f k) tt d)
  by (is_fact a i m d) = absurd (fact_other a i (node.symbol Pattern f k) tt d)
destructor_place g s (node.symbol Shown f k) c h = absurd h
destructor_place g s (node.symbol Given f k) c h = absurd h
destructor_place g s (node.fact a f) c h = absurd h
destructor_place g s (node.variable v) c h = absurd h
destructor_place g s (node.binder v) c h = absurd h
destructor_place g s (node.public m) c h = absurd h
destructor_place g s (node.fresh m) c h = absurd h

unbound_place : (s : Site) (n : Node) → IsUnboundNode s n → unbound s.above.scope s.body ≡ [] → ⊥
unbound_place s (node.variable v) h e = none_of v (subst (λ vs. Contains vs v) e h)
unbound_place s (node.fact a f) h e = absurd h
unbound_place s (node.binder v) h e = absurd h
unbound_place s (node.symbol b f k) h e = absurd h
unbound_place s (node.public m) h e = absurd h
unbound_place s (node.fresh m) h e = absurd h

rebound_place : (s : Site) (n : Node) → Contains (head_nodes s.body) n → IsReboundNode s n → Rebinds s
rebound_place s (node.binder v) c h =
    let w = bound_binder s.body v (head_binder s.body v c) in
    record { var = w.0; stands = w.1; in_scope = subst (λ (n : List ℕ). is_known (var_names s.above.scope) n ≡ true) (sym w.2) h }
rebound_place s (node.variable v) c h = absurd h
rebound_place s (node.fact a f) c h = absurd h
rebound_place s (node.symbol b f k) c h = absurd h
rebound_place s (node.public m) c h = absurd h
rebound_place s (node.fresh m) c h = absurd h

sign_place : (s : Site) (n : Node) → Contains (head_nodes s.body) n → IsOtherSignNode s n → HasSortClash s
sign_place s (node.variable v) c h = record { var = v; stands = head_var s.body v c; signed = h.signed; bound = h.bound; binder = h.binder; other = h.other }
sign_place s (node.binder v) c h = absurd h
sign_place s (node.fact a f) c h = absurd h
sign_place s (node.symbol b f k) c h = absurd h
sign_place s (node.public m) c h = absurd h
sign_place s (node.fresh m) c h = absurd h

-- the facts in front of a node are those in front of its fact
fact_index : (φ : Node → List Fact) (ns : List Node) (k : ℕ) (n : Node) (f : Fact) → slice_get ns k ≡ Some n → φ n ≡ f ∷ []
    → (at : ℕ) × (slice_get (flat_map φ ns) at ≡ Some f) × (take at (flat_map φ ns) ≡ flat_map φ (take k ns))
fact_index φ [] k n f e d = cc
fact_index φ (m ∷ ms) zero n f e d =
    (0, ap (λ hs. slice_get (hs ++ flat_map φ ms) 0) (ap φ (same_node m n e) ∙ d), refl)
  where
    same_node : (x y : Node) → Some x ≡ Some y → x ≡ y
    same_node x y h = cc
fact_index φ (m ∷ ms) (suc k) n f e d =
    let later = fact_index φ ms k n f e d in
    behind_all (φ m) later.0 later.1 later.2
  where
    behind_all : (hs : List Fact) (at : ℕ) → slice_get (flat_map φ ms) at ≡ Some f → take at (flat_map φ ms) ≡ flat_map φ (take k ms)
        → (i : ℕ) × (slice_get (hs ++ flat_map φ ms) i ≡ Some f) × (take i (hs ++ flat_map φ ms) ≡ hs ++ flat_map φ (take k ms))
    behind_all [] at a b = (at, a, b)
    behind_all (h ∷ hs) at a b = let more = behind_all hs at a b in (suc more.0, more.1, ap (λ us. h ∷ us) more.2)

-- a fact of these that differs from an earlier one
clash_at : (differ : Fact → Fact → Type 0) (φ : Node → List Fact) (met facts : List Fact) (ns : List Node) (k : ℕ) (n : Node) (f : Fact) → flat_map φ ns ≡ facts
    → slice_get ns k ≡ Some n → φ n ≡ f ∷ [] → Differs differ (met ++ flat_map φ (take k ns)) f → HasClash differ met facts
clash_at differ φ met facts ns k n f e stands d h =
    let index = fact_index φ ns k n f stands d in
    record {
      at = index.0;
      fact = f;
      stands = ap (λ hs. slice_get hs index.0) (sym e) ∙ index.1;
      earlier = h.other;
      before = subst (λ hs. Contains (met ++ hs) h.other) (sym index.2 ∙ ap (take index.0) e) h.stands;
      name = h.name;
      other = h.differs;
    }

clash_place : (before : List Site) (s : Site) (k : ℕ) (n : Node) → slice_get (head_nodes s.body) k ≡ Some n → IsClashingNode before (take k (head_nodes s.body)) n
    → HasClash HasOtherForm (flat_map (λ (b : Site). stored_facts b.body) before) (stored_facts s.body)
    ⊎ HasClash HasOtherArity (flat_map (λ (b : Site). shown_facts b.body) before) (shown_facts s.body)
clash_place before s k (node.fact Pattern f) e h =
    inl (clash_at HasOtherForm stored_of (flat_map (λ (b : Site). stored_facts b.body) before) (stored_facts s.body) (head_nodes s.body) k (node.fact Pattern f) f (stored s.body) e refl h)
clash_place before s k (node.fact Given f) e h =
    inl (clash_at HasOtherForm stored_of (flat_map (λ (b : Site). stored_facts b.body) before) (stored_facts s.body) (head_nodes s.body) k (node.fact Given f) f (stored s.body) e refl h)
clash_place before s k (node.fact Shown f) e h =
    inr (clash_at HasOtherArity shown_of (flat_map (λ (b : Site). shown_facts b.body) before) (shown_facts s.body) (head_nodes s.body) k (node.fact Shown f) f (shown_in s.body) e refl h)
clash_place before s k (node.variable v) e h = absurd h
clash_place before s k (node.binder v) e h = absurd h
clash_place before s k (node.symbol b f i) e h = absurd h
clash_place before s k (node.public m) e h = absurd h
clash_place before s k (node.fresh m) e h = absurd h

-- where a node has a flaw, its place has it
pub flawed_place : (g : Sig) (before : List Site) (s : Site) (w : Flaw) (k : ℕ) → IsOfHead w → IsFlawedAt g before s w k → HasFlaw g before s w
flawed_place g before s BadFunction k o h = bad_place g before s h.node (contains_got (head_nodes s.body) h.node k h.stands) h.flaw
flawed_place g before s ReservedVar k o h = reserved_var_place s h.node (contains_got (head_nodes s.body) h.node k h.stands) h.flaw
flawed_place g before s ReservedFact k o h = reserved_fact_place s h.node (contains_got (head_nodes s.body) h.node k h.stands) h.flaw
flawed_place g before s PatternDestructor k o h = destructor_place g s h.node (contains_got (head_nodes s.body) h.node k h.stands) h.flaw
flawed_place g before s Unbound k o h = unbound_place s h.node h.flaw
flawed_place g before s Rebound k o h = rebound_place s h.node (contains_got (head_nodes s.body) h.node k h.stands) h.flaw
flawed_place g before s SortClash k o h = sign_place s h.node (contains_got (head_nodes s.body) h.node k h.stands) h.flaw
flawed_place g before s FactClash k o h = clash_place before s k h.node h.stands h.flaw
flawed_place g before s ScopeFull k o h = absurd o

pub place_of_node : (g : Sig) (before : List Site) (s : Site) (w : Flaw) (k : ℕ) → IsOfHead w → IsNodeOf g before s w k → HasFlaw g before s w
place_of_node g before s w k o h = flawed_place g before s w k o h.here
