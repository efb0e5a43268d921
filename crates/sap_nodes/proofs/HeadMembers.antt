-- What stands at a head stands among its nodes.
use Rattle.std.proofs.Common.{◌≡◌, List, [], ◌∷◌, ◌++◌, Some, inl, inr, arith, refl, sym, ap, subst}
use Rattle.std.specs.Prelude.{◌⊎◌, Contains}
use Rattle.std.specs.List.{flat_map}
use Rattle.std.proofs.lemmas.List.Elements.{Contains-append_left, Contains-append_right, Contains-append_cases}
use Rattle.sap_terms.specs.Tree as tree
use Rattle.sap_terms.specs.Tree.{Tree, Trees, none, more, trees_of, list_of}
use Rattle.sap_terms.specs.Variables.{tree_vars, trees_vars}
use Rattle.sap_terms.specs.declared.fact.Fact.{Fact}
use Rattle.sap_terms.specs.declared.var.Var.{Var}
use Rattle.sap_terms.proofs.PlainLaws.Items.{first_item, later_item, item_cases, cons_cases}
use Rattle.sap_process.specs.Action.{Action, new, out, send, input, receive, event, insert, delete, lock, unlock, embedded}
use Rattle.sap_process.specs.Heads.{facts_terms, terms_vars, action_terms, head_terms, binder, bound_as, action_patterns, patterns, stored_facts, shown_facts}
use Rattle.sap_process.specs.Proc.{Proc, nil, parallel, replicated, act, test, lookup}
use Rattle.sap_process.specs.Sites.{message_var}
use Rattle.sap_nodes.specs.HeadNodes as node
use Rattle.sap_nodes.specs.HeadNodes.{Node, tree_nodes, trees_nodes, fact_nodes, facts_nodes, action_nodes, head_nodes}
use Rattle.sap_nodes.specs.declared.part.Part.{Part}
use Rattle.sap_nodes.specs.declared.part.Part.TheVariants.{Pattern, Shown, Given}

pub none_of : {X : Type 0} (y : X) → Contains [] y → ⊥
none_of y h = let few = h.1 in omega (arith, few)

-- one of these nodes is such
abbrev pub Has : (Node → Type 0) → List Node → Type 0
Has Q ns = (n : Node) × Contains ns n × Q n

pub has_first : (Q : Node → Type 0) (n : Node) (ns : List Node) → Q n → Has Q (n ∷ ns)
has_first Q n ns q = (n, first_item n ns, q)

pub has_later : (Q : Node → Type 0) (n : Node) (ns : List Node) → Has Q ns → Has Q (n ∷ ns)
has_later Q n ns h = (h.0, later_item n ns h.0 h.1, h.2)

pub has_left : (Q : Node → Type 0) (ms ns : List Node) → Has Q ms → Has Q (ms ++ ns)
has_left Q ms ns h = (h.0, Contains-append_left ms ns h.0 h.1, h.2)

pub has_right : (Q : Node → Type 0) (ms ns : List Node) → Has Q ns → Has Q (ms ++ ns)
has_right Q ms ns h = (h.0, Contains-append_right ms ns h.0 h.1, h.2)

-- an item of lists that are put together is one of one of them
pub in_flat : {X Y : Type 0} (f : X → List Y) (xs : List X) (y : Y) → Contains (flat_map f xs) y → (x : X) × Contains xs x × Contains (f x) y
in_flat f [] y c = absurd (none_of y c)
in_flat {X} {Y} f (x ∷ xs) y c = by (Contains-append_cases (f x) (flat_map f xs) y c) (λ h. in_flat f xs y h) where
  by : Contains (f x) y ⊎ Contains (flat_map f xs) y → (Contains (flat_map f xs) y → (z : X) × Contains xs z × Contains (f z) y)
      → (z : X) × Contains (x ∷ xs) z × Contains (f z) y
  by (inl h) later = (x, first_item x xs, h)
  by (inr h) later = let found = later h in (found.0, later_item x xs found.0 found.1, found.2)

-- where one of these lists has one, so have they together
pub has_flat : {X : Type 0} (Q : Node → Type 0) (f : X → List Node) (xs : List X) (x : X) → Contains xs x → Has Q (f x) → Has Q (flat_map f xs)
has_flat Q f [] x c h = absurd (none_of x c)
has_flat {X} Q f (y ∷ ys) x c h = by (cons_cases y ys x c) (λ k. has_flat Q f ys x k h) where
  by : (y ≡ x) ⊎ Contains ys x → (Contains ys x → Has Q (flat_map f ys)) → Has Q (f y ++ flat_map f ys)
  by (inl e) later = has_left Q (f y) (flat_map f ys) (subst (λ z. Has Q (f z)) (sym e) h)
  by (inr k) later = has_right Q (f y) (flat_map f ys) (later k)

-- the nodes of a list of terms
nodes_of_list : (a : Part) (ts : List Tree) → trees_nodes a (trees_of ts) ≡ flat_map (tree_nodes a) ts
nodes_of_list a [] = refl
nodes_of_list a (t ∷ ts) = ap (λ ns. tree_nodes a t ++ ns) (nodes_of_list a ts)

-- the argument of a fact
has_argument : (Q : Node → Type 0) (a : Part) (f : Fact) (t : Tree) → Contains f.args t → Has Q (tree_nodes a t) → Has Q (fact_nodes a f)
has_argument Q a f t c h =
    has_later Q (node.fact a f) (trees_nodes a (trees_of f.args)) (subst (Has Q) (sym (nodes_of_list a f.args)) (has_flat Q (tree_nodes a) f.args t c h))

-- the argument of one of these facts
has_facts_term : (Q : Node → Type 0) (a : Part) (fs : List Fact) (t : Tree) → Contains (facts_terms fs) t → Has Q (tree_nodes a t) → Has Q (facts_nodes a fs)
has_facts_term Q a fs t c h =
    let found = in_flat (λ (f : Fact). f.args) fs t c in
    has_flat Q (fact_nodes a) fs found.0 found.1 (has_argument Q a found.0 t found.2 h)

-- a fact of a rule
rule_has : (Q : Node → Type 0) (l e r : List Fact) (f : Fact) → Contains (l ++ (e ++ r)) f → ((a : Part) → Has Q (fact_nodes a f))
    → Has Q (action_nodes (embedded l e r))
rule_has Q l e r f c h = by (Contains-append_cases l (e ++ r) f c) where
  behind : Contains e f ⊎ Contains r f → Has Q (facts_nodes Shown e ++ facts_nodes Given r)
  behind (inl k) = has_left Q (facts_nodes Shown e) (facts_nodes Given r) (has_flat Q (fact_nodes Shown) e f k (h Shown))
  behind (inr k) = has_right Q (facts_nodes Shown e) (facts_nodes Given r) (has_flat Q (fact_nodes Given) r f k (h Given))

  by : Contains l f ⊎ Contains (e ++ r) f → Has Q (action_nodes (embedded l e r))
  by (inl k) = has_left Q (facts_nodes Pattern l) (facts_nodes Shown e ++ facts_nodes Given r) (has_flat Q (fact_nodes Pattern) l f k (h Pattern))
  by (inr k) = has_right Q (facts_nodes Pattern l) (facts_nodes Shown e ++ facts_nodes Given r) (behind (Contains-append_cases e r f k))

-- the only one of these terms, or one of two
one : (Q : Node → Type 0) (a : Part) (t u : Tree) → Contains (t ∷ []) u → ((b : Part) → Has Q (tree_nodes b u)) → Has Q (tree_nodes a t)
one Q a t u c h = subst (λ z. Has Q (tree_nodes a z)) (sym (item_cases t u c)) (h a)

two : (Q : Node → Type 0) (a b : Part) (t u v : Tree) → Contains (t ∷ u ∷ []) v → ((d : Part) → Has Q (tree_nodes d v)) → Has Q (tree_nodes a t ++ tree_nodes b u)
two Q a b t u v c h = by (cons_cases t (u ∷ []) v c) where
  by : (t ≡ v) ⊎ Contains (u ∷ []) v → Has Q (tree_nodes a t ++ tree_nodes b u)
  by (inl e) = has_left Q (tree_nodes a t) (tree_nodes b u) (subst (λ z. Has Q (tree_nodes a z)) (sym e) (h a))
  by (inr k) = has_right Q (tree_nodes a t) (tree_nodes b u) (one Q b u v k h)

action_has : (Q : Node → Type 0) (x : Action) (t : Tree) → Contains (action_terms x) t → ((a : Part) → Has Q (tree_nodes a t)) → Has Q (action_nodes x)
action_has Q (new x) t c h = absurd (none_of t c)
action_has Q (out u) t c h = one Q Given u t c h
action_has Q (send u v) t c h = two Q Given Given u v t c h
action_has Q (input u) t c h = one Q Pattern u t c h
action_has Q (receive u v) t c h = two Q Given Pattern u v t c h
action_has Q (event f) t c h = has_argument Q Shown f t c (h Shown)
action_has Q (insert u v) t c h = two Q Given Given u v t c h
action_has Q (delete u) t c h = one Q Given u t c h
action_has Q (lock u n) t c h = one Q Given u t c h
action_has Q (unlock u n) t c h = one Q Given u t c h
action_has Q (embedded l e r) t c h =
    let found = in_flat (λ (f : Fact). f.args) (l ++ (e ++ r)) t c in
    rule_has Q l e r found.0 found.1 (λ a. has_argument Q a found.0 t found.2 (h a))

-- a term at the head
pub head_has : (Q : Node → Type 0) (p : Proc) (t : Tree) → Contains (head_terms p) t → ((a : Part) → Has Q (tree_nodes a t)) → Has Q (head_nodes p)
head_has Q nil t c h = absurd (none_of t c)
head_has Q (parallel p q) t c h = absurd (none_of t c)
head_has Q (replicated p) t c h = absurd (none_of t c)
head_has Q (act x p) t c h = action_has Q x t c h
head_has Q (test u v p q) t c h = two Q Given Given u v t c h
head_has Q (lookup u x p q) t c h = has_left Q (tree_nodes Given u) (node.binder (message_var x) ∷ []) (one Q Given u t c h)

action_pattern : (Q : Node → Type 0) (x : Action) (t : Tree) → Contains (action_patterns x) t → Has Q (tree_nodes Pattern t) → Has Q (action_nodes x)
action_pattern Q (input u) t c h = subst (λ z. Has Q (tree_nodes Pattern z)) (sym (item_cases u t c)) h
action_pattern Q (receive u v) t c h =
    has_right Q (tree_nodes Given u) (tree_nodes Pattern v) (subst (λ z. Has Q (tree_nodes Pattern z)) (sym (item_cases v t c)) h)
action_pattern Q (embedded l e r) t c h =
    has_left Q (facts_nodes Pattern l) (facts_nodes Shown e ++ facts_nodes Given r) (has_facts_term Q Pattern l t c h)
action_pattern Q _ t c h = absurd (none_of t c)

-- a pattern there
pub pattern_has : (Q : Node → Type 0) (p : Proc) (t : Tree) → Contains (patterns p) t → Has Q (tree_nodes Pattern t) → Has Q (head_nodes p)
pattern_has Q (act x p) t c h = action_pattern Q x t c h
pattern_has Q _ t c h = absurd (none_of t c)

mutual
  tree_has : (Q : Node → Type 0) (v : Var) → Q (node.variable v) → (a : Part) (t : Tree) → Contains (tree_vars t) v → Has Q (tree_nodes a t)
  tree_has Q v q a (tree.variable w) c = has_first Q (node.variable w) [] (subst (λ z. Q (node.variable z)) (sym (item_cases w v c)) q)
  tree_has Q v q a (tree.public n) c = absurd (none_of v c)
  tree_has Q v q a (tree.fresh k) c = absurd (none_of v c)
  tree_has Q v q a (tree.apply f ts) c = has_later Q _ (trees_nodes a ts) (trees_have Q v q a ts c)

  trees_have : (Q : Node → Type 0) (v : Var) → Q (node.variable v) → (a : Part) (ts : Trees) → Contains (trees_vars ts) v → Has Q (trees_nodes a ts)
  trees_have Q v q a none c = absurd (none_of v c)
  trees_have Q v q a (more t ts) c =
      elim (Contains-append_cases (tree_vars t) (trees_vars ts) v c) as (λ _. Has Q (trees_nodes a (more t ts))) [
        | inl k ↦ has_left Q (tree_nodes a t) (trees_nodes a ts) (tree_has Q v q a t k)
        | inr k ↦ has_right Q (tree_nodes a t) (trees_nodes a ts) (trees_have Q v q a ts k)
      ]

-- a variable in a term there
pub var_has : (Q : Node → Type 0) (p : Proc) (v : Var) → Contains (terms_vars (head_terms p)) v → Q (node.variable v) → Has Q (head_nodes p)
var_has Q p v c q =
    let found = in_flat tree_vars (head_terms p) v c in
    head_has Q p found.0 found.1 (λ a. tree_has Q v q a found.0 found.2)

-- a variable in a rule
pub rule_var_has : (Q : Node → Type 0) (l e r : List Fact) (f : Fact) (v : Var) → Contains (l ++ (e ++ r)) f → Contains (trees_vars (trees_of f.args)) v
    → Q (node.variable v) → Has Q (action_nodes (embedded l e r))
rule_var_has Q l e r f v c k q =
    rule_has Q l e r f c (λ a. has_later Q (node.fact a f) (trees_nodes a (trees_of f.args)) (trees_have Q v q a (trees_of f.args) k))

some_one : {X : Type 0} (x y : X) → Some x ≡ Some y → x ≡ y
some_one x y e = cc

-- what is bound there
pub binder_has : (Q : Node → Type 0) (p : Proc) (v : Var) → bound_as p ≡ Some v → Q (node.binder v) → Has Q (head_nodes p)
binder_has Q (act (new x) p) v e q = has_first Q (node.binder x) [] (subst (λ z. Q (node.binder z)) (sym (some_one x v e)) q)
binder_has Q (lookup t x p q) v e h =
    has_right Q (tree_nodes Given t) (node.binder (message_var x) ∷ [])
    (has_first Q (node.binder (message_var x)) [] (subst (λ z. Q (node.binder z)) (sym (some_one (message_var x) v e)) h))
binder_has Q _ v e h = cc

-- what is bound has the name of the binder
pub bound_name : (p : Proc) (w : Var) → binder p ≡ Some w → (v : Var) × (bound_as p ≡ Some v) × (v.name ≡ w.name)
bound_name (act (new x) p) w e = (x, refl, ap (λ (z : Var). z.name) (some_one x w e))
bound_name (lookup t x p q) w e = (message_var x, refl, ap (λ (z : Var). z.name) (some_one x w e))
bound_name _ w e = cc

-- a fact there
pub fact_has : (Q : Node → Type 0) (p : Proc) (f : Fact) → Contains (stored_facts p ++ shown_facts p) f → ((a : Part) → Q (node.fact a f)) → Has Q (head_nodes p)
fact_has Q (act (event h) p) f c q =
    subst (λ z. Has Q (fact_nodes Shown z)) (sym (item_cases h f c)) (has_first Q (node.fact Shown f) (trees_nodes Shown (trees_of f.args)) (q Shown))
fact_has Q (act (embedded l e r) p) f c q =
    rule_has Q l e r f (around (Contains-append_cases (l ++ r) e f c)) (λ a. has_first Q (node.fact a f) (trees_nodes a (trees_of f.args)) (q a))
  where
    within : Contains l f ⊎ Contains r f → Contains (l ++ (e ++ r)) f
    within (inl k) = Contains-append_left l (e ++ r) f k
    within (inr k) = Contains-append_right l (e ++ r) f (Contains-append_right e r f k)

    around : Contains (l ++ r) f ⊎ Contains e f → Contains (l ++ (e ++ r)) f
    around (inl k) = within (Contains-append_cases l r f k)
    around (inr k) = Contains-append_right l (e ++ r) f (Contains-append_left e r f k)
fact_has Q _ f c q = absurd (none_of f c)
