-- Scopes that grow by the variables of nodes, one list of nodes behind another.
use Rattle.std.proofs.Common.{◌≡◌, ◌+◌, ℕ, Bool, true, false, List, [], ◌∷◌, ◌++◌, drop, Option, Some, None, Bor, is_some, ◌||◌, refl, sym, ap, ◌∙◌}
use Rattle.std.proofs.lemmas.List.{append_assoc, append-nil}
use Rattle.std.specs.Option.{option_copied}
use Rattle.std.specs.Prelude.{if◌then◌else◌, slice_get}
use Rattle.std.specs.List.{find}
use Rattle.std.specs.Str.{bytes_eq}
use Rattle.sap_terms.specs.Tree as tree
use Rattle.sap_terms.specs.Tree.{Tree, Trees, none, more, trees_of, list_of-trees_of}
use Rattle.sap_terms.specs.Variables.{facts_vars, is_known, new_vars, tree_vars, trees_vars}
use Rattle.sap_terms.specs.declared.fact.Fact.{Fact}
use Rattle.sap_terms.specs.declared.var.Var.{Var}
use Rattle.sap_terms.proofs.PlainLaws.Lists.{drop_got}
use Rattle.sap_terms.proofs.PlainLaws.Trees.{item_le-trees_count}
use Rattle.sap_process.specs.Sites.{var_names}
use Rattle.sap_nodes.specs.HeadNodes.{Node, binder, variable, public, fresh, symbol, fact, fact_nodes, facts_nodes, tree_nodes, trees_nodes}
use Rattle.sap_nodes.specs.declared.part.Part.{Part}
use Rattle.sap_captures.specs.code.Bindings.{bound, bound_all, passed, taken}
use Rattle.sap_captures.specs.declared.binding.Binding.{Binding}

pub bound_append : (a : Part) (b : Binding) (ns ks : List Node) → bound_all a b (ns ++ ks) ≡ bound_all a (bound_all a b ns) ks
bound_append a b [] ks = refl
bound_append a b (n ∷ ns) ks = bound_append a (bound a b n) ns ks

pub ruleset bound_laws = (bound_append, list_of-trees_of, item_le-trees_count)

-- one term more, and one fact more
pub term_step : (a : Part) (b : Binding) (ts : List Tree) (k : ℕ) (t : Tree) → slice_get ts k ≡ Some t
    → bound_all a (bound_all a b (tree_nodes a t)) (trees_nodes a (trees_of (drop (k + 1) ts))) ≡ bound_all a b (trees_nodes a (trees_of (drop k ts)))
term_step a b ts k t e =
    sym (bound_append a b (tree_nodes a t) (trees_nodes a (trees_of (drop (k + 1) ts)))) ∙ sym (ap (λ (us : List Tree). bound_all a b (trees_nodes a (trees_of us))) (drop_got ts k t e))

pub fact_step : (a : Part) (b : Binding) (fs : List Fact) (k : ℕ) (f : Fact) → slice_get fs k ≡ Some f
    → bound_all a (bound_all a b (fact_nodes a f)) (facts_nodes a (drop (k + 1) fs)) ≡ bound_all a b (facts_nodes a (drop k fs))
fact_step a b fs k f e =
    sym (bound_append a b (fact_nodes a f) (facts_nodes a (drop (k + 1) fs))) ∙ sym (ap (λ (hs : List Fact). bound_all a b (facts_nodes a hs)) (drop_got fs k f e))

-- ---- whether a name is in scope

abbrev binder_named : List Var → List ℕ → Option Var
binder_named vs n = find (λ (v : Var). bytes_eq v.name n) vs

pub named_known : (vs : List Var) (n : List ℕ) → is_some (binder_named vs n) ≡ is_known (var_names vs) n
named_known [] n = refl
named_known (v ∷ vs) n = by (bytes_eq v.name n) (named_known vs n) where
  by : (b : Bool) → is_some (binder_named vs n) ≡ is_known (var_names vs) n → is_some (if b then Some v else binder_named vs n) ≡ (b || is_known (var_names vs) n)
  by true later = refl
  by false later = later

pub copied_is : {T : Type 0} (o : Option (Bor T)) → is_some o ≡ is_some (option_copied o)
copied_is None = refl
copied_is (Some x) = refl

-- ---- the variables among nodes

abbrev pub node_vars : List Node → List Var
node_vars [] = []
node_vars (variable v ∷ ns) = v ∷ node_vars ns
node_vars (binder v ∷ ns) = node_vars ns
node_vars (public n ∷ ns) = node_vars ns
node_vars (fresh k ∷ ns) = node_vars ns
node_vars (symbol c f k ∷ ns) = node_vars ns
node_vars (fact c f ∷ ns) = node_vars ns

pub vars_append : (ns ks : List Node) → node_vars (ns ++ ks) ≡ node_vars ns ++ node_vars ks
vars_append [] ks = refl
vars_append (variable v ∷ ns) ks = ap (λ (vs : List Var). v ∷ vs) (vars_append ns ks)
vars_append (binder v ∷ ns) ks = vars_append ns ks
vars_append (public n ∷ ns) ks = vars_append ns ks
vars_append (fresh k ∷ ns) ks = vars_append ns ks
vars_append (symbol c f k ∷ ns) ks = vars_append ns ks
vars_append (fact c f ∷ ns) ks = vars_append ns ks

mutual
  pub tree_node_vars : (a : Part) (t : Tree) → node_vars (tree_nodes a t) ≡ tree_vars t
  tree_node_vars a (tree.variable v) = refl
  tree_node_vars a (tree.public n) = refl
  tree_node_vars a (tree.fresh k) = refl
  tree_node_vars a (tree.apply f ts) = trees_node_vars a ts

  pub trees_node_vars : (a : Part) (ts : Trees) → node_vars (trees_nodes a ts) ≡ trees_vars ts
  trees_node_vars a none = refl
  trees_node_vars a (more t ts) =
      vars_append (tree_nodes a t) (trees_nodes a ts) ∙ ap (λ (vs : List Var). vs ++ node_vars (trees_nodes a ts)) (tree_node_vars a t)
      ∙ ap (λ (vs : List Var). tree_vars t ++ vs) (trees_node_vars a ts)

pub facts_node_vars : (a : Part) (fs : List Fact) → node_vars (facts_nodes a fs) ≡ facts_vars fs
facts_node_vars a [] = refl
facts_node_vars a (f ∷ fs) =
    vars_append (fact_nodes a f) (facts_nodes a fs) ∙ ap (λ (vs : List Var). vs ++ node_vars (facts_nodes a fs)) (trees_node_vars a (trees_of f.args))
    ∙ ap (λ (vs : List Var). trees_vars (trees_of f.args) ++ vs) (facts_node_vars a fs)

-- ---- the scope behind them

names_append : (vs ws : List Var) → var_names (vs ++ ws) ≡ var_names vs ++ var_names ws
names_append [] ws = refl
names_append (v ∷ vs) ws = ap (λ (ns : List (List ℕ)). v.name ∷ ns) (names_append vs ws)

-- these, and the first occurrences of names that are new
abbrev pub and_new : List Var → List Var → List Var
and_new scope vs = scope ++ new_vars (var_names scope) vs

one_new : (scope vs : List Var) (v : Var) → and_new (scope ++ v ∷ []) vs ≡ scope ++ (v ∷ new_vars (var_names scope ++ v.name ∷ []) vs)
one_new scope vs v =
    ap (λ (ns : List (List ℕ)). (scope ++ v ∷ []) ++ new_vars ns vs) (names_append scope (v ∷ []))
    ∙ append_assoc scope (v ∷ []) (new_vars (var_names scope ++ v.name ∷ []) vs)

pub scope_behind : (a : Part) (b : Binding) (ns : List Node) → (bound_all a b ns).scope ≡ and_new b.scope (node_vars ns)
scope_behind a b [] = sym (append-nil b.scope)
scope_behind a b (binder v ∷ ns) = scope_behind a (passed b) ns
scope_behind a b (public n ∷ ns) = scope_behind a (passed b) ns
scope_behind a b (fresh k ∷ ns) = scope_behind a (passed b) ns
scope_behind a b (symbol c f k ∷ ns) = scope_behind a (passed b) ns
scope_behind a b (fact c f ∷ ns) = scope_behind a (passed b) ns
scope_behind a b (variable v ∷ ns) = by (is_known (var_names b.scope) v.name) (scope_behind a (passed b) ns) (scope_behind a (taken a b v) ns) where
  by : (known : Bool) → (bound_all a (passed b) ns).scope ≡ and_new b.scope (node_vars ns) → (bound_all a (taken a b v) ns).scope ≡ and_new (b.scope ++ v ∷ []) (node_vars ns) → (bound_all a (if known then passed b else taken a b v) ns).scope
      ≡ b.scope ++ (if known then new_vars (var_names b.scope) (node_vars ns) else v ∷ new_vars (var_names b.scope ++ v.name ∷ []) (node_vars ns))
  by true one two = one
  by false one two = two ∙ one_new b.scope (node_vars ns) v
