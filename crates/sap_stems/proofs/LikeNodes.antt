-- Nodes of instances are like the written ones, once those of arguments are put in.
use Rattle.std.proofs.Common.{◌≡◌, ℕ, suc, Bool, true, false, List, [], ◌∷◌, ◌++◌, length, map, Some, refl, sym, ap, subst}
use Rattle.std.proofs.lemmas.List.{append-nil, length-map}
use Rattle.std.specs.Prelude.{if◌then◌else◌}
use Rattle.std.specs.List.{AllZip}
use Rattle.std.specs.Str.{bytes_eq}
use Rattle.std.proofs.lemmas.Grind.{flat_map-append}
use Rattle.sap_terms.specs.Choice.{Choice, instance, instances}
use Rattle.sap_terms.specs.Modulo.{instance_fact, instance_facts}
use Rattle.sap_terms.specs.Tree as tree
use Rattle.sap_terms.specs.Tree.{Tree, Trees, none, more, trees_of, list_of}
use Rattle.sap_terms.specs.declared.fact.Fact.{Fact}
use Rattle.sap_terms.specs.declared.var.Var.{Var}
use Rattle.sap_process.specs.Action.{Action, new, out, send, input, receive, event, insert, delete, lock, unlock, embedded}
use Rattle.sap_process.specs.Instance.{action_instance}
use Rattle.sap_process.specs.Sites.{message_var}
use Rattle.sap_macro.specs.Expansion.{binding, by_names, put, unchanged}
use Rattle.sap_macro.specs.UpToNames.{named}
use Rattle.sap_nodes.specs.HeadNodes.{Node, binder, variable, tree_nodes, trees_nodes, fact_nodes, facts_nodes, action_nodes}
use Rattle.sap_nodes.specs.declared.part.Part.{Part}
use Rattle.sap_nodes.specs.declared.part.Part.TheVariants.{Pattern, Shown, Given}
use Rattle.sap_stems.specs.Likeness.{IsLike}
use Rattle.sap_stems.proofs.NodesIn.{NodesPut, node_for, nodes_for, nodes_in, nodes_put, nodes_behind, or_node}
use Rattle.sap_stems.proofs.Pieces.{join_zip}

-- the nodes are like these, one by one
abbrev pub AreLikeNodes : List Node → List Node → Type 0
AreLikeNodes ns ms = AllZip IsLike ns ms

-- what stands for a variable is like the nodes of its term
abbrev pub Fits : List NodesPut → Choice → Type 0
Fits ps r = (b : Part) (v : Var) → AreLikeNodes (node_for ps (variable v)) (tree_nodes b (r v))

module _ (ps : List NodesPut) (r : Choice) (fits : Fits ps r) where
  joined : (ns ms js ks : List Node) → AreLikeNodes (nodes_in ps ns) js → AreLikeNodes (nodes_in ps ms) ks → AreLikeNodes (nodes_in ps (ns ++ ms)) (js ++ ks)
  joined ns ms js ks a b = subst (λ (ls : List Node). AreLikeNodes ls (js ++ ks)) (sym (flat_map-append (node_for ps) ns ms)) (join_zip IsLike (nodes_in ps ns) (nodes_in ps ms) js ks a b)

  same_count : (ts : Trees) → length (list_of ts) ≡ length (list_of (instances r ts))
  same_count none = refl
  same_count (more t ts) = ap (λ n. suc n) (same_count ts)

  mutual
    pub tree_like : (a b : Part) (t : Tree) → AreLikeNodes (nodes_in ps (tree_nodes a t)) (tree_nodes b (instance r t))
    tree_like a b (tree.variable v) = subst (λ (ns : List Node). AreLikeNodes ns (tree_nodes b (r v))) (sym (append-nil (node_for ps (variable v)))) (fits b v)
    tree_like a b (tree.public n) = (refl, tt)
    tree_like a b (tree.fresh k) = (refl, tt)
    tree_like a b (tree.apply f ts) = ((refl, same_count ts), trees_like a b ts)

    pub trees_like : (a b : Part) (ts : Trees) → AreLikeNodes (nodes_in ps (trees_nodes a ts)) (trees_nodes b (instances r ts))
    trees_like a b none = tt
    trees_like a b (more t ts) = joined (tree_nodes a t) (trees_nodes a ts) (tree_nodes b (instance r t)) (trees_nodes b (instances r ts)) (tree_like a b t) (trees_like a b ts)

  same_trees : (ts : List Tree) → instances r (trees_of ts) ≡ trees_of (map (instance r) ts)
  same_trees [] = refl
  same_trees (t ∷ ts) = ap (λ (us : Trees). more (instance r t) us) (same_trees ts)

  fact_like : (a : Part) (f : Fact) → AreLikeNodes (nodes_in ps (fact_nodes a f)) (fact_nodes a (instance_fact r f))
  fact_like a f = (
    (refl, refl, refl, sym (length-map f.args (instance r))),
    subst (λ (us : Trees). AreLikeNodes (nodes_in ps (trees_nodes a (trees_of f.args))) (trees_nodes a us)) (same_trees f.args) (trees_like a a (trees_of f.args)),
  )

  facts_like : (a : Part) (fs : List Fact) → AreLikeNodes (nodes_in ps (facts_nodes a fs)) (facts_nodes a (instance_facts r fs))
  facts_like a [] = tt
  facts_like a (f ∷ fs) = joined (fact_nodes a f) (facts_nodes a fs) (fact_nodes a (instance_fact r f)) (facts_nodes a (instance_facts r fs)) (fact_like a f) (facts_like a fs)

  two : (a b : Part) (t u : Tree) → AreLikeNodes (nodes_in ps (tree_nodes a t ++ tree_nodes b u)) (tree_nodes a (instance r t) ++ tree_nodes b (instance r u))
  two a b t u = joined (tree_nodes a t) (tree_nodes b u) (tree_nodes a (instance r t)) (tree_nodes b (instance r u)) (tree_like a a t) (tree_like b b u)

  pub action_like : (names : List ℕ → List ℕ) (c : Action) → AreLikeNodes (nodes_in ps (action_nodes c)) (action_nodes (binding names (action_instance r c)))
  action_like names (new x) = (refl, tt)
  action_like names (out t) = tree_like Given Given t
  action_like names (send t u) = two Given Given t u
  action_like names (input t) = tree_like Pattern Pattern t
  action_like names (receive t u) = two Given Pattern t u
  action_like names (event f) = fact_like Shown f
  action_like names (insert t u) = two Given Given t u
  action_like names (delete t) = tree_like Given Given t
  action_like names (lock t n) = tree_like Given Given t
  action_like names (unlock t n) = tree_like Given Given t
  action_like names (embedded k e l) =
      joined (facts_nodes Pattern k) (facts_nodes Shown e ++ facts_nodes Given l) (facts_nodes Pattern (instance_facts r k)) (facts_nodes Shown (instance_facts r e) ++ facts_nodes Given (instance_facts r l))
      (facts_like Pattern k) (joined (facts_nodes Shown e) (facts_nodes Given l) (facts_nodes Shown (instance_facts r e)) (facts_nodes Given (instance_facts r l)) (facts_like Shown e) (facts_like Given l))

  pub test_like : (t u : Tree) → AreLikeNodes (nodes_in ps (tree_nodes Given t ++ tree_nodes Given u)) (tree_nodes Given (instance r t) ++ tree_nodes Given (instance r u))
  test_like t u = two Given Given t u

  pub lookup_like : (names : List ℕ → List ℕ) (t : Tree) (x : Var) → AreLikeNodes (nodes_in ps (tree_nodes Given t ++ binder (message_var x) ∷ [])) (tree_nodes Given (instance r t) ++ binder (message_var (named (names x.name) x.sort)) ∷ [])
  lookup_like names t x = joined (tree_nodes Given t) (binder (message_var x) ∷ []) (tree_nodes Given (instance r t)) (binder (message_var (named (names x.name) x.sort)) ∷ []) (tree_like Given Given t) (refl, tt)

  -- ---- behind a use

  none_put : (names : List ℕ → List ℕ) (xs : List (List ℕ)) (b : Part) (v : Var) → AreLikeNodes (variable v ∷ []) (tree_nodes b (put xs [] (by_names names) v))
  none_put names [] b v = (refl, tt)
  none_put names (x ∷ xs) b v = by (none_put names xs b v) (bytes_eq x v.name)
    where
      by : AreLikeNodes (variable v ∷ []) (tree_nodes b (put xs [] (by_names names) v)) → (t : Bool) → AreLikeNodes (variable v ∷ []) (tree_nodes b (if t then tree.public [] else put xs [] (by_names names) v))
      by rest true = (refl, tt)
      by rest false = rest

  put_fits : (names : List ℕ → List ℕ) (xs : List (List ℕ)) (ts : List Tree) → Fits (nodes_put ps xs ts) (put xs (map (instance r) ts) (by_names names))
  put_fits names [] ts b v = (refl, tt)
  put_fits names (x ∷ xs) [] b v = none_put names (x ∷ xs) b v
  put_fits names (x ∷ xs) (t ∷ ts) b v = by (put_fits names xs ts b v) (bytes_eq x v.name)
    where
      by : AreLikeNodes (node_for (nodes_put ps xs ts) (variable v)) (tree_nodes b (put xs (map (instance r) ts) (by_names names) v)) → (c : Bool) → AreLikeNodes (or_node (variable v) (if c then Some (nodes_in ps (tree_nodes Given t)) else nodes_for (nodes_put ps xs ts) v.name))
          (tree_nodes b (if c then instance r t else put xs (map (instance r) ts) (by_names names) v))
      by rest true = tree_like Given b t
      by rest false = rest

  pub use_fits : (names : List ℕ → List ℕ) (x : List ℕ) (xs : List (List ℕ)) (ts : List Tree) → Fits (nodes_behind ps (x ∷ xs) ts) (put (x ∷ xs) (map (instance r) ts) (by_names names))
  use_fits names x xs ts = put_fits names (x ∷ xs) ts

pub nothing_fits : Fits [] unchanged
nothing_fits b v = (refl, tt)
