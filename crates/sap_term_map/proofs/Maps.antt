-- Maps from terms as functions of trees.
use Rattle.std.proofs.Common.{◌≡◌, [], Bool, true, false, cond, Option, None, option_map, refl, sym, ap, ◌∙◌, if◌then◌else◌}
use Rattle.indexmap.specs.IndexMap.{IndexMap, get_by}
use Rattle.sap_term_map.specs.Values.{with_at}
use Rattle.sap_terms.specs.Same.{same_tree}
use Rattle.sap_terms.specs.Tree.{Tree}
use Rattle.sap_terms.specs.View.{term, tree, tree-term}
use Rattle.sap_terms.specs.declared.term.Term.{Term}

pushed : (b : Bool) (w : Option Term) (o : Option Term) → option_map tree (cond b w o) ≡ (if b then option_map tree w else option_map tree o)
pushed true w o = refl
pushed false w o = refl

module _ {S : Type 0} where
  -- what the map has at x
  abbrev pub at : IndexMap Term Term S → Tree → Option Tree
  at m x = option_map tree (get_by (λ k. same_tree x (tree k)) m)

  pub at_empty : (m : IndexMap Term Term S) → m.entries ≡ [] → at m ≡ λ _. None
  at_empty m e = λ i x. none_at x i where
    none_at : (x : Tree) → at m x ≡ None
    none_at x = rw e refl

  pub at_same : (m n : IndexMap Term Term S) → n.entries ≡ m.entries → at n ≡ at m
  at_same m n e = λ i x. same_at x i where
    same_at : (x : Tree) → at n x ≡ at m x
    same_at x = rw e refl

  -- where the map has w at the key, and at each other what it had
  pub at_written : (m n : IndexMap Term Term S) (k : Term) (w : Option Term) → ((q : Term) → get_by (λ b. same_tree (tree q) (tree b)) n ≡ cond (same_tree (tree k) (tree q)) w (get_by (λ b. same_tree (tree q) (tree b)) m)) → at n ≡ with_at (at m) (tree k) (option_map tree w)
  at_written m n k w u = λ i x. written x i where
    written : (x : Tree) → at n x ≡ with_at (at m) (tree k) (option_map tree w) x
    written x =
        ap (λ y. at n y) (sym (tree-term x)) ∙ ap (option_map tree) (u (term x))
        ∙ pushed (same_tree (tree k) (tree (term x))) w (get_by (λ b. same_tree (tree (term x)) (tree b)) m)
        ∙ ap (λ y. with_at (at m) (tree k) (option_map tree w) y) (tree-term x)
