-- The nodes that are seen at a place.
use Rattle.std.proofs.Common.{◌≡◌, ℕ, suc, ◌+◌, List, length, refl, ap, sym, ◌∙◌}
use Rattle.std.proofs.lemmas.List.{length-append}
use Rattle.sap_terms.specs.Tree as tree
use Rattle.sap_terms.specs.Tree.{Tree, Trees, none, more, trees_of}
use Rattle.sap_macro.specs.Located.{Located, nil_at, call_at, parallel_at, replicated_at, act_at, test_at, lookup_at}
use Rattle.sap_nodes.specs.HeadNodes.{tree_nodes, trees_nodes}
use Rattle.sap_nodes.specs.declared.part.Part.{Part}
use Rattle.sap_nodes.specs.declared.part.Part.TheVariants.{Given, Shown}
use Rattle.sap_stems.specs.WrittenNodes.{written_nodes}
use Rattle.sap_seen.specs.SeenNodes.{seen_nodes, seen_numbers}

-- terms have as many nodes, whatever part they are of
mutual
  as_many_of : (a b : Part) (t : Tree) → length (tree_nodes a t) ≡ length (tree_nodes b t)
  as_many_of a b (tree.variable v) = refl
  as_many_of a b (tree.public n) = refl
  as_many_of a b (tree.fresh k) = refl
  as_many_of a b (tree.apply f ts) = ap (λ n. suc n) (as_many a b ts)

  as_many : (a b : Part) (ts : Trees) → length (trees_nodes a ts) ≡ length (trees_nodes b ts)
  as_many a b none = refl
  as_many a b (more t ts) =
      length-append (tree_nodes a t) (trees_nodes a ts) ∙ ap (λ n. n + length (trees_nodes a ts)) (as_many_of a b t)
      ∙ ap (λ n. length (tree_nodes b t) + n) (as_many a b ts) ∙ sym (length-append (tree_nodes b t) (trees_nodes b ts))

pub numbers_of_all : (q : Located) (ns : List ℕ) → length ns ≡ length (written_nodes q) → length (seen_numbers q ns) ≡ length (seen_nodes q)
numbers_of_all (nil_at k) ns e = e
numbers_of_all (call_at k f ts) ns e = ap (λ n. suc n) (e ∙ as_many Given Shown (trees_of ts))
numbers_of_all (parallel_at k p q) ns e = e
numbers_of_all (replicated_at k p) ns e = e
numbers_of_all (act_at k a p) ns e = e
numbers_of_all (test_at k t u p q) ns e = e
numbers_of_all (lookup_at k t x p q) ns e = e
