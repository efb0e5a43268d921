-- The limit of the program's terms: names are within it, and with a normal term its parts.
use Rattle.std.proofs.Common.{◌≡◌, ◌≤◌, ap, arith}
use Rattle.sap_terms.specs.Equations.{equations}
use Rattle.sap_terms.specs.Normal.{IsNormalForm, IsNormal, AreNormal}
use Rattle.sap_terms.specs.Equal.{IsTheoryEqual}
use Rattle.sap_terms.specs.Signature.{Sig}
use Rattle.sap_terms.specs.Subterms.{SomeSubterm, SomeSubtermWithin, itself, below, here, later}
use Rattle.sap_terms.specs.Tree.{Tree, variable, public, fresh, apply, Trees, node_count, trees_count}
use Rattle.sap_terms.specs.Tree as tree
use Rattle.sap_rewrite.specs.Laws.{FormIsOne}
use Rattle.sap_runs.specs.Limits.{HasFewNodes}
use Rattle.sap_forward.proofs.Advance.{IsLimit}

module _ (one : FormIsOne) (g : Sig) where
  normal_itself : (t n : Tree) → IsNormal (equations g) t → IsNormalForm (equations g) t n → n ≡ t
  normal_itself t n h f = one (equations g) t n t f (record { equal = IsTheoryEqual.same; normal = h })

  no_larger : (n t : Tree) → n ≡ t → node_count n ≤ node_count t
  no_larger n t e = let same : node_count n ≡ node_count t = ap node_count e in omega arith

  mutual
    part_small : (t n : Tree) → IsNormal (equations g) t → SomeSubterm (λ u. IsNormalForm (equations g) u n) t → node_count n ≤ node_count t
    part_small (variable v) n h (itself f) = no_larger n (variable v) (normal_itself (variable v) n h f)
    part_small (public a) n h (itself f) = no_larger n (public a) (normal_itself (public a) n h f)
    part_small (fresh k) n h (itself f) = no_larger n (fresh k) (normal_itself (fresh k) n h f)
    part_small (apply f ts) n h (itself k) = no_larger n (apply f ts) (normal_itself (apply f ts) n h k)
    part_small (apply f ts) n h (below s) = let le = parts_small ts n h.1 s in omega arith

    parts_small : (ts : Trees) (n : Tree) → AreNormal (equations g) ts → SomeSubtermWithin (λ u. IsNormalForm (equations g) u n) ts → node_count n ≤ trees_count ts
    parts_small tree.none n h s = elim s [ ]
    parts_small (tree.more t ts) n h (here s) = let le = part_small t n h.0 s in omega arith
    parts_small (tree.more t ts) n h (later s) = let le = parts_small ts n h.1 s in omega arith

  only_part : (t n : Tree) → SomeSubtermWithin (λ u. IsNormalForm (equations g) u n) (tree.more t tree.none) → SomeSubterm (λ u. IsNormalForm (equations g) u n) t
  only_part t n (here s) = s
  only_part t n (later s) = elim s [ ]

  pub small_is_limit : IsLimit g HasFewNodes
  small_is_limit = record { names = λ n. omega arith; publics = λ a. omega arith; parts = λ t h w n s. let le = part_small t n h (only_part t n s) in omega arith }
