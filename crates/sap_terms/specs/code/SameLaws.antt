-- The test of equal trees is equality. These laws stand here since the keys of maps are proved from them; other crates name them
-- in proofs/PlainLaws/Tests.
use Rattle.std.proofs.Common.{◌≡◌, ℕ, List, Bool, true, false, ◌&&◌, IsTrue, refl, sym, ap, ◌∙◌}
use Rattle.std.proofs.lemmas.Slice.Eq.{bytes_eq-Decides}
use Rattle.std.proofs.lemmas.Bool.Decides.{Decides-eqb}
use Rattle.std.specs.Str.{bytes_eq}
use Rattle.sap_terms.specs.declared.var.Sort.{Sort}
use Rattle.sap_terms.specs.declared.var.Sort.TheVariants.{Msg, Fresh, Pub}
use Rattle.sap_terms.specs.View.{tree, term, term-tree}
use Rattle.sap_terms.specs.declared.term.Term.{Term}
use Rattle.sap_terms.specs.Tree.{Tree, variable, public, fresh, apply, Trees, none, more}
use Rattle.sap_terms.specs.Same.{same_sort, same_tree, same_trees}

pub and_true : (a b : Bool) → a ≡ true → b ≡ true → (a && b) ≡ true
and_true true true h k = refl
and_true true false h k = k
and_true false true h k = h
and_true false false h k = h

pub and_left : (a b : Bool) → (a && b) ≡ true → a ≡ true
and_left true b h = refl
and_left false b h = h

pub and_right : (a b : Bool) → (a && b) ≡ true → b ≡ true
and_right true b h = h
and_right false b h = cc

same_sort-refl : (s : Sort) → same_sort s s ≡ true
same_sort-refl Msg = refl
same_sort-refl Fresh = refl
same_sort-refl Pub = refl

same_sort-sound : (s t : Sort) → same_sort s t ≡ true → s ≡ t
same_sort-sound Msg Msg h = refl
same_sort-sound Fresh Fresh h = refl
same_sort-sound Pub Pub h = refl
same_sort-sound _ _ h = cc

pub same_name : (f : List ℕ) → bytes_eq f f ≡ true
same_name f = (bytes_eq-Decides f f).1 refl

mutual
  pub same_tree-refl : (t : Tree) → same_tree t t ≡ true
  same_tree-refl (variable v) = and_true _ _ (same_name v.name) (same_sort-refl v.sort)
  same_tree-refl (public n) = same_name n
  same_tree-refl (fresh k) = (Decides-eqb k k).1 refl
  same_tree-refl (apply f ts) = and_true _ _ (same_name f) (same_trees-refl ts)

  pub same_trees-refl : (ts : Trees) → same_trees ts ts ≡ true
  same_trees-refl none = refl
  same_trees-refl (more t ts) = and_true _ _ (same_tree-refl t) (same_trees-refl ts)

mutual
  pub same_tree-sound : (t u : Tree) → same_tree t u ≡ true → t ≡ u
  same_tree-sound (variable v) (variable w) h =
      let n = (bytes_eq-Decides v.name w.name).0 (and_left _ _ h) in
      let s = same_sort-sound v.sort w.sort (and_right _ _ h) in
      λ i. variable (record { name = n i; sort = s i })
  same_tree-sound (public a) (public b) h = ap public ((bytes_eq-Decides a b).0 h)
  same_tree-sound (fresh j) (fresh k) h = ap fresh ((Decides-eqb j k).0 h)
  same_tree-sound (apply f ts) (apply g us) h =
      let n = (bytes_eq-Decides f g).0 (and_left _ _ h) in
      let s = same_trees-sound ts us (and_right _ _ h) in
      λ i. apply (n i) (s i)
  same_tree-sound _ _ h = cc

  pub same_trees-sound : (ts us : Trees) → same_trees ts us ≡ true → ts ≡ us
  same_trees-sound none none h = refl
  same_trees-sound (more t ts) (more u us) h =
      let s = same_tree-sound t u (and_left _ _ h) in
      let r = same_trees-sound ts us (and_right _ _ h) in
      λ i. more (s i) (r i)
  same_trees-sound _ _ h = cc

-- what an answer on equal terms says of the test
pub test_from_same : (r : Bool) (a b : Term) → (IsTrue r → a ≡ b) × (a ≡ b → IsTrue r) → r ≡ same_tree (tree a) (tree b)
test_from_same true a b h = sym (rw (h.0 refl) (same_tree-refl (tree b)))
test_from_same false a b h = at (same_tree (tree a) (tree b)) refl where
  at : (t : Bool) → same_tree (tree a) (tree b) ≡ t → false ≡ t
  at false e = refl
  at true e = h.1 (sym (term-tree a) ∙ ap term (same_tree-sound (tree a) (tree b) e) ∙ term-tree b)
