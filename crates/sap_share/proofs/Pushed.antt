-- A table with one node more.
use Rattle.std.proofs.Common.{◌≡◌, ◌<◌, ◌≤◌, ◌-◌, ◌+◌, ◌^◌, ℕ, List, [], ◌∷◌, ◌++◌, length, Some, sym, ap, subst, ◌∙◌, arith, min, inl, inr}
use Rattle.std.specs.Prelude.{slice_get, slice_index}
use Rattle.std.proofs.lemmas.List.{get_or_append_left, get_or_push, length_push, map_push}
use Rattle.sap_terms.specs.Ground.{IsGround}
use Rattle.sap_terms.specs.Message.{IsOver}
use Rattle.sap_terms.specs.Normal.{IsNormalForm}
use Rattle.sap_terms.specs.Signature.{Sig}
use Rattle.sap_terms.specs.Equations.{equations}
use Rattle.sap_terms.specs.Tree.{Tree, node_count}
use Rattle.sap_terms.specs.View.{tree}
use Rattle.sap_share.specs.Shared.{Shared, tree_at, node_tree, StandsBelow, IsHeld, HaveOneNumber}
use Rattle.sap_share.specs.code.Inside.{trees_in, forms_in, sizes_in, IsRowOf, IsTable, IsNew}
use Rattle.sap_share.specs.declared.node.Node.{Node}
use Rattle.sap_share.specs.declared.row.Row.{Row}
use Rattle.sap_share.proofs.Grown.{tree_at-front, tree_at-last, node_tree-front, got_push, below_push, got_below, got_stands, node_ground, node_over}

-- what a list of numbers has with one more
index_front : (xs : List ℕ) (y k : ℕ) → k < length xs → slice_index (xs ++ y ∷ []) k ≡ slice_index xs k
index_front xs y k h = get_or_append_left xs (y ∷ []) 0 k h

index_last : (xs : List ℕ) (y k : ℕ) → k ≡ length xs → slice_index (xs ++ y ∷ []) k ≡ y
index_last xs y k h = get_or_push xs y 0 k (sym h)

module _ (g : Sig) (ns : List Node) (ts : List Tree) (fs ss : List ℕ) (it : IsTable g ns ts fs ss)
    (n : Node) (below : StandsBelow (length ts) n) (held : IsHeld g n) (new : IsNew ts n)
    (form size : ℕ) (form_below : form ≤ length ts)
    (is_form : IsNormalForm (equations g) (node_tree ts n) (tree_at (ts ++ node_tree ts n ∷ []) form))
    (is_size : size ≡ min (node_count (node_tree ts n)) (2 ^ 64 - 1)) where
  abbrev more : List Tree
  more = ts ++ node_tree ts n ∷ []

  front : (k : ℕ) → k < length ts → tree_at more k ≡ tree_at ts k
  front k h = tree_at-front ts (node_tree ts n ∷ []) k h

  last : (k : ℕ) → k ≡ length ts → tree_at more k ≡ node_tree ts n
  last k e = ap (tree_at more) e ∙ tree_at-last ts (node_tree ts n)

  longer : length more ≡ length ts + 1
  longer = length_push ts (node_tree ts n)

  below_more : (k : ℕ) (m : Node) → slice_get (ns ++ n ∷ []) k ≡ Some m → StandsBelow k m
  below_more k m h = elim (got_push ns n k m h) [
    | inl p ↦ it.below k m p
    | inr q ↦ rw (q.0, q.1, ← it.trees_count) below
  ]

  trees_more : (k : ℕ) (m : Node) → slice_get (ns ++ n ∷ []) k ≡ Some m → tree_at more k ≡ node_tree more m
  trees_more k m h = elim (got_push ns n k m h) [
    | inl p ↦ front k (got_below g ns ts fs ss it k m p) ∙ it.trees k m p ∙ sym (node_tree-front ts (node_tree ts n ∷ []) m (got_stands g ns ts fs ss it k m p))
    | inr q ↦ last k (q.0 ∙ sym it.trees_count) ∙ sym (node_tree-front ts (node_tree ts n ∷ []) n below) ∙ ap (node_tree more) (sym q.1)
  ]

  ground_more : (k : ℕ) → k < length more → IsGround (tree_at more k)
  ground_more k h = elim (below_push ts (node_tree ts n) k h) [
    | inl p ↦ subst IsGround (sym (front k p)) (it.ground k p)
    | inr p ↦ subst IsGround (sym (last k p)) (node_ground ts it.ground n below)
  ]

  over_more : (k : ℕ) → k < length more → IsOver g (tree_at more k)
  over_more k h = elim (below_push ts (node_tree ts n) k h) [
    | inl p ↦ subst (IsOver g) (sym (front k p)) (it.over k p)
    | inr p ↦ subst (IsOver g) (sym (last k p)) (node_over g ts it.over n below held)
  ]

  once_more : HaveOneNumber more (length more)
  once_more i j hi hj e = elim (below_push ts (node_tree ts n) i hi) [
    | inl p ↦ elim (below_push ts (node_tree ts n) j hj) [
      | inl q ↦ it.once i j p q (sym (front i p) ∙ e ∙ front j q)
      | inr q ↦ absurd (new i p (sym (front i p) ∙ e ∙ last j q))
    ]
    | inr p ↦ elim (below_push ts (node_tree ts n) j hj) [
      | inl q ↦ absurd (new j q (sym (front j q) ∙ sym e ∙ last i p))
      | inr q ↦ p ∙ sym q
    ]
  ]

  abbrev forms_more : List ℕ
  forms_more = fs ++ form ∷ []

  form_below_more : (k : ℕ) → k < length more → slice_index forms_more k < length more
  form_below_more k h = elim (below_push ts (node_tree ts n) k h) [
    | inl p ↦
        let f = index_front fs form k (rw (it.forms_count, ← it.trees_count) p) in
        let b = it.form_below k p in
        rw (f, longer) (omega (arith, b))
    | inr p ↦ rw (index_last fs form k (p ∙ it.trees_count ∙ sym it.forms_count), longer) (omega (arith, form_below))
  ]

  form_more : (k : ℕ) → k < length more → IsNormalForm (equations g) (tree_at more k) (tree_at more (slice_index forms_more k))
  form_more k h = elim (below_push ts (node_tree ts n) k h) [
    | inl p ↦
        let f = index_front fs form k (rw (it.forms_count, ← it.trees_count) p) in
        rw (f, front k p, front (slice_index fs k) (it.form_below k p)) (it.form k p)
    | inr p ↦ rw (index_last fs form k (p ∙ it.trees_count ∙ sym it.forms_count), last k p) is_form
  ]

  size_more : (k : ℕ) → k < length more → slice_index (ss ++ size ∷ []) k ≡ min (node_count (tree_at more k)) (2 ^ 64 - 1)
  size_more k h = elim (below_push ts (node_tree ts n) k h) [
    | inl p ↦ index_front ss size k (rw (it.sizes_count, ← it.trees_count) p) ∙ it.size k p ∙ ap (λ t. min (node_count t) (2 ^ 64 - 1)) (sym (front k p))
    | inr p ↦ index_last ss size k (p ∙ it.trees_count ∙ sym it.sizes_count) ∙ is_size ∙ ap (λ t. min (node_count t) (2 ^ 64 - 1)) (sym (last k p))
  ]

  pushed : IsTable g (ns ++ n ∷ []) more forms_more (ss ++ size ∷ [])
  pushed = record {
    trees_count = longer ∙ ap (λ c. c + 1) it.trees_count ∙ sym (length_push ns n);
    forms_count = length_push fs form ∙ ap (λ c. c + 1) it.forms_count ∙ sym (length_push ns n);
    sizes_count = length_push ss size ∙ ap (λ c. c + 1) it.sizes_count ∙ sym (length_push ns n);
    below = below_more;
    trees = trees_more;
    ground = ground_more;
    over = over_more;
    once = once_more;
    form_below = form_below_more;
    form = form_more;
    size = size_more;
  }

-- what contracts see of the parts
abbrev pub seen : Sig → List Row → Shared
seen g rs = record { sig = g; trees = trees_in rs }

-- the same, over rows, where the node is new to what contracts see
pub pushed_row : (g : Sig) (ns : List Node) (rs : List Row) → IsTable g ns (trees_in rs) (forms_in rs) (sizes_in rs) → (s : Shared) → seen g rs ≡ s → (n : Node) → StandsBelow (length s.trees) n → IsHeld s.sig n → IsNew s.trees n
    → (form : ℕ) → form ≤ length s.trees → IsNormalForm (equations s.sig) (node_tree s.trees n) (tree_at (s.trees ++ node_tree s.trees n ∷ []) form) → (r : Row) → IsRowOf s.trees n form r
    → IsTable g (ns ++ n ∷ []) (trees_in (rs ++ r ∷ [])) (forms_in (rs ++ r ∷ [])) (sizes_in (rs ++ r ∷ []))
pushed_row g ns rs it s is n =
    let P : Shared → Type 0 = λ s. StandsBelow (length s.trees) n → IsHeld s.sig n → IsNew s.trees n
    → (form : ℕ) → form ≤ length s.trees → IsNormalForm (equations s.sig) (node_tree s.trees n) (tree_at (s.trees ++ node_tree s.trees n ∷ []) form) → (r : Row) → IsRowOf s.trees n form r
    → IsTable g (ns ++ n ∷ []) (trees_in (rs ++ r ∷ [])) (forms_in (rs ++ r ∷ [])) (sizes_in (rs ++ r ∷ [])) in
    subst P is (λ below held new form form_below is_form r row.
    let ts = trees_in rs in
    let trees : trees_in (rs ++ r ∷ []) ≡ ts ++ node_tree ts n ∷ [] = map_push (λ (r : Row). tree r.term) rs r ∙ ap (λ t. ts ++ t ∷ []) row.term in
    let forms : forms_in (rs ++ r ∷ []) ≡ forms_in rs ++ form ∷ [] = map_push (λ (r : Row). r.form) rs r ∙ ap (λ k. forms_in rs ++ k ∷ []) row.form in
    let sizes : sizes_in (rs ++ r ∷ []) ≡ sizes_in rs ++ r.size ∷ [] = map_push (λ (r : Row). r.size) rs r in
    rw (trees, forms, sizes) (pushed g ns ts (forms_in rs) (sizes_in rs) it n below held new form r.size form_below is_form row.size))

-- what contracts see of one row more
pub pushed_view : (g : Sig) (rs : List Row) (s : Shared) → seen g rs ≡ s → (n : Node) (form : ℕ) (r : Row) → IsRowOf s.trees n form r → seen g (rs ++ r ∷ []) ≡ record s { trees = s.trees ++ node_tree s.trees n ∷ [] }
pushed_view g rs s is n form r row =
    let tree_of : Row → Tree = λ (r : Row). tree r.term in
    let trees : trees_in (rs ++ r ∷ []) ≡ s.trees ++ node_tree s.trees n ∷ [] = map_push tree_of rs r ∙ ap (λ (v : Shared). v.trees ++ tree r.term ∷ []) is ∙ ap (λ t. s.trees ++ t ∷ []) row.term in
    ap (λ (v : Shared). record v { trees = trees_in (rs ++ r ∷ []) }) is ∙ ap (λ ts. record s { trees = ts }) trees
