-- A table with two nodes more, the first of which is the normal form of the second.
use Rattle.std.proofs.Common.{◌≡◌, ◌-◌, ◌^◌, ℕ, List, [], ◌∷◌, ◌++◌, length, sym, ap, ◌∙◌, arith, min, inl, inr, append_assoc}
use Rattle.std.proofs.lemmas.List.{length_push}
use Rattle.sap_terms.specs.Equal.{same}
use Rattle.sap_terms.specs.Normal.{IsNormal, IsNormalForm}
use Rattle.sap_terms.specs.Signature.{Sig}
use Rattle.sap_terms.specs.Equations.{equations}
use Rattle.sap_terms.specs.Tree.{Tree, node_count}
use Rattle.sap_share.specs.Shared.{Shared, tree_at, node_tree, StandsBelow, IsHeld}
use Rattle.sap_share.specs.code.Inside.{trees_in, forms_in, sizes_in, IsRowOf, IsTable, IsNew}
use Rattle.sap_share.specs.declared.node.Node.{Node}
use Rattle.sap_share.specs.declared.row.Row.{Row}
use Rattle.sap_share.proofs.Grown.{tree_at-front, tree_at-last, node_tree-front, below_push, StandsBelow-up}
use Rattle.sap_share.proofs.Pushed.{seen, pushed_row, pushed_view}

module _ (g : Sig) (ns : List Node) (rs : List Row) (it : IsTable g ns (trees_in rs) (forms_in rs) (sizes_in rs)) (s : Shared) (is : seen g rs ≡ s)
    (m n : Node) (m_below : StandsBelow (length s.trees) m) (m_held : IsHeld s.sig m) (m_new : IsNew s.trees m) (m_normal : IsNormal (equations s.sig) (node_tree s.trees m))
    (n_below : StandsBelow (length s.trees) n) (n_held : IsHeld s.sig n) (n_new : IsNew s.trees n) (other : node_tree s.trees m ≡ node_tree s.trees n → ⊥)
    (is_form : IsNormalForm (equations s.sig) (node_tree s.trees n) (node_tree s.trees m))
    (k : ℕ) (last : k ≡ length s.trees) (q : Row) (first : IsRowOf s.trees m k q) (r : Row) (second : IsRowOf s.trees n k r) where
  abbrev ts : List Tree
  ts = s.trees

  abbrev us : List Tree
  us = ts ++ node_tree ts m ∷ []

  abbrev next : Shared
  next = record s { trees = us }

  seen_next : seen g (rs ++ q ∷ []) ≡ next
  seen_next = pushed_view g rs s is m k q first

  kept : node_tree us n ≡ node_tree ts n
  kept = node_tree-front ts (node_tree ts m ∷ []) n n_below

  below_next : StandsBelow (length us) n
  below_next = let l = length_push ts (node_tree ts m) in StandsBelow-up (length ts) (length us) n (omega (arith, l)) n_below

  new_next : IsNew us n
  new_next k h e = elim (below_push ts (node_tree ts m) k h) [
    | inl p ↦ n_new k p (sym (tree_at-front ts (node_tree ts m ∷ []) k p) ∙ e ∙ kept)
    | inr p ↦ other (sym (tree_at-last ts (node_tree ts m)) ∙ ap (tree_at us) (sym p) ∙ e ∙ kept)
  ]

  own_form : IsNormalForm (equations s.sig) (node_tree ts m) (tree_at us k)
  own_form = rw (last, tree_at-last ts (node_tree ts m)) (record { equal = same; normal = m_normal })

  next_form : IsNormalForm (equations s.sig) (node_tree us n) (tree_at (us ++ node_tree us n ∷ []) k)
  next_form =
      let l = length_push ts (node_tree ts m) in
      let there : tree_at (us ++ node_tree us n ∷ []) k ≡ node_tree ts m = tree_at-front us (node_tree us n ∷ []) k (omega (arith, l, last)) ∙ ap (tree_at us) last ∙ tree_at-last ts (node_tree ts m) in
      rw (there, kept) is_form

  second_next : IsRowOf us n k r
  second_next = record { term = second.term ∙ sym kept; form = second.form; size = second.size ∙ ap (λ t. min (node_count t) (2 ^ 64 - 1)) (sym kept) }

  pub pushed_both : IsTable g ((ns ++ m ∷ []) ++ n ∷ []) (trees_in ((rs ++ q ∷ []) ++ r ∷ [])) (forms_in ((rs ++ q ∷ []) ++ r ∷ [])) (sizes_in ((rs ++ q ∷ []) ++ r ∷ []))
  pushed_both =
      let l = length_push ts (node_tree ts m) in
      let it_next = pushed_row g ns rs it s is m m_below m_held m_new k (omega (arith, last)) own_form q first in
      pushed_row g (ns ++ m ∷ []) (rs ++ q ∷ []) it_next next seen_next n below_next n_held new_next k (omega (arith, last, l)) next_form r second_next

  pub seen_both : seen g ((rs ++ q ∷ []) ++ r ∷ []) ≡ record s { trees = ts ++ node_tree ts m ∷ node_tree ts n ∷ [] }
  seen_both =
      pushed_view g (rs ++ q ∷ []) next seen_next n k r second_next ∙ ap (λ vs. record s { trees = vs }) (ap (λ t. us ++ t ∷ []) kept ∙ append_assoc ts (node_tree ts m ∷ []) (node_tree ts n ∷ []))
