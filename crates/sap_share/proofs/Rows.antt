-- What rows hold of a number.
use Rattle.std.proofs.Common.{◌≡◌, ◌<◌, ℕ, List, length, get_or, sym, ap, subst, ◌∙◌, arith}
use Rattle.std.specs.Prelude.{slice_index}
use Rattle.std.proofs.lemmas.List.{get_or-map, length-map}
use Rattle.sap_terms.specs.Equations.{equations}
use Rattle.sap_terms.specs.Normal.{IsNormalForm}
use Rattle.sap_terms.specs.Signature.{Sig}
use Rattle.sap_terms.specs.View.{tree}
use Rattle.sap_share.specs.Shared.{Shared, tree_at}
use Rattle.sap_share.specs.code.Inside.{trees_in, forms_in, sizes_in, IsTable}
use Rattle.sap_share.specs.declared.node.Node.{Node}
use Rattle.sap_share.specs.declared.row.Row.{Row}
use Rattle.sap_share.proofs.Pushed.{seen}

-- the number in a row is that of the normal form of the row's tree
pub row_form : (g : Sig) (ns : List Node) (rs : List Row) → IsTable g ns (trees_in rs) (forms_in rs) (sizes_in rs) → (s : Shared) → seen g rs ≡ s → (k : ℕ) (r : Row) → k < length s.trees → r ≡ get_or rs k r
    → (r.form < length s.trees) × IsNormalForm (equations s.sig) (tree_at s.trees k) (tree_at s.trees r.form)
row_form g ns rs it s is k r =
    let P : Shared → Type 0 = λ s. k < length s.trees → r ≡ get_or rs k r → (r.form < length s.trees) × IsNormalForm (equations s.sig) (tree_at s.trees k) (tree_at s.trees r.form) in
    subst P is (λ below at.
    let c = length-map rs (λ (r : Row). tree r.term) in
    let form : slice_index (forms_in rs) k ≡ r.form = get_or-map (λ (r : Row). r.form) rs k r 0 (omega (arith, c, below)) ∙ ap (λ (r : Row). r.form) (sym at) in (
      subst (λ j. j < length (trees_in rs)) form (it.form_below k below),
      subst (λ j. IsNormalForm (equations g) (tree_at (trees_in rs) k) (tree_at (trees_in rs) j)) form (it.form k below),
    ))
