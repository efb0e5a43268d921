-- A number of a normal term is that of its normal form.
use Rattle.std.proofs.Common.{◌≡◌, ◌<◌, ℕ, List, length}
use Rattle.sap_terms.specs.Equal.{same}
use Rattle.sap_terms.specs.Equations.{Equations}
use Rattle.sap_terms.specs.Normal.{IsNormal, IsNormalForm}
use Rattle.sap_terms.specs.Tree.{Tree}
use Rattle.sap_rewrite.specs.Laws.{FormIsOne}
use Rattle.sap_share.specs.Shared.{tree_at, HaveOneNumber}

pub form_stays : FormIsOne → (e : Equations) (ts : List Tree) (k n : ℕ) → HaveOneNumber ts (length ts) → k < length ts → n < length ts → IsNormalForm e (tree_at ts k) (tree_at ts n) → IsNormal e (tree_at ts k) → n ≡ k
form_stays unique e ts k n one below within form normal =
    one n k within below (unique e (tree_at ts k) (tree_at ts n) (tree_at ts k) form (record { equal = same; normal = normal }))
