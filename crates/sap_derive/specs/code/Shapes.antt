-- Which terms can be taken apart.
use Rattle.std.specs.Prelude.{◌≡◌, ◌<◌, List, length}
use Rattle.sap_terms.specs.Tree.{Tree}
use Rattle.sap_terms.specs.Signature.{Sig}
use Rattle.sap_terms.specs.Equations.{app1, app2, pair_name, senc_name, aenc_name, pk_name, reveal_sign_name}
use Rattle.sap_share.specs.Shared.{tree_at}
use Rattle.sap_derive.specs.code.Clauses.{IsOpening}
use Rattle.sap_derive.specs.declared.shape.Shape.{Shape}
use Rattle.sap_derive.specs.declared.shape.Shape.TheVariants.{Pair, Encrypted, EncryptedTo, Signed, Other}

-- under no signature is the term taken apart
abbrev pub IsUnopened : Tree → Type 0
IsUnopened h = (g : Sig) (rest : List Tree) (t : Tree) → IsOpening g h rest t → ⊥

-- the term has the shape, over the terms of these numbers
abbrev pub IsShapeOf : List Tree → Tree → Shape → Type 0
IsShapeOf trees t (Pair x y) = (x < length trees) × (y < length trees) × (t ≡ app2 pair_name (tree_at trees x) (tree_at trees y))
IsShapeOf trees t (Encrypted m k) = (m < length trees) × (k < length trees) × (t ≡ app2 senc_name (tree_at trees m) (tree_at trees k))
IsShapeOf trees t (EncryptedTo m k) = (m < length trees) × (k < length trees) × (t ≡ app2 aenc_name (tree_at trees m) (app1 pk_name (tree_at trees k)))
IsShapeOf trees t (Signed m k) = (m < length trees) × (k < length trees) × (t ≡ app2 reveal_sign_name (tree_at trees m) (tree_at trees k))
IsShapeOf trees t Other = IsUnopened t
