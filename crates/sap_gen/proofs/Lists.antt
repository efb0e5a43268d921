-- Lists by their items.
use Rattle.std.proofs.Common.{List, [], ◌∷◌, ◌++◌}
use Rattle.sap_formula.specs.Truth.{EachIn}

-- what each of two lists has, each of both joined has
pub each_both : {A : Type 0} (P : A → Type 0) (xs ys : List A) → EachIn P xs → EachIn P ys → EachIn P (xs ++ ys)
each_both P [] ys h k = k
each_both P (x ∷ xs) ys h k = (h.0, each_both P xs ys h.1 k)
