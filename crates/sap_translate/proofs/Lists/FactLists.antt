-- Lists of facts that are joined.
use Rattle.std.proofs.Common.{◌≡◌, List, [], ◌∷◌, ◌++◌, refl, ap, map}
use Rattle.sap_terms.specs.declared.fact.Fact.{Fact}
use Rattle.sap_terms.specs.declared.var.Var.{Var}
use Rattle.sap_translate.specs.Scoped.{FactsWithin}

pub within_left : (v : List Var) (fs gs : List Fact) → FactsWithin v (fs ++ gs) → FactsWithin v fs
within_left v [] gs w = tt
within_left v (f ∷ fs) gs w = (w.0, within_left v fs gs w.1)

pub within_right : (v : List Var) (fs gs : List Fact) → FactsWithin v (fs ++ gs) → FactsWithin v gs
within_right v [] gs w = w
within_right v (f ∷ fs) gs w = within_right v fs gs w.1

pub map_joined : {A B : Type 0} (f : A → B) (xs ys : List A) → map f (xs ++ ys) ≡ map f xs ++ map f ys
map_joined f [] ys = refl
map_joined f (x ∷ xs) ys = ap (λ zs. f x ∷ zs) (map_joined f xs ys)
