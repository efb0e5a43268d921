-- Pieces of two lists, related one by one.
use Rattle.std.proofs.Common.{List, [], ◌∷◌, ◌++◌, map}
use Rattle.std.specs.List.{AllZip}

module _ {A B : Type 0} (R : A → B → Type 0) where
  -- related, piece by piece
  pub join_zip : (xs zs : List A) (ys ws : List B) → AllZip R xs ys → AllZip R zs ws → AllZip R (xs ++ zs) (ys ++ ws)
  join_zip [] zs [] ws a b = b
  join_zip [] zs (y ∷ ys) ws a b = absurd a
  join_zip (x ∷ xs) zs [] ws a b = absurd a
  join_zip (x ∷ xs) zs (y ∷ ys) ws a b = (a.0, join_zip xs zs ys ws a.1 b)

  -- those from which the first come are related so
  pub unmapped_zip : {C : Type 0} (f : C → A) (cs : List C) (ys : List B) → AllZip R (map f cs) ys → AllZip (λ c y. R (f c) y) cs ys
  unmapped_zip f [] [] a = tt
  unmapped_zip f [] (y ∷ ys) a = absurd a
  unmapped_zip f (c ∷ cs) [] a = absurd a
  unmapped_zip f (c ∷ cs) (y ∷ ys) a = (a.0, unmapped_zip f cs ys a.1)
