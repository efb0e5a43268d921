-- What is in a list, by how it is built up.
use Rattle.std.specs.Prelude.{List, ◌∷◌}

-- x is an item of the list
pub data Member {A : Type 0} (x : A) : List A → Type 0 where
  here : {xs : List A} → Member x (x ∷ xs)
  later : {y : A} {xs : List A} → Member x xs → Member x (y ∷ xs)
