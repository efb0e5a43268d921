-- What the program keeps of names.
use Rattle.std.specs.Prelude.{◌≡◌, ℕ, List, Option, Some, None, drop, slice_get}
use Rattle.std.specs.List.{list_any}
use Rattle.std.specs.Str.{bytes_eq}
use Rattle.sap_theory.specs.TheoryCauses.{first_repeated}

-- the name at this index
abbrev pub name_there : List (List ℕ) → Option ℕ → Option (List ℕ)
name_there names None = None
name_there names (Some k) = slice_get names k

-- these are the names from this index on, and the first of them that stands again is the one at that index
pub record AreSeen (names : List (List ℕ)) (k : ℕ) (behind : List (List ℕ)) (found : Option ℕ) : Type 0 where
  pub seen : (x : List ℕ) → list_any (bytes_eq x) behind ≡ list_any (λ y. bytes_eq y x) (drop k names)
  pub first : first_repeated (drop k names) ≡ name_there names found
