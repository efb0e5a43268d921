-- Names that are gathered in a set, one after another.
use Rattle.std.specs.Prelude.{ℕ, List, [], ◌∷◌}
use Rattle.sap_terms.specs.NameSet.{with_name}

-- the set with these names
abbrev pub gathered : List (List ℕ) → List (List ℕ) → List (List ℕ)
gathered names [] = names
gathered names (x ∷ xs) = gathered (with_name names x) xs
