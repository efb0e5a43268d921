-- Names that are added to a set one by one.
use Rattle.std.specs.Prelude.{ℕ, List, [], ◌∷◌}
use Rattle.sap_terms.specs.NameSet.{with_name}

-- the set with these names
abbrev pub with_names : List (List ℕ) → List (List ℕ) → List (List ℕ)
with_names own [] = own
with_names own (n ∷ ns) = with_names (with_name own n) ns
