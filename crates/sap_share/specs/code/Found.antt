-- What a look-up among bound variables finds.
use Rattle.std.specs.Prelude.{◌≡◌, ◌≤◌, ℕ, List, [], ◌∷◌, length, map, take, slice_get, Option, Some, None, if◌then◌else◌}
use Rattle.std.specs.Str.{bytes_eq}
use Rattle.sap_terms.specs.NameMap.{value_at}
use Rattle.sap_share.specs.declared.env.Bound.{Bound}
use Rattle.sap_share.specs.declared.index.Index.{Index}

-- the number of the first that is bound to the name
abbrev pub number_of_name : List Bound → List ℕ → Option ℕ
number_of_name [] n = None
number_of_name (e ∷ es) n = if bytes_eq e.var.name n then Some e.id else number_of_name es n

-- the map tells of each name what a look-up among these finds
abbrev pub Tells : List (List ℕ × ℕ) → List Bound → Type 0
Tells m es = (n : List ℕ) → value_at m n ≡ number_of_name es n

-- the index tells of the first so many of these
pub record IsIndexOf (x : Index) (es : List Bound) : Type 0 where
  pub within : x.count ≤ length es
  pub tells : Tells x.numbers (take x.count es)

-- the names that are bound are the first of these, if there are such
abbrev pub IsInOrder : Option (List (List ℕ)) → List Bound → Type 0
IsInOrder None es = Unit {0}
IsInOrder (Some names) es = map (λ (e : Bound). e.var.name) es ≡ take (length es) names

-- there are such, and the name is theirs at this index
abbrev pub IsNextName : Option (List (List ℕ)) → ℕ → List ℕ → Type 0
IsNextName None k n = ⊥
IsNextName (Some names) k n = slice_get names k ≡ Some n

-- either nothing is left of the order, or the name is the one at this index
abbrev pub KeepsOrder : Option (List (List ℕ)) → Option (List (List ℕ)) → ℕ → List ℕ → Type 0
KeepsOrder old None k n = Unit {0}
KeepsOrder old (Some names) k n = (old ≡ Some names) × (slice_get names k ≡ Some n)
