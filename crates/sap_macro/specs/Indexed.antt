-- Names with the indices of their definitions.
use Rattle.std.specs.Prelude.{◌≡◌, ℕ, false, List, Option, None, Some, map, slice_get}
use Rattle.sap_terms.specs.NameMap.{value_at}
use Rattle.sap_terms.specs.Variables.{is_known}
use Rattle.sap_macro.specs.Written.{Definition}

abbrev pub defined : List Definition → List (List ℕ)
defined ds = map (λ (d : Definition). d.name) ds

-- at this index stands the definition of the name; without an index, none defines it
abbrev pub IsIndex : List Definition → List ℕ → Option ℕ → Type 0
IsIndex ds f None = is_known (defined ds) f ≡ false
IsIndex ds f (Some k) = (d : Definition) × (slice_get ds k ≡ Some d) × (d.name ≡ f)

-- this definition, which is one of these, has the name
pub record IsDefined (ds : List Definition) (f : List ℕ) (d : Definition) : Type 0 where
  pub at : ℕ
  pub stands : slice_get ds at ≡ Some d
  pub name_is : d.name ≡ f

abbrev pub AreIndexed : List Definition → List (List ℕ × ℕ) → Type 0
AreIndexed ds index = (f : List ℕ) → IsIndex ds f (value_at index f)
