-- How entries are stored, and seen as lines.
use Rattle.std.specs.Prelude.{◌≡◌, ◌<◌, ◌≤◌, ◌+◌, ℕ, List, [], ◌++◌, Some, length, map, take, drop, slice_get, slice_index_or, All, ⊤}
use Rattle.sap_terms.specs.NameMap.{value_at}
use Rattle.sap_terms.specs.Tree.{Tree}
use Rattle.sap_terms.specs.View.{tree}
use Rattle.sap_deduce.specs.declared.entry.Entry.{Entry}
use Rattle.sap_deduce.specs.declared.origin.Origin.{Origin}
use Rattle.sap_deduce.specs.declared.origin.Origin.TheVariants.{Name as NameOrigin, Public as PublicOrigin, Output as OutputOrigin, Apply as ApplyOrigin}
use Rattle.sap_deduce.specs.declared.stored.Given.{Given as TheGiven}
use Rattle.sap_deduce.specs.declared.stored.Given.TheVariants.{Name, Public, Output}
use Rattle.sap_deduce.specs.declared.stored.StoredOrigin.{StoredOrigin}
use Rattle.sap_deduce.specs.declared.stored.StoredOrigin.TheVariants.{Given, Applied}

-- a term with its number, and how it came to be known
pub record Line : Type 0 where
  pub number : ℕ
  pub term : Tree
  pub origin : Origin

-- the origin of what came without others
abbrev pub origin_given : TheGiven → Origin
origin_given (Name n) = NameOrigin n
origin_given Public = PublicOrigin
origin_given Output = OutputOrigin

-- the origin that is stored
abbrev pub origin_of : List (List ℕ) → List ℕ → StoredOrigin → Origin
origin_of symbols used (Given g) = origin_given g
origin_of symbols used (Applied s k n) = ApplyOrigin (slice_index_or symbols s []) (take n (drop k used))

-- what it stands on is there
abbrev pub IsWithin : ℕ → ℕ → StoredOrigin → Type 0
IsWithin symbols used (Given g) = ⊤
IsWithin symbols used (Applied s k n) = (s < symbols) × (k + n ≤ used)

-- the lines of what is stored
abbrev pub lines_of : List (List ℕ) → List ℕ → List Entry → List Line
lines_of symbols used es = map (λ (e : Entry). record { number = e.number; term = tree e.term; origin = origin_of symbols used e.way }) es

-- each stands on what is there
abbrev pub AreWithin : ℕ → ℕ → List Entry → Type 0
AreWithin symbols used es = All (λ (e : Entry). IsWithin symbols used e.way) es

-- where a name has a place, it stands there
abbrev pub ArePlaces : List (List ℕ) → List (List ℕ × ℕ) → Type 0
ArePlaces names places = (n : List ℕ) (s : ℕ) → value_at places n ≡ Some s → slice_get names s ≡ Some n

-- the entries stand on what is there, and the symbols have their places
pub record AreStored (symbols : List (List ℕ)) (m : List (List ℕ × ℕ)) (used : ℕ) (es : List Entry) : Type 0 where
  pub within : AreWithin (length symbols) used es
  pub places : ArePlaces symbols m

-- a list, and more behind it
pub record IsMore {X : Type 0} (old new : List X) : Type 0 where
  pub added : List X
  pub is : new ≡ old ++ added
