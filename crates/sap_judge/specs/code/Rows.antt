-- The facts of a trace by their names, in a map.
use Rattle.std.specs.Prelude.{◌≡◌, ℕ, List, [], ◌∷◌, ◌++◌, map, if◌then◌else◌}
use Rattle.std.specs.Str.{bytes_eq}
use Rattle.sap_match.specs.View.{sight}
use Rattle.sap_match.specs.Atoms.{Sight}
use Rattle.sap_judge.specs.Guards.{sights}
use Rattle.sap_match.specs.declared.sighted.Sighted.{Sighted}
use Rattle.sap_terms.specs.NameMap.{items_at}
use Rattle.sap_terms.specs.Trace.{Trace}

-- what the row of a name has, nothing where there is none
abbrev pub row_of : List (List ℕ × List Sighted) → List ℕ → List Sight
row_of rows n = map sight (items_at rows n)

-- the fact, if it has this name
abbrev pub if_named : List ℕ → Sighted → List Sight
if_named n s = if bytes_eq n s.fact.now.name then sight s ∷ [] else []

-- each name has got these facts behind those that it had
abbrev pub Adds : List (List ℕ × List Sighted) → List (List ℕ × List Sighted) → (List ℕ → List Sight) → Type 0
Adds old new more = (n : List ℕ) → row_of new n ≡ row_of old n ++ more n

-- what each name has are the trace's facts of this name
abbrev pub IsOf : Trace → List (List ℕ × List Sighted) → Type 0
IsOf tr rows = (n : List ℕ) → row_of rows n ≡ sights n tr
