-- The answer of a search where a guard picks one fact.
use Rattle.std.specs.Prelude.{◌≡◌, Bool, List, [], ◌∷◌, if◌then◌else◌}
use Rattle.sap_match.specs.Atoms.{Held, Sight}
use Rattle.sap_match.specs.Matched.{guarded}
use Rattle.sap_search.specs.Plan.{Guard}
use Rattle.sap_search.specs.Planned.{searched, with_some}

-- the answer where the first of the guards picks this fact
abbrev pub chosen : Bool → List Guard → Sight → List Held → (List Held → Bool) → Bool
chosen d [] s held leaf = d
chosen d (g ∷ gs) s held leaf = with_some (guarded g.atom s.fact s.time held) d (λ h. searched d gs h leaf)

-- whatever comes behind a guard with one fact: what is held where it fits, else the answer of no fact
abbrev pub IsOnlyMet : Guard → List Held → List Held → Bool → Type 0
IsOnlyMet g old new b = (d : Bool) (gs : List Guard) (leaf : List Held → Bool) → searched d (g ∷ gs) old leaf ≡ (if b then searched d gs new leaf else d)
