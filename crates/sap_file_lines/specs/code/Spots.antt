-- What a walk along a path tells of the place to which it comes.
use Rattle.std.specs.Prelude.{◌≡◌, ℕ, Bool, List, Option, MatchOption}
use Rattle.std.specs.Bool.{Decides}
use Rattle.sap_macro.specs.Located.{Located}
use Rattle.sap_macro.specs.Sources.{located}
use Rattle.sap_origin.specs.Definitions.{LocatedDefinition, located_definitions}
use Rattle.sap_origin.specs.Origins.{start, words_left}
use Rattle.sap_origin.specs.Reached.{Reaches, Standing}
use Rattle.sap_file_lines.specs.FileLines.{IsMissing, is_nothing, words_from}
use Rattle.sap_file_lines.specs.declared.places.FilePlaces.{FilePlaces}
use Rattle.sap_file_lines.specs.declared.places.Spot.{Spot}

-- one comes there to a place with this word, which is `0` or isn't
pub record IsSpot (ds : List LocatedDefinition) (p : Located) (behind : ℕ) (path : List ℕ) (s : Spot) : Type 0 where
  pub standing : Standing
  pub place : Located
  pub reaches : Reaches ds (start behind) p path standing place
  pub word_is : words_left s.word ≡ words_from standing place
  pub nothing_is : s.is_nothing ≡ is_nothing place

-- one comes so, or nowhere
abbrev pub IsSpotOf : List LocatedDefinition → Located → ℕ → List ℕ → Option Spot → Type 0
IsSpotOf ds p behind path o =
    MatchOption o ((z : Standing) (q : Located) → Reaches ds (start behind) p path z q → ⊥) (IsSpot ds p behind path)

-- in what is written in a file
abbrev pub IsSpotIn : FilePlaces → List ℕ → Option Spot → Type 0
IsSpotIn f path o =
    IsSpotOf (located_definitions f.definitions.now f.behind.now) (located f.main.now) f.behind_main path o

-- whether nobody wrote what has this word there
abbrev pub IsMissed : List LocatedDefinition → Located → ℕ → List ℕ → Spot → Bool → Type 0
IsMissed ds p behind path s b =
    (h : IsSpot ds p behind path s) → Decides b (IsMissing ds p behind path h.standing h.place)

abbrev pub IsMissedIn : FilePlaces → List ℕ → Spot → Bool → Type 0
IsMissedIn f path s b =
    IsMissed (located_definitions f.definitions.now f.behind.now) (located f.main.now) f.behind_main path s b
