-- The written place to which one comes along a path of what is seen, as the program has it.
use Rattle.std.specs.Prelude.{◌≡◌, ℕ, List, map, reverse}
use Rattle.sap_macro.specs.Located.{Located}
use Rattle.sap_macro.specs.Sources.{located}
use Rattle.sap_origin.specs.Definitions.{LocatedDefinition}
use Rattle.sap_origin.specs.Origins.{start, words_left}
use Rattle.sap_origin.specs.Reached.{Standing}
use Rattle.sap_seen.specs.SeenPlaces.{ComesSeen}
use Rattle.sap_seen.specs.declared.seen.SeenPlace.{SeenPlace}

-- along this path one comes, from a process behind whose item so many words of the file are, to this place, through uses with these names
-- and no others, the outermost first
pub record IsSeenAt (ds : List LocatedDefinition) (p : Located) (behind : ℕ) (path : List ℕ) (t : SeenPlace)
    : Type 0 where
  pub standing : Standing
  pub comes : ComesSeen ds (start behind) p path standing (located t.source.now)
  pub behind_is : standing.behind ≡ t.behind
  pub uses_are : reverse (map words_left t.uses) ≡ standing.uses
