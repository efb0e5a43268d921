-- What a walk along a path came to, and what is told of it.
use Rattle.std.specs.Prelude.{◌≡◌, ℕ, List, map, reverse}
use Rattle.sap_text.specs.declared.token.Token.{Token}
use Rattle.sap_macro.specs.Located.{Located}
use Rattle.sap_macro.specs.Sources.{located}
use Rattle.sap_origin.specs.Definitions.{located_definitions}
use Rattle.sap_origin.specs.Origins.{IsOrigin, start, words_left}
use Rattle.sap_origin.specs.Reached.{Reaches, Standing}
use Rattle.sap_origin.specs.declared.origin.Origin.{Origin}
use Rattle.sap_read.specs.declared.written.FileProcesses.{FileProcesses}
use Rattle.sap_read_places.specs.declared.told.Told.{Told}
use Rattle.sap_read_places.specs.Placed.{stretch_before}

-- the path leads nowhere in these processes; or to this place
abbrev pub LeadsNowhere : FileProcesses → List ℕ → Type 0
LeadsNowhere p path =
    (z : Standing) (q : Located) → Reaches (located_definitions p.definitions p.behind)
    (start p.behind_main) (located p.main.value) path z q → ⊥

abbrev pub LeadsTo : FileProcesses → List ℕ → Origin → Type 0
LeadsTo p path o =
    IsOrigin (located_definitions p.definitions p.behind) (located p.main.value) p.behind_main path o

-- this is told of a place
pub record IsOriginTold (ts : List Token) (o : Origin) (t : Told) : Type 0 where
  pub word_is : t.word ≡ stretch_before ts (words_left o.word)
  pub uses_are : t.uses ≡ map (stretch_before ts) (reverse (map words_left o.uses))
