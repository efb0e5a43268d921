-- Which path leads to the first place beyond a limit, and what is told of it.
use Rattle.std.specs.Prelude.{ℕ, List, Option, Some, None}
use Rattle.sap_terms.specs.declared.limits.TheConstants.{MOST_PROCESS_LEVELS, MOST_PROCESS_PLACES}
use Rattle.sap_text.specs.declared.token.Token.{Token}
use Rattle.sap_macro.specs.Sources.{definitions, written}
use Rattle.sap_origin.specs.declared.origin.Origin.{Origin}
use Rattle.sap_beyond.specs.Numbered.{IsFirstDeep, IsNumbered}
use Rattle.sap_read.specs.declared.written.FileProcesses.{FileProcesses}
use Rattle.sap_read_places.specs.LimitPlaces.{IsLevelBeyond, IsPlaceBeyond}
use Rattle.sap_read_places.specs.declared.limit_told.Limit.{Limit}
use Rattle.sap_read_places.specs.declared.limit_told.Limit.TheVariants.{Levels, Places}
use Rattle.sap_read_places.specs.declared.told.Told.{Told}
use Rattle.sap_read_places.specs.code.Walked.{IsOriginTold, LeadsNowhere, LeadsTo}

-- the place of the file beyond this limit
abbrev pub IsLimitPlace : List ℕ → Limit → Told → Type 0
IsLimitPlace z Places t = IsPlaceBeyond z t
IsLimitPlace z Levels t = IsLevelBeyond z t

-- the path leads to the first place of these processes beyond it
abbrev pub IsFirstBeyond : Limit → FileProcesses → List ℕ → Type 0
IsFirstBeyond Places p path = IsNumbered (definitions p.definitions) (written p.main.value) MOST_PROCESS_PLACES path
IsFirstBeyond Levels p path = IsFirstDeep (definitions p.definitions) (written p.main.value) MOST_PROCESS_LEVELS path

-- this is told of that place, or the path of none leads anywhere
abbrev pub IsBeyondTold : Limit → FileProcesses → List Token → Option Told → Type 0
IsBeyondTold limit p ts None = (path : List ℕ) → IsFirstBeyond limit p path → LeadsNowhere p path
IsBeyondTold limit p ts (Some t) =
    (path : List ℕ) × IsFirstBeyond limit p path × ((o : Origin) × LeadsTo p path o × IsOriginTold ts o t)
