-- Where a process becomes larger than it may be.
use Rattle.std.specs.Prelude.{ℕ, List, map}
use Rattle.sap_terms.specs.declared.limits.TheConstants.{MOST_PROCESS_LEVELS, MOST_PROCESS_PLACES}
use Rattle.sap_text.specs.declared.token.Token.{Token}
use Rattle.sap_macro.specs.Located.{without_numbers}
use Rattle.sap_origin.specs.Definitions.{LocatedDefinition, plain_definition}
use Rattle.sap_beyond.specs.Numbered.{IsFirstDeep, IsNumbered}
use Rattle.sap_read.specs.LocatedItems.{LocatedMain}
use Rattle.sap_read_places.specs.declared.told.Told.{Told}
use Rattle.sap_read_places.specs.Placed.{IsAtPath, IsPlaced}

-- the first place beyond the most that there may be, in preorder of the expansion
pub record IsPlaceBeyond (z : List ℕ) (t : Told) : Type 0 where
  pub tokens : List Token
  pub definitions : List LocatedDefinition
  pub main : LocatedMain
  pub placed : IsPlaced z tokens definitions main
  pub path : List ℕ
  pub numbered : IsNumbered (map plain_definition definitions) (without_numbers main.process) MOST_PROCESS_PLACES path
  pub at : IsAtPath z path t

-- the first place on a level beyond the deepest that there may be: the root is on the first, and has no digits
pub record IsLevelBeyond (z : List ℕ) (t : Told) : Type 0 where
  pub tokens : List Token
  pub definitions : List LocatedDefinition
  pub main : LocatedMain
  pub placed : IsPlaced z tokens definitions main
  pub path : List ℕ
  pub deep : IsFirstDeep (map plain_definition definitions) (without_numbers main.process) MOST_PROCESS_LEVELS path
  pub at : IsAtPath z path t
