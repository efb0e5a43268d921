-- Where a use stands of which a cause speaks.
use Rattle.std.specs.Prelude.{◌≡◌, ℕ, List, map, Some}
use Rattle.sap_text.specs.declared.token.Token.{Token}
use Rattle.sap_origin.specs.Definitions.{LocatedDefinition}
use Rattle.sap_read.specs.LocatedItems.{LocatedMain}
use Rattle.sap_use_words.specs.ExpandedUses.{large_use}
use Rattle.sap_use_words.specs.WrittenUses.{LocatedUse, other_use}
use Rattle.sap_read_places.specs.declared.told.Told.{Told}
use Rattle.sap_read_places.specs.Placed.{IsPlaced, stretch_before}

-- this use of a definition of this name is told by its word, below the uses above it
pub record IsUseTold (ts : List Token) (x : List ℕ) (u : LocatedUse) (t : Told) : Type 0 where
  pub name_is : u.name ≡ x
  pub word_is : t.word ≡ stretch_before ts u.word
  pub uses_are : t.uses ≡ map (stretch_before ts) u.above

-- the first use with another number of arguments than its definition has parameters, as it is written
pub record IsOtherUsePlace (z : List ℕ) (x : List ℕ) (t : Told) : Type 0 where
  pub tokens : List Token
  pub definitions : List LocatedDefinition
  pub main : LocatedMain
  pub placed : IsPlaced z tokens definitions main
  pub found : LocatedUse
  pub first : other_use definitions main.behind main.process ≡ Some found
  pub told : IsUseTold tokens x found t

-- the first use in the expansion that has an argument with more nodes than a term may have
pub record IsLargeUsePlace (z : List ℕ) (x : List ℕ) (t : Told) : Type 0 where
  pub tokens : List Token
  pub definitions : List LocatedDefinition
  pub main : LocatedMain
  pub placed : IsPlaced z tokens definitions main
  pub found : LocatedUse
  pub first : large_use definitions main.behind main.process ≡ Some found
  pub told : IsUseTold tokens x found t
