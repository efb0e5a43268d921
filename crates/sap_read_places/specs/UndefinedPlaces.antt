-- Where a name of a process that nothing before it defines is used first.
use Rattle.std.specs.Prelude.{◌≡◌, ℕ, List, [], Some, Err}
use Rattle.sap_text.specs.declared.token.Token.{Token}
use Rattle.sap_read.specs.Files.{IsRead}
use Rattle.sap_read.specs.LocatedItems.{LocatedBody}
use Rattle.sap_read.specs.UndefinedNames.{HasBodies, UsedName, first_undefined}
use Rattle.sap_read.specs.declared.fault.ReadFault.TheVariants.{UnknownProcess}
use Rattle.sap_read_places.specs.declared.told.Told.{Told}
use Rattle.sap_read_places.specs.Placed.{stretch_before}

-- for this name the file is refused: it is the first that an item uses and no item before it defines, at this word
pub record IsUndefinedPlace (z : List ℕ) (x : List ℕ) (t : Told) : Type 0 where
  pub refused : IsRead z (Err (UnknownProcess x))
  pub tokens : List Token
  pub bodies : List LocatedBody
  pub has : HasBodies z tokens bodies
  pub name : UsedName
  pub first : first_undefined [] bodies ≡ Some name
  pub name_is : name.name ≡ x
  pub word_is : t.word ≡ stretch_before tokens name.word
  pub uses_are : t.uses ≡ []
