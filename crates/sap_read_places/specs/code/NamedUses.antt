-- What the code finds of the use of which a cause speaks.
use Rattle.std.specs.Prelude.{◌≡◌, List, ℕ, Option, Some, map}
use Rattle.sap_text.specs.declared.token.Token.{Token}
use Rattle.sap_origin.specs.Origins.{words_left}
use Rattle.sap_origin.specs.declared.origin.FileWord.{FileWord}
use Rattle.sap_macro.specs.Sources.{located}
use Rattle.sap_origin.specs.Definitions.{located_definitions}
use Rattle.sap_read.specs.declared.written.FileProcesses.{FileProcesses}
use Rattle.sap_use_words.specs.ExpandedUses.{large_use}
use Rattle.sap_use_words.specs.WrittenUses.{LocatedUse, other_use}
use Rattle.sap_use_words.specs.declared.use_word.UseWord.{UseWord}
use Rattle.sap_read_places.specs.declared.told.Told.{Told}
use Rattle.sap_read_places.specs.UsePlaces.{IsUseTold}

-- the use of these processes that has another number of arguments, and the one that has a large one
abbrev pub other_of : FileProcesses → Option LocatedUse
other_of p = other_use (located_definitions p.definitions p.behind) p.behind_main (located p.main.value)

abbrev pub large_of : FileProcesses → Option LocatedUse
large_of p = large_use (located_definitions p.definitions p.behind) p.behind_main (located p.main.value)

-- what is found has not this name
abbrev pub IsNotNamed : List ℕ → Option LocatedUse → Type 0
IsNotNamed x found = (u : LocatedUse) → found ≡ Some u → u.name ≡ x → ⊥

-- it has this name and this word, and these uses above it
pub record IsWordOf (x : List ℕ) (found : Option LocatedUse) (word : FileWord) : Type 0 where
  pub found_use : LocatedUse
  pub is : found ≡ Some found_use
  pub name_is : found_use.name ≡ x
  pub word_is : words_left word ≡ found_use.word

pub record IsUseWordOf (x : List ℕ) (found : Option LocatedUse) (w : UseWord) : Type 0 where
  pub found_use : LocatedUse
  pub is : found ≡ Some found_use
  pub name_is : found_use.name ≡ x
  pub word_is : words_left w.word ≡ found_use.word
  pub above_are : map words_left w.above.items ≡ found_use.above

-- this is told of it
pub record IsFoundTold (ts : List Token) (x : List ℕ) (found : Option LocatedUse) (t : Told) : Type 0 where
  pub found_use : LocatedUse
  pub is : found ≡ Some found_use
  pub told : IsUseTold ts x found_use t
