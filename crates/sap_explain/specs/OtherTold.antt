-- What is told of the other place of a cause, where it has two.
use Rattle.std.specs.Prelude.{◌≡◌, ℕ, codes, List, [], ◌++◌}
use Rattle.sap_read.specs.declared.fault.ReadFault.{ReadFault}
use Rattle.sap_read_places.specs.OtherReadPlaces.{HasOtherReadPlace, IsOtherReadPlace}
use Rattle.sap_read_places.specs.declared.told.Told.{Told}
use Rattle.sap_stretches.specs.Positions.{IsPlaceText}
use Rattle.sap_stretches.specs.declared.stretch.Stretch.{Stretch}
use Rattle.sap_where.specs.OtherPlaces.{HasOtherStretch, IsOtherWhere}

-- where the other place of the cause stands: at a word that the words of the file place, or where what is read of the file has it
pub data IsOtherPlaceOf (z : List ℕ) (e : ReadFault) : Stretch → Type 0 where
  other_by_words : {s : Stretch} → IsOtherWhere z e s → IsOtherPlaceOf z e s
  other_by_reading : {t : Told} {s : Stretch} → IsOtherReadPlace z e t → s ≡ t.word → IsOtherPlaceOf z e s

-- these causes have one in each file that is refused for them
pub data HasOtherPlace : ReadFault → Type 0 where
  words_have_other : {e : ReadFault} → HasOtherStretch e → HasOtherPlace e
  reading_has_other : {e : ReadFault} → HasOtherReadPlace e → HasOtherPlace e

-- the text shows it behind `and`; or it is empty, and there is none
pub data IsOtherTold (z : List ℕ) (e : ReadFault) : List ℕ → Type 0 where
  another : {s : Stretch} {place : List ℕ} → IsOtherPlaceOf z e s → IsPlaceText z s place
      → IsOtherTold z e (codes "and " ++ place)
  no_other : ((s : Stretch) → IsOtherPlaceOf z e s → ⊥) → IsOtherTold z e []
