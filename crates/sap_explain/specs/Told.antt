-- What is told of where a cause stands.
use Rattle.std.specs.Prelude.{◌≡◌, ℕ, List, [], Some}
use Rattle.sap_locks.specs.declared.fault.LockFault.TheVariants.{LockOverParallel, UnlockWithoutLock}
use Rattle.sap_read.specs.declared.fault.ReadFault.{ReadFault}
use Rattle.sap_read.specs.declared.fault.ReadFault.TheVariants.{Lock}
use Rattle.sap_read_places.specs.declared.told.Told.{Told}
use Rattle.sap_read_places.specs.Placed.{IsAtPath, path_of}
use Rattle.sap_read_places.specs.ReadPlaces.{IsReadCause, IsReadPlace}
use Rattle.sap_where.specs.Where.{HasStretch, IsWhere}

-- where the cause stands: at a word that the words of the file place, and which nothing uses; where its path leads, with the uses on the
-- way; or where what is read of the file has it
pub data IsPlaceOf (z : List ℕ) (e : ReadFault) : Told → Type 0 where
  by_words : {t : Told} → IsWhere z e t.word → t.uses ≡ [] → IsPlaceOf z e t
  by_path : {path : List ℕ} {t : Told} → path_of e ≡ Some path → IsAtPath z path t
      → IsPlaceOf z e t
  by_reading : {t : Told} → IsReadPlace z e t → IsPlaceOf z e t

-- these causes have a place in each file that is refused for them
pub data HasPlace : ReadFault → Type 0 where
  words_have : {e : ReadFault} → HasStretch e → HasPlace e
  unlocks_have : (path : List ℕ) → HasPlace (Lock (UnlockWithoutLock path))
  parallels_have : (path : List ℕ) → HasPlace (Lock (LockOverParallel path))
  reading_has : {e : ReadFault} → IsReadCause e → HasPlace e
