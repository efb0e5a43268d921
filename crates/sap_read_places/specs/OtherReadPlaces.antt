-- Where causes have their other place that are found when the items of a file have been read.
use Rattle.std.specs.Prelude.{ℕ, List}
use Rattle.sap_process.specs.declared.flaw.Flaw.{Flaw}
use Rattle.sap_read.specs.declared.fault.ReadFault.{ReadFault}
use Rattle.sap_read.specs.declared.fault.ReadFault.TheVariants.{Ill}
use Rattle.sap_read_places.specs.declared.told.Told.{Told}
use Rattle.sap_read_places.specs.OtherFlawPlaces.{HasOtherNode, IsOtherFlawPlace}

-- of a flaw of the process the node that binds the name of which it speaks
pub data IsOtherReadPlace (z : List ℕ) : ReadFault → Told → Type 0 where
  other_of_flaw : {w : Flaw} {path : List ℕ} {t : Told} → IsOtherFlawPlace z w path t → IsOtherReadPlace z (Ill w path) t

-- these causes have one in each file that is refused for them
pub data HasOtherReadPlace : ReadFault → Type 0 where
  flaws_have_other : {w : Flaw} (path : List ℕ) → HasOtherNode w → HasOtherReadPlace (Ill w path)
