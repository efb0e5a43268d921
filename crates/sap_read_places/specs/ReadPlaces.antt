-- Where causes stand that are found when the items of a file have been read.
use Rattle.std.specs.Prelude.{ℕ, List, ⊤}
use Rattle.sap_read.specs.declared.fault.ReadFault.{ReadFault}
use Rattle.sap_read.specs.declared.fault.ReadFault.TheVariants.{UnknownProcess, Arguments, TooMany, TooDeep, Large, Flawed, Ill, Formula}
use Rattle.sap_read_places.specs.declared.told.Told.{Told}
use Rattle.sap_read_places.specs.BodyFlawPlaces.{IsBodyFlawPlace}
use Rattle.sap_read_places.specs.FlawPlaces.{IsFlawPlace}
use Rattle.sap_read_places.specs.LimitPlaces.{IsLevelBeyond, IsPlaceBeyond}
use Rattle.sap_read_places.specs.PartPlaces.{IsPartPlace}
use Rattle.sap_read_places.specs.UndefinedPlaces.{IsUndefinedPlace}
use Rattle.sap_read_places.specs.UsePlaces.{IsLargeUsePlace, IsOtherUsePlace}

-- the first use of a name that nothing before it defines; the use with another number of arguments, or with one that is too large; the
-- first place beyond a limit; the word from which the node stems of which a flaw speaks, or its lock; and the part of a formula that has the fault
abbrev pub IsReadPlace : List ℕ → ReadFault → Told → Type 0
IsReadPlace z (UnknownProcess x) t = IsUndefinedPlace z x t
IsReadPlace z (Arguments x) t = IsOtherUsePlace z x t
IsReadPlace z TooMany t = IsPlaceBeyond z t
IsReadPlace z TooDeep t = IsLevelBeyond z t
IsReadPlace z (Large x) t = IsLargeUsePlace z x t
IsReadPlace z (Flawed x w path) t = IsBodyFlawPlace z x w path t
IsReadPlace z (Ill w path) t = IsFlawPlace z w path t
IsReadPlace z (Formula y f) t = IsPartPlace z y f t
IsReadPlace z _ t = ⊥

-- it is one of these causes
abbrev pub IsReadCause : ReadFault → Type 0
IsReadCause (UnknownProcess x) = ⊤
IsReadCause (Arguments x) = ⊤
IsReadCause TooMany = ⊤
IsReadCause TooDeep = ⊤
IsReadCause (Large x) = ⊤
IsReadCause (Flawed x w path) = ⊤
IsReadCause (Ill w path) = ⊤
IsReadCause (Formula y f) = ⊤
IsReadCause _ = ⊥
