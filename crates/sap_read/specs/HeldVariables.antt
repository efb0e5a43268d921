-- Names that hold those of a file's variables.
use Rattle.std.specs.Prelude.{◌≡◌, ℕ, true, List, [], Some, All}
use Rattle.sap_terms.specs.Variables.{is_known}
use Rattle.sap_macro.specs.Expansion.{plain, plain_bodies}
use Rattle.sap_macro.specs.Instances.{IsClosed, AreClosedAmong}
use Rattle.sap_macro.specs.Order.{UsesOnly}
use Rattle.sap_macro.specs.Written.{Written, call, Definition}
use Rattle.sap_read.specs.FileProcess.{definitions_of, main_of}
use Rattle.sap_read.specs.Item.{Body}
use Rattle.sap_read.specs.Occurring.{OfNames, Any, WrittenNamesAre}

-- it is one of these names
abbrev pub IsAmong : List (List ℕ) → OfNames
IsAmong names x = is_known names x ≡ true

-- they hold that of each variable in the process, wherever it stands there
abbrev pub HoldsProcessVariables : List (List ℕ) → Written → Type 0
HoldsProcessVariables names p = WrittenNamesAre (IsAmong names) Any p

-- they hold each parameter of the definition, and the names of its body's variables
pub record HoldsDefinitionVariables (names : List (List ℕ)) (d : Definition) : Type 0 where
  pub params : All (IsAmong names) d.params
  pub body : HoldsProcessVariables names d.body

-- they hold those of each definition of a file and of its process, by what its items say of processes
pub record HoldsFileVariables (names : List (List ℕ)) (bs : List Body) : Type 0 where
  pub definitions : All (HoldsDefinitionVariables names) (definitions_of bs)
  pub process : (p : Written) → main_of bs ≡ Some p → HoldsProcessVariables names p

-- the definitions that the process of a file comes to use, which have these names, use what they bind and their parameters alone, and
-- bind no name again, where names without parameters are replaced before anything else
pub record HasClosedUses (bs : List Body) : Type 0 where
  pub names : List (List ℕ)
  pub uses : (p : Written) → main_of bs ≡ Some p → UsesOnly names (plain (definitions_of bs) p)
  pub definitions : AreClosedAmong names (plain_bodies call (definitions_of bs))

-- so it is, and the process uses what it binds alone, and binds no name again
pub record AreClosedBodies (bs : List Body) : Type 0 where
  pub used : HasClosedUses bs
  pub process : (p : Written) → main_of bs ≡ Some p → IsClosed [] (plain (definitions_of bs) p)
