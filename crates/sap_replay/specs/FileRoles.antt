-- Which roles a file has.
use Rattle.std.specs.Prelude.{ℕ, List}
use Rattle.sap_macro.specs.Sources.{located}
use Rattle.sap_origin.specs.Definitions.{located_definitions}
use Rattle.sap_players.specs.Casts.{Cast}
use Rattle.sap_read.specs.WrittenFiles.{IsWrittenFile}
use Rattle.sap_read.specs.declared.written.WrittenFile.{WrittenFile}
use Rattle.sap_roles.specs.Casts.{IsCastOf}

-- they are those of the definitions and of the process that are written in the file of these bytes
pub record HasCast (bytes : List ℕ) (cast : Cast) : Type 0 where
  pub file : WrittenFile
  pub written : IsWrittenFile bytes file
  pub is : IsCastOf (located_definitions file.processes.definitions file.processes.behind)
      (located file.processes.main.value) file.processes.behind_main cast
