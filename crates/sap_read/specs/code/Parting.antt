-- The definitions of a file and its own process, as they are parted.
use Rattle.std.specs.Prelude.{◌≡◌, ℕ, List, [], length, Option, Some, None}
use Rattle.std.specs.Option.{option_map}
use Rattle.sap_macro.specs.Indexed.{defined}
use Rattle.sap_macro.specs.Order.{AreInOrder, UsesOnly}
use Rattle.sap_macro.specs.Sources.{definitions, located, written}
use Rattle.sap_macro.specs.Written.{Written}
use Rattle.sap_origin.specs.Definitions.{located_definitions}
use Rattle.sap_statements.specs.declared.statement.Statement.{Statement}
use Rattle.sap_read.specs.Causes.{cause}
use Rattle.sap_read.specs.FileProcess.{definitions_of, main_of}
use Rattle.sap_read.specs.Item.{Body}
use Rattle.sap_read.specs.LocatedItems.{LocatedBody, LocatedMain, definitions_at, main_at}
use Rattle.sap_read.specs.declared.written.FileProcesses.{FileProcesses}
use Rattle.sap_read.specs.declared.whole.Main.{Main}

-- the process, if there is one, and the same with the words of its places
abbrev pub written_main : Option Main → Option Written
written_main o = option_map (λ (m : Main). written m.source.value) o

abbrev pub located_main : Option Main → Option LocatedMain
located_main o =
    option_map (λ (m : Main). record { process = located m.source.value; behind = m.behind }) o

-- they are those of these bodies, which nothing refuses before uses are looked at
pub record AreParts (bs : List Body) (ss : List Statement) (clash : Option (List ℕ))
    (p : FileProcesses) : Type 0 where
  pub nothing : cause bs ss clash ≡ None
  pub order : AreInOrder [] (definitions p.definitions)
  pub definitions_are : definitions p.definitions ≡ definitions_of bs
  pub main_is : main_of bs ≡ Some (written p.main.value)
  pub uses : UsesOnly (defined (definitions p.definitions)) (written p.main.value)
  pub count : length p.behind ≡ length p.definitions

-- and with the words of their places these
pub record AreLocatedParts (bs : List LocatedBody) (p : FileProcesses) : Type 0 where
  pub definitions_are : located_definitions p.definitions p.behind ≡ definitions_at bs
  pub main_is : main_at bs
      ≡ Some (record { process = located p.main.value; behind = p.behind_main })
