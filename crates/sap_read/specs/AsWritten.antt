-- Files as they are written: their definitions and their process, and what these show where a use runs as its definition's instance.
use Rattle.std.specs.Prelude.{◌≡◌, ◌↔◌, ℕ, List, [], Some, Ok}
use Rattle.sap_terms.specs.Trace.{Trace}
use Rattle.sap_text.specs.declared.token.Token.{Token}
use Rattle.sap_grammar.specs.Cut.{Placed}
use Rattle.sap_process.specs.ProcessSteps.{IsProcessTrace}
use Rattle.sap_macro.specs.Expansion.{plain}
use Rattle.sap_macro.specs.Written.{Written, Definition}
use Rattle.sap_macro.specs.WrittenRuns.{HasArgumentsInScope, IsFileTrace}
use Rattle.sap_read.specs.FileProcess.{definitions_of, main_of}
use Rattle.sap_read.specs.Files.{FileContent, IsParted, IsRead}
use Rattle.sap_read.specs.Item.{Standing, bodies, signature_of}
use Rattle.sap_read.specs.ItemGrammar.{AreItems}

-- the bytes are a file with these definitions, in order, and this process
pub record IsWrittenAs (z : List ℕ) (ds : List Definition) (p : Written) : Type 0 where
  pub tokens : List Token
  pub name : List ℕ
  pub cut : List (List Placed)
  pub items : List Standing
  pub parted : IsParted z tokens name cut
  pub spelled : AreItems (signature_of items) cut items
  pub definitions : definitions_of (bodies items) ≡ ds
  pub process : main_of (bodies items) ≡ Some p

-- of a file that is read, what its process shows as it is written is what the process that it is read as shows, where each use in it,
-- names without parameters replaced, names in its arguments what is in scope there
abbrev pub FilesShowAsWritten : Type 0
FilesShowAsWritten =
    (z : List ℕ) (f : FileContent) (ds : List Definition) (p : Written) (tr : Trace) → IsRead z (Ok f)
    → IsWrittenAs z ds p → HasArgumentsInScope [] (plain ds p)
    → IsFileTrace f.signature ds p tr ↔ IsProcessTrace f.signature f.process tr
