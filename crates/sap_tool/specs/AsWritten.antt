-- What a file means as it is written: its definitions and its process, where a use runs as its definition's instance.
use Rattle.std.specs.Prelude.{◌↔◌, ℕ, List, []}
use Rattle.sap_terms.specs.Trace.{Trace}
use Rattle.sap_formula.specs.Form.{LemmaForm}
use Rattle.sap_formula.specs.HoldsOf.{HoldsOf}
use Rattle.sap_process.specs.ProcessSteps.{IsProcessTrace}
use Rattle.sap_inline.specs.Inline.{formulas}
use Rattle.sap_macro.specs.Expansion.{plain}
use Rattle.sap_macro.specs.Written.{Written, Definition}
use Rattle.sap_macro.specs.WrittenRuns.{HasArgumentsInScope, IsFileTrace}
use Rattle.sap_read.specs.AsWritten.{IsWrittenAs}
use Rattle.sap_read.specs.Files.{FileContent}
use Rattle.sap_gen.specs.Kept.{HoldsOfFile}

-- the lemma holds of the file's process as it is written, among the traces on which the file's restrictions are true
abbrev pub HoldsAsWritten : FileContent → List Definition → Written → LemmaForm → Type 0
HoldsAsWritten f ds p l =
    HoldsOf f.signature (IsFileTrace f.signature ds p) (formulas f.restrictions) l.mode l.formula

-- The bytes are written with these definitions and this process. Where each use in the process, names without parameters replaced, names
-- in its arguments what is in scope there, what is written shows what the process shows that is read, and nothing else; and each lemma
-- holds of the one exactly where it holds of the other.
pub record ShowsAsWritten (bytes : List ℕ) (told : FileContent) : Type 0 where
  pub definitions : List Definition
  pub process : Written
  pub written : IsWrittenAs bytes definitions process
  pub shows : HasArgumentsInScope [] (plain definitions process) → (tr : Trace)
      → IsFileTrace told.signature definitions process tr
      ↔ IsProcessTrace told.signature told.process tr
  pub lemmas : HasArgumentsInScope [] (plain definitions process) → (l : LemmaForm)
      → HoldsAsWritten told definitions process l ↔ HoldsOfFile told l
