-- What the items of a file say that notes are about.
use Rattle.std.specs.Prelude.{◌≡◌, ℕ, List, ◌++◌, Some, map}
use Rattle.std.specs.List.{flat_map}
use Rattle.sap_terms.specs.Signature.{Sig}
use Rattle.sap_text.specs.declared.token.Token.{Token}
use Rattle.sap_grammar.specs.Cut.{Placed}
use Rattle.sap_formula.specs.Form.{Form}
use Rattle.sap_process.specs.Proc.{Proc}
use Rattle.sap_statements.specs.Statements.{formula_of}
use Rattle.sap_macro.specs.Written.{Written, Definition}
use Rattle.sap_read.specs.FileProcess.{definitions_of, main_of}
use Rattle.sap_read.specs.Files.{IsFileProcess, IsParted}
use Rattle.sap_read.specs.Item.{Standing, bodies, signature_of, statements}
use Rattle.sap_read.specs.ItemGrammar.{AreItems}
use Rattle.sap_notes.specs.Facts.{formula_facts}
use Rattle.sap_notes.specs.Symbols.{definition_symbols, formula_symbols, process_symbols}

-- what a file declares, its definitions and its process as they are written, its process with its uses replaced, and its formulas
pub record Content : Type 0 where
  pub signature : Sig
  pub definitions : List Definition
  pub process : Written
  pub whole : Proc
  pub formulas : List Form

-- the bytes are a file of these tokens, and its items say this
pub record HasContent (z : List ℕ) (ts : List Token) (f : Content) : Type 0 where
  pub name : List ℕ
  pub cut : List (List Placed)
  pub standing : List Standing
  pub parted : IsParted z ts name cut
  pub items : AreItems (signature_of standing) cut standing
  pub signature_is : f.signature ≡ signature_of standing
  pub definitions_are : f.definitions ≡ definitions_of (bodies standing)
  pub process_is : main_of (bodies standing) ≡ Some f.process
  pub whole_is : IsFileProcess z ts standing f.whole
  pub formulas_are : f.formulas ≡ map formula_of (statements standing)

-- the symbols in all terms of the file, each where it stands
abbrev pub content_symbols : Content → List (List ℕ)
content_symbols f = flat_map definition_symbols f.definitions
    ++ (process_symbols f.process ++ flat_map formula_symbols f.formulas)

-- the facts of all its formulas
abbrev pub content_facts : Content → List (List ℕ)
content_facts f = flat_map formula_facts f.formulas
