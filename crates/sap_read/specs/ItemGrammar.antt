-- Which words spell an item, and which items a file.
use Rattle.std.specs.Prelude.{ℕ, codes, List, [], ◌∷◌}
use Rattle.sap_terms.specs.declared.signature.Symbol.{Symbol}
use Rattle.sap_terms.specs.declared.signature.Builtin.{Builtin}
use Rattle.sap_terms.specs.Signature.{Sig}
use Rattle.sap_grammar.specs.Words.{Word, mark, name}
use Rattle.sap_grammar.specs.Cut.{Placed}
use Rattle.sap_grammar.specs.Declarations.{AreBuiltins, AreSymbols}
use Rattle.sap_grammar.specs.Items as items
use Rattle.sap_statements.specs.declared.statement.Statement.{Statement}
use Rattle.sap_statements.specs.Statements.{IsStatement}
use Rattle.sap_draft.specs.declared.limits.TheConstants.{FILE_LIMITS}
use Rattle.sap_macro.specs.Written.{Written}
use Rattle.sap_draft.specs.ProcessGrammar.{IsProcess}
use Rattle.sap_read.specs.Item.{Item, builtins, functions, definition, process, statement, Standing}

-- parameters, one or more, with commas between them and a closing parenthesis behind; the words behind it
pub data AreParameters : List (List ℕ) → List Word → List Word → Type 0 where
  parameters_last : {x : List ℕ} {a : List Word}
      → AreParameters (x ∷ []) (name x ∷ mark (codes ")") ∷ a) a
  parameters_more : {x : List ℕ} {xs : List (List ℕ)} {a b : List Word} → AreParameters xs a b
      → AreParameters (x ∷ xs) (name x ∷ mark (codes ",") ∷ a) b

-- what stands behind the name of a definition: parameters in parentheses, or nothing, and then `=`; the words behind it
pub data HasParameters : List (List ℕ) → List Word → List Word → Type 0 where
  without_parameters : {a : List Word} → HasParameters [] (mark (codes "=") ∷ a) a
  with_parameters : {xs : List (List ℕ)} {a b : List Word}
      → AreParameters xs a (mark (codes "=") ∷ b) → HasParameters xs (mark (codes "(") ∷ a) b

-- the words are this item, whole
pub data IsItem (g : Sig) : Item → List Word → Type 0 where
  item_builtins : {bs : List Builtin} {a : List Word} → AreBuiltins bs a
      → IsItem g (builtins bs) (mark (codes "builtins") ∷ mark (codes ":") ∷ a)
  item_functions : {ss : List Symbol} {a : List Word} → AreSymbols ss a
      → IsItem g (functions ss) (mark (codes "functions") ∷ mark (codes ":") ∷ a)
  item_definition : {x : List ℕ} {xs : List (List ℕ)} {p : Written} {a b : List Word}
      → HasParameters xs a b → IsProcess g p b
      → IsItem g (definition x xs p) (mark (codes "let") ∷ name x ∷ a)
  item_process : {p : Written} {a : List Word} → IsProcess g p a
      → IsItem g (process p) (mark (codes "process") ∷ mark (codes ":") ∷ a)
  item_statement : {s : Statement} {a : List Word} → IsStatement g FILE_LIMITS s a
      → IsItem g (statement s) a

-- each of these is an item, but for the last, which is `end`
abbrev pub AreItems : Sig → List (List Placed) → List Standing → Type 0
AreItems g = items.AreItems (IsItem g)

-- it is an item under some signature
pub record IsSomeItem (a : List Word) : Type 0 where
  pub sig : Sig
  pub item : Item
  pub is : IsItem sig item a

-- The first that is no item under any signature is on this line; where only `end` is missing, the line is that of the file's
-- last word.
abbrev pub IsFaultyFile : ℕ → List (List Placed) → ℕ → Type 0
IsFaultyFile = items.IsFaulty IsSomeItem
