-- The items of a file as they are written.
use Rattle.std.specs.Prelude.{ℕ, List, [], ◌∷◌, ◌++◌, Option, Some, None, map}
use Rattle.sap_terms.specs.declared.signature.Symbol.{Symbol}
use Rattle.sap_terms.specs.declared.signature.Builtin.{Builtin}
use Rattle.sap_terms.specs.Signature.{Sig, pairs_alone}
use Rattle.sap_grammar.specs.Signatures.{signature_from}
use Rattle.sap_grammar.specs.Declarations.{Declaration, of_builtin, of_symbol}
use Rattle.sap_grammar.specs.Items as items
use Rattle.sap_grammar.specs.Items.{declared_by_all}
use Rattle.sap_statements.specs.declared.statement.Statement.{Statement}
use Rattle.sap_macro.specs.Written.{Written}

-- an item of a file
pub data Item : Type 0 where
  builtins : List Builtin → Item
  functions : List Symbol → Item
  -- a name for a process, with its parameters
  definition : List ℕ → List (List ℕ) → Written → Item
  -- what the file is about
  process : Written → Item
  -- a restriction or a lemma
  statement : Statement → Item

-- what an item declares, in order
abbrev pub declared_by : Item → List Declaration
declared_by (builtins bs) = map of_builtin bs
declared_by (functions ss) = map of_symbol ss
declared_by (definition x xs p) = []
declared_by (process p) = []
declared_by (statement s) = []

-- an item and the line of its first token
abbrev pub Standing : Type 0
Standing = items.Standing Item

-- what a file declares, in order
abbrev pub declarations : List Standing → List Declaration
declarations is = declared_by_all declared_by is

-- the signature of a file; every signature begins with pairs
abbrev pub signature_of : List Standing → Sig
signature_of is = signature_from pairs_alone (declarations is)

-- what an item says of a process: its name and its parameters, or, without a name, that it is the file's; and the item's line
pub record Body : Type 0 where
  pub label : Option (List ℕ)
  pub params : List (List ℕ)
  pub content : Written
  pub line : ℕ

-- what the item on this line says of a process, if it does
abbrev pub body_of : Item → ℕ → List Body
body_of (builtins bs) n = []
body_of (functions ss) n = []
body_of (definition x xs p) n =
    record { label = Some x; params = xs; content = p; line = n } ∷ []
body_of (process p) n = record { label = None; params = []; content = p; line = n } ∷ []
body_of (statement s) n = []

-- the processes of a file, in order
abbrev pub bodies : List Standing → List Body
bodies [] = []
bodies (i ∷ is) = body_of i.item i.line ++ bodies is

-- what an item says of traces
abbrev pub stated_by : Item → List Statement
stated_by (builtins bs) = []
stated_by (functions ss) = []
stated_by (definition x xs p) = []
stated_by (process p) = []
stated_by (statement s) = s ∷ []

-- the restrictions and lemmas of a file, in order
abbrev pub statements : List Standing → List Statement
statements [] = []
statements (i ∷ is) = stated_by i.item ++ statements is
