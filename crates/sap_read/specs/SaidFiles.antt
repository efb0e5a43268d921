-- What the items of a file say, before anything of it is checked.
use Rattle.std.specs.Prelude.{◌≡◌, ℕ, List, map, None, ⊤}
use Rattle.sap_terms.specs.Signature.{pairs_alone}
use Rattle.sap_text.specs.declared.token.Token.{Token}
use Rattle.sap_grammar.specs.Cut.{Placed}
use Rattle.sap_grammar.specs.Signatures.{clash_from}
use Rattle.sap_grammar.specs.Words.{words_of}
use Rattle.sap_read.specs.Causes.{cause}
use Rattle.sap_read.specs.Entries.{body, located_body}
use Rattle.sap_read.specs.Files.{IsParted}
use Rattle.sap_read.specs.Identifiers.{identifiers_of}
use Rattle.sap_read.specs.Item.{Standing, bodies, declarations, signature_of, statements}
use Rattle.sap_read.specs.ItemGrammar.{AreItems}
use Rattle.sap_read.specs.LocatedItems.{located_bodies}
use Rattle.sap_read.specs.declared.fault.ReadFault.{ReadFault}
use Rattle.sap_read.specs.declared.fault.ReadFault.TheVariants.{Header, Syntax, NoProcess, TwoProcesses, UnknownProcess, DuplicateName, FunctionClash, Parameters, Arguments, TooMany, TooDeep, Large, Flawed, Ill, Lock, Formula}
use Rattle.sap_read.specs.declared.said.SaidFile.{SaidFile}

-- the bytes are a file of these tokens and items; it has this name, declares this, perhaps with a clash, says this of processes, with
-- the words of their places, and states this; and these are its identifiers
pub record IsSaidFile (z : List ℕ) (f : SaidFile) : Type 0 where
  pub tokens : List Token
  pub cut : List (List Placed)
  pub standing : List Standing
  pub parted : IsParted z tokens f.name cut
  pub items : AreItems (signature_of standing) cut standing
  pub signature : f.declared.signature ≡ signature_of standing
  pub clash : f.declared.clash ≡ clash_from pairs_alone (declarations standing)
  pub identifiers : f.identifiers ≡ identifiers_of (words_of z tokens)
  pub bodies_are : map body f.entries ≡ bodies standing
  pub places_are : map located_body f.entries ≡ located_bodies items
  pub statements_are : f.statements ≡ statements standing

-- no cause refuses what it says before its uses are looked at
abbrev pub IsUnrefused : SaidFile → Type 0
IsUnrefused f = cause (map body f.entries) f.statements f.declared.clash ≡ None

-- the cause is that the words are no file's
abbrev pub IsOfWords : ReadFault → Type 0
IsOfWords Header = ⊤
IsOfWords (Syntax n) = ⊤
IsOfWords _ = ⊥

-- the cause is one that is looked for in what the items say, before uses
abbrev pub IsOfItems : ReadFault → Type 0
IsOfItems NoProcess = ⊤
IsOfItems (TwoProcesses n) = ⊤
IsOfItems (UnknownProcess x) = ⊤
IsOfItems (DuplicateName x) = ⊤
IsOfItems (FunctionClash x) = ⊤
IsOfItems _ = ⊥

-- the cause is one of those of uses, or that of a limit
abbrev pub IsOfUses : ReadFault → Type 0
IsOfUses (Parameters x) = ⊤
IsOfUses (Arguments x) = ⊤
IsOfUses TooMany = ⊤
IsOfUses TooDeep = ⊤
IsOfUses (Large x) = ⊤
IsOfUses (Flawed x w path) = ⊤
IsOfUses _ = ⊥

-- the cause is one of those for which the process, with its uses replaced, or a formula is refused
abbrev pub IsJudged : ReadFault → Type 0
IsJudged (Ill w path) = ⊤
IsJudged (Lock f) = ⊤
IsJudged (Formula x f) = ⊤
IsJudged _ = ⊥
