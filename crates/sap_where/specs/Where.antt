-- Where in a file the cause stands for which it is refused.
use Rattle.std.specs.Prelude.{◌≡◌, ◌<◌, ◌+◌, ℕ, Bool, true, codes, List, [], ◌∷◌, length, drop, Option, Some, None}
use Rattle.sap_text.specs.declared.fault.Lex.{Lex}
use Rattle.sap_text.specs.declared.fault.Lex.TheVariants as lex
use Rattle.sap_text.specs.declared.token.Token.{Token}
use Rattle.sap_grammar.specs.Words.{Word, mark, name, words_of, starts}
use Rattle.sap_where.specs.Beginnings.{begins_definition, begins_statement}
use Rattle.sap_read.specs.Files.{AreTokens}
use Rattle.sap_read.specs.declared.fault.ReadFault.{ReadFault}
use Rattle.sap_read.specs.declared.fault.ReadFault.TheVariants.{Lex as LexFault, Header, Syntax, TwoProcesses, DuplicateName, FunctionClash, Parameters}
use Rattle.sap_stretches.specs.Stretches.{stretch_at}
use Rattle.sap_stretches.specs.declared.stretch.Stretch.{Stretch}
use Rattle.sap_expect.specs.FileWords.{IsFileWords}
use Rattle.sap_expect.specs.FirstWrong.{IsFirstWrong}
use Rattle.sap_where.specs.declared.find.Beginning.{Beginning}
use Rattle.sap_where.specs.declared.find.Beginning.TheVariants.{Process, Definition, Statement}
use Rattle.sap_where.specs.FileDeclarations.{IsClashAt}
use Rattle.sap_where.specs.Parameters.{IsParameter}

-- the offset that a fault of bytes names
abbrev pub offset_of : Lex → Option ℕ
offset_of lex.Mem = None
offset_of (lex.BadByte at) = Some at
offset_of (lex.OpenComment at) = Some at
offset_of (lex.OpenQuote at) = Some at
offset_of (lex.NameLong at) = Some at

-- one byte
abbrev pub one_byte : ℕ → Stretch
one_byte at = record { from = at; to = at + 1 }

-- the words begin with a header
pub record StartsFile (ws : List Word) : Type 0 where
  pub name_of : List ℕ
  pub rest : List Word
  pub spelled : ws ≡ mark (codes "theory") ∷ name name_of ∷ mark (codes "begin") ∷ rest

-- the words begin with an item of this kind, and of this name, where such items have one: the file's process, a name's definition,
-- a restriction or a lemma
abbrev pub begins : Beginning → List ℕ → List Word → Bool
begins Process x ws = starts (codes "process") ws
begins Definition x ws = begins_definition x ws
begins Statement x ws = begins_statement x ws

-- such an item begins with token number k
pub record BeginsAt (z : List ℕ) (ts : List Token) (b : Beginning) (x : List ℕ) (k : ℕ) : Type 0 where
  pub inside : k < length ts
  pub is : begins b x (words_of z (drop k ts)) ≡ true

-- it holds here, and of one number before
pub record IsSecond (P : ℕ → Type 0) (k : ℕ) : Type 0 where
  pub is : P k
  pub first : ℕ
  pub before : first < k
  pub is_first : P first
  pub no_other : (i : ℕ) → i < k → P i → i ≡ first

-- it holds here, and of no number before
pub record IsFirst (P : ℕ → Type 0) (k : ℕ) : Type 0 where
  pub is : P k
  pub none_before : (i : ℕ) → i < k → P i → ⊥

-- it holds of one number at most
abbrev pub HoldsOnce : (ℕ → Type 0) → Type 0
HoldsOnce P = (i j : ℕ) → i < j → P i → P j → ⊥

-- an item begins with token number k whose name is taken: the second definition of the name; where none is defined twice, the
-- second restriction or lemma that has it; where only one has it, that one
pub data IsTakenAt (z : List ℕ) (ts : List Token) (x : List ℕ) : ℕ → Type 0 where
  second_definition : {k : ℕ} → IsSecond (BeginsAt z ts Definition x) k → IsTakenAt z ts x k
  second_statement : {k : ℕ} → HoldsOnce (BeginsAt z ts Definition x)
      → IsSecond (BeginsAt z ts Statement x) k → IsTakenAt z ts x k
  only_statement : {k : ℕ} → HoldsOnce (BeginsAt z ts Definition x)
      → HoldsOnce (BeginsAt z ts Statement x) → IsFirst (BeginsAt z ts Statement x) k
      → IsTakenAt z ts x k

-- no definition has the name twice, and no restriction or lemma has it
pub record IsTakenNowhere (z : List ℕ) (ts : List Token) (x : List ℕ) : Type 0 where
  pub definitions : HoldsOnce (BeginsAt z ts Definition x)
  pub statements : (i : ℕ) → BeginsAt z ts Statement x i → ⊥

-- token k is the name where it stands a second time among the parameters of a definition, the first that has it twice among them
pub record IsRepeatedAt (z : List ℕ) (ts : List Token) (x : List ℕ) (k : ℕ) : Type 0 where
  pub item : ℕ
  pub second : IsSecond (IsParameter z ts x item) k
  pub none_before : (i j : ℕ) → i < item → IsSecond (IsParameter z ts x i) j → ⊥

-- the stretch is where this cause stands in the bytes: the byte of a fault of bytes; the word with which what stands before it is no
-- header's beginning any more; the word with which what stands before it is no file's beginning any more; `process` where it stands a
-- second time; the name that is taken, behind its item's first word; a parameter where it stands a second time; the first word of the
-- first declaration that clashes
pub data IsWhere (z : List ℕ) : ReadFault → Stretch → Type 0 where
  at_byte : {f : Lex} {at : ℕ} {s : Stretch} → offset_of f ≡ Some at → at < length z
      → s ≡ one_byte at → IsWhere z (LexFault f) s
  at_header : {ts : List Token} {k : ℕ} {s : Stretch} → AreTokens z ts
      → IsFirstWrong StartsFile (words_of z ts) k → s ≡ stretch_at ts k → IsWhere z Header s
  at_item : {ts : List Token} {line k : ℕ} {s : Stretch} → AreTokens z ts
      → IsFirstWrong IsFileWords (words_of z ts) k → s ≡ stretch_at ts k
      → IsWhere z (Syntax line) s
  at_process : {ts : List Token} {line k : ℕ} {s : Stretch} → AreTokens z ts
      → IsSecond (BeginsAt z ts Process []) k → s ≡ stretch_at ts k
      → IsWhere z (TwoProcesses line) s
  at_name : {ts : List Token} {x : List ℕ} {k : ℕ} {s : Stretch} → AreTokens z ts
      → IsTakenAt z ts x k → s ≡ stretch_at ts (k + 1) → IsWhere z (DuplicateName x) s
  at_parameter : {ts : List Token} {x : List ℕ} {k : ℕ} {s : Stretch} → AreTokens z ts
      → IsRepeatedAt z ts x k → s ≡ stretch_at ts k → IsWhere z (Parameters x) s
  at_declaration : {ts : List Token} {x : List ℕ} {k : ℕ} {s : Stretch} → AreTokens z ts
      → IsClashAt z ts x k → s ≡ stretch_at ts k → IsWhere z (FunctionClash x) s

-- these causes have a stretch in each file that is refused for them
pub data HasStretch : ReadFault → Type 0 where
  bytes_have : (f : Lex) → HasStretch (LexFault f)
  header_has : HasStretch Header
  item_has : (line : ℕ) → HasStretch (Syntax line)
  processes_have : (line : ℕ) → HasStretch (TwoProcesses line)
  names_have : (x : List ℕ) → HasStretch (DuplicateName x)
  parameters_have : (x : List ℕ) → HasStretch (Parameters x)
  declarations_have : (x : List ℕ) → HasStretch (FunctionClash x)
