-- What the bytes of a file are read as.
use Rattle.std.specs.Prelude.{◌≤◌, ◌≡◌, ℕ, true, List, [], Some, None, Result, Ok, Err}
use Rattle.sap_text.specs.declared.fault.Lex.{Lex}
use Rattle.sap_text.specs.declared.token.Token.{Token}
use Rattle.sap_text.specs.Tokens.{IsLexed}
use Rattle.sap_terms.specs.Equations.{pair_name}
use Rattle.sap_terms.specs.Signature.{Sig, HoldsBuiltins, arity_of}
use Rattle.sap_formula.specs.Form.{RestrictionForm, LemmaForm}
use Rattle.sap_formula.specs.Laws.{IsCheckedVisible}
use Rattle.sap_formula.specs.Truth.{EachIn}
use Rattle.sap_formula.specs.declared.fault.FormulaFault.{FormulaFault}
use Rattle.sap_locks.specs.Annotation.{LockFlaw, IsAnnotation, IsFirstLockFlaw}
use Rattle.sap_process.specs.Proc.{Proc, node_count, proc}
use Rattle.sap_process.specs.Flaws.{IsFirstFlaw, IsWellFormed}
use Rattle.sap_process.specs.Ready.{IsReady}
use Rattle.sap_process.specs.Sorted.{with_sorts}
use Rattle.sap_process.specs.declared.flaw.Flaw.{Flaw}
use Rattle.sap_uses.specs.declared.fault.MacroFault.{MacroFault}
use Rattle.sap_read.specs.declared.file.File.{File}
use Rattle.sap_read.specs.declared.fault.ReadFault.{ReadFault}
use Rattle.sap_read.specs.declared.fault.ReadFault.TheVariants.{Lex as LexFault, Header, Syntax, Ill, Formula}
use Rattle.sap_read.specs.Item.{Standing, bodies, statements}
use Rattle.sap_grammar.specs.Cut.{Placed, placed, IsHeader, last_line}
use Rattle.sap_grammar.specs.Parted as parted
use Rattle.sap_grammar.specs.Words.{words_of}
use Rattle.sap_read.specs.ItemGrammar.{AreItems, IsFaultyFile}
use Rattle.sap_read.specs.FileProcess.{IsExpanded, IsUnexpanded}
use Rattle.sap_read.specs.Identifiers.{identifiers_of}
use Rattle.sap_read.specs.Item.{signature_of}
use Rattle.sap_read.specs.Causes.{cause_of, fault_of_uses, lock_fault}
use Rattle.sap_statements.specs.Stated.{AreFaultless, IsFirstFaulty, restrictions_of, lemmas_of}
use Rattle.sap_terms.specs.declared.limits.TheConstants.{MOST_FILE_NAME_BYTES, MOST_PROCESS_PLACES}

-- what a file tells
pub record FileContent : Type 0 where
  pub name : List ℕ
  pub signature : Sig
  pub process : Proc
  pub restrictions : List RestrictionForm
  pub lemmas : List LemmaForm

-- what the program's own file tells
abbrev pub told_by : File → FileContent
told_by f = record { name = f.name; signature = f.signature; process = proc f.process; restrictions = f.restrictions; lemmas = f.lemmas }

-- the bytes are a file's tokens, the longest of MOST_FILE_NAME_BYTES
abbrev pub AreTokens : List ℕ → List Token → Type 0
AreTokens = parted.AreTokens MOST_FILE_NAME_BYTES

-- the file has this header, and these items as they are cut
abbrev pub IsParted : List ℕ → List Token → List ℕ → List (List Placed) → Type 0
IsParted = parted.IsParted MOST_FILE_NAME_BYTES

-- this is the expansion of its process, where these are its tokens and items
abbrev pub IsFileProcess : List ℕ → List Token → List Standing → Proc → Type 0
IsFileProcess z ts is p =
    IsExpanded (signature_of is) (identifiers_of (words_of z ts)) (bodies is) p

-- the file it is, or why it is refused
pub data IsRead (z : List ℕ) : Result FileContent ReadFault → Type 0 where
  no_tokens : {f : Lex} → IsLexed MOST_FILE_NAME_BYTES 0 1 z (Err f) → IsRead z (Err (LexFault f))
  no_header : {ts : List Token} → AreTokens z ts
      → ((x : List ℕ) (rest : List Placed) → IsHeader x (placed z ts) rest → ⊥)
      → IsRead z (Err Header)
  no_item : {ts : List Token} {x : List ℕ} {cut : List (List Placed)} {line : ℕ}
      → IsParted z ts x cut → IsFaultyFile (last_line (placed z ts)) cut line
      → IsRead z (Err (Syntax line))
  refused : {ts : List Token} {x : List ℕ} {cut : List (List Placed)} {is : List Standing}
      {e : ReadFault} → IsParted z ts x cut
      → AreItems (signature_of is) cut is → cause_of is ≡ Some e → IsRead z (Err e)
  unexpanded : {ts : List Token} {x : List ℕ} {cut : List (List Placed)} {is : List Standing}
      {f : MacroFault} → IsParted z ts x cut
      → AreItems (signature_of is) cut is → cause_of is ≡ None
      → IsUnexpanded (signature_of is) (bodies is) f → IsRead z (Err (fault_of_uses f))
  ill : {ts : List Token} {x : List ℕ} {cut : List (List Placed)} {is : List Standing} {p : Proc}
      {w : Flaw} {path : List ℕ} → IsParted z ts x cut
      → AreItems (signature_of is) cut is → cause_of is ≡ None
      → IsFileProcess z ts is p → IsFirstFlaw (signature_of is) p w path
      → IsRead z (Err (Ill w path))
  locked : {ts : List Token} {x : List ℕ} {cut : List (List Placed)} {is : List Standing} {p : Proc}
      {w : LockFlaw} {path : List ℕ} → IsParted z ts x cut
      → AreItems (signature_of is) cut is → cause_of is ≡ None
      → IsFileProcess z ts is p → IsWellFormed (signature_of is) p
      → IsFirstLockFlaw (with_sorts [] p) w path → IsRead z (Err (lock_fault w path))
  unchecked : {ts : List Token} {x : List ℕ} {cut : List (List Placed)} {is : List Standing}
      {p q : Proc} {y : List ℕ} {f : FormulaFault} → IsParted z ts x cut
      → AreItems (signature_of is) cut is → cause_of is ≡ None
      → IsFileProcess z ts is p → IsWellFormed (signature_of is) p
      → IsAnnotation (with_sorts [] p) q → IsFirstFaulty (signature_of is) true (statements is) y f
      → IsRead z (Err (Formula y f))
  accepted : {ts : List Token} {x : List ℕ} {cut : List (List Placed)} {is : List Standing}
      {p q : Proc} → IsParted z ts x cut
      → AreItems (signature_of is) cut is → cause_of is ≡ None
      → IsFileProcess z ts is p → IsWellFormed (signature_of is) p
      → IsAnnotation (with_sorts [] p) q → AreFaultless (signature_of is) true (statements is)
      → IsRead z (Ok (record { name = x; signature = signature_of is; process = q; restrictions = restrictions_of (statements is); lemmas = lemmas_of (statements is) }))

-- the file's signature holds the symbol of pairs and those of its builtins; its process is what annotation makes of a process that is ready to run
-- and not too large; its restrictions and lemmas are checked, and speak of no hidden fact
pub record IsRunnable (f : FileContent) : Type 0 where
  pub pairs : arity_of f.signature pair_name ≡ Some 2
  pub builtins : HoldsBuiltins f.signature
  pub process : Proc
  pub small : node_count process ≤ MOST_PROCESS_PLACES
  pub ready : IsReady f.signature process
  pub annotation : IsAnnotation process f.process
  pub restrictions : EachIn
      (λ (r : RestrictionForm). IsCheckedVisible f.signature r.formula) f.restrictions
  pub lemmas : EachIn (λ (l : LemmaForm). IsCheckedVisible f.signature l.formula) f.lemmas
