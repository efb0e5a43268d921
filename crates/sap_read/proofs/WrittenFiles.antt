-- From what is written in a file to what it is read as.
use Rattle.std.proofs.Common.{◌≡◌, ℕ, List, inl, inr, refl, sym, subst, None, Ok, Err}
use Rattle.sap_terms.specs.Signature.{Sig, pairs_alone}
use Rattle.sap_process.specs.Proc.{Proc}
use Rattle.sap_formula.specs.Form.{RestrictionForm, LemmaForm}
use Rattle.sap_grammar.specs.Signatures.{clash_from}
use Rattle.sap_grammar.specs.Words.{words_of}
use Rattle.sap_locks.specs.Annotation.{LockFlaw, without, over}
use Rattle.sap_statements.specs.declared.statement.Statement.{Statement}
use Rattle.sap_uses.specs.declared.fault.MacroFault.{MacroFault}
use Rattle.sap_uses.specs.declared.fault.MacroFault.TheVariants as uses
use Rattle.sap_read.specs.Causes.{cause, fault_of_uses, lock_fault}
use Rattle.sap_read.specs.Files.{IsRead}
use Rattle.sap_read.specs.Identifiers.{identifiers_of}
use Rattle.sap_read.specs.Item.{bodies, declarations, statements}
use Rattle.sap_read.specs.SaidFiles.{IsJudged, IsOfItems, IsOfUses, IsOfWords}
use Rattle.sap_read.specs.WrittenFiles.{IsEarly, IsWrittenFile}
use Rattle.sap_read.specs.code.Judged.{IsAccepted, IsFirstUnchecked, IsRefused, IsUnsound}
use Rattle.sap_read.specs.code.Parting.{AreParts}
use Rattle.sap_read.specs.declared.fault.ReadFault.{ReadFault}
use Rattle.sap_read.specs.declared.fault.ReadFault.TheVariants.{Mem, Lex as LexFault, Header, Syntax, NoProcess, TwoProcesses, UnknownProcess, DuplicateName, FunctionClash, Parameters, Arguments, TooMany, TooDeep, Large, Flawed, Ill, Lock, Formula}
use Rattle.sap_read.specs.declared.written.WrittenFile.{WrittenFile}
use Rattle.sap_read.proofs.Parts.{own_accepted, own_refused}

-- ---- causes that are looked for before uses

pub words_early : (e : ReadFault) → IsOfWords e → IsEarly e
words_early Mem h = absurd h
words_early (LexFault f) h = absurd h
words_early Header h = tt
words_early (Syntax n) h = tt
words_early NoProcess h = absurd h
words_early (TwoProcesses n) h = absurd h
words_early (UnknownProcess x) h = absurd h
words_early (DuplicateName x) h = absurd h
words_early (FunctionClash x) h = absurd h
words_early (Parameters x) h = absurd h
words_early (Arguments x) h = absurd h
words_early TooMany h = absurd h
words_early TooDeep h = absurd h
words_early (Large x) h = absurd h
words_early (Flawed x w path) h = absurd h
words_early (Ill w path) h = absurd h
words_early (Lock l) h = absurd h
words_early (Formula x g) h = absurd h

pub items_early : (e : ReadFault) → IsOfItems e → IsEarly e
items_early Mem h = absurd h
items_early (LexFault f) h = absurd h
items_early Header h = absurd h
items_early (Syntax n) h = absurd h
items_early NoProcess h = tt
items_early (TwoProcesses n) h = tt
items_early (UnknownProcess x) h = tt
items_early (DuplicateName x) h = tt
items_early (FunctionClash x) h = tt
items_early (Parameters x) h = absurd h
items_early (Arguments x) h = absurd h
items_early TooMany h = absurd h
items_early TooDeep h = absurd h
items_early (Large x) h = absurd h
items_early (Flawed x w path) h = absurd h
items_early (Ill w path) h = absurd h
items_early (Lock l) h = absurd h
items_early (Formula x g) h = absurd h

-- ---- causes that are looked for behind them

pub uses_of : (f : MacroFault) → (fault_of_uses f ≡ Mem → ⊥) → IsOfUses (fault_of_uses f)
uses_of uses.Mem h = h refl
uses_of (uses.Parameters x) h = tt
uses_of (uses.Arguments x) h = tt
uses_of uses.TooMany h = tt
uses_of uses.TooDeep h = tt
uses_of (uses.Large x) h = tt
uses_of (uses.Flawed x w path) h = tt

lock_judged : (w : LockFlaw) (path : List ℕ) → IsJudged (lock_fault w path)
lock_judged without path = tt
lock_judged over path = tt

pub unsound_judged : (g : Sig) (p : Proc) (e : ReadFault) → IsUnsound g p e → IsJudged e
unsound_judged g p e (inl f) = subst IsJudged (sym f.is) tt
unsound_judged g p e (inr f) = subst IsJudged (sym f.is) (lock_judged f.which f.path)

pub unchecked_judged : (g : Sig) (ss : List Statement) (e : ReadFault) → IsFirstUnchecked g ss e → IsJudged e
unchecked_judged g ss e f = subst IsJudged (sym f.is) tt

-- ---- what is written, and what it is read as

-- its processes are those of its items
pub written_parts : (z : List ℕ) (w : WrittenFile) (is : IsWrittenFile z w) → AreParts (bodies is.standing) w.statements (clash_from pairs_alone (declarations is.standing)) w.processes
written_parts z w is = record {
  nothing = subst (λ (ss : List Statement). cause (bodies is.standing) ss (clash_from pairs_alone (declarations is.standing)) ≡ None) (sym is.statements_are) is.nothing;
  order = is.order;
  definitions_are = is.definitions_are;
  main_is = is.main_is;
  uses = is.uses;
  count = is.count;
}

pub written_refused : (z : List ℕ) (w : WrittenFile) (is : IsWrittenFile z w) (e : ReadFault)
    → IsRefused w.declared.signature (clash_from pairs_alone (declarations is.standing)) w.identifiers (bodies is.standing) w.statements e → IsRead z (Err e)
written_refused z w is e r =
    own_refused is.standing e is.parted is.items
    (subst (λ (s : Sig). IsRefused s (clash_from pairs_alone (declarations is.standing)) (identifiers_of (words_of z is.tokens)) (bodies is.standing) (statements is.standing) e) is.signature
    (subst (λ (ns : List (List ℕ)). IsRefused w.declared.signature (clash_from pairs_alone (declarations is.standing)) ns (bodies is.standing) (statements is.standing) e) is.identifiers
    (subst (λ (ss : List Statement). IsRefused w.declared.signature (clash_from pairs_alone (declarations is.standing)) w.identifiers (bodies is.standing) ss e) is.statements_are r)))

pub written_accepted : (z : List ℕ) (w : WrittenFile) (is : IsWrittenFile z w) (q : Proc) (rs : List RestrictionForm) (ls : List LemmaForm)
    → IsAccepted w.declared.signature (clash_from pairs_alone (declarations is.standing)) w.identifiers (bodies is.standing) w.statements q rs ls
    → IsRead z (Ok (record { name = w.name; signature = w.declared.signature; process = q; restrictions = rs; lemmas = ls }))
written_accepted z w is q rs ls a =
    rw is.signature (own_accepted is.standing q rs ls is.parted is.items
    (subst (λ (s : Sig). IsAccepted s (clash_from pairs_alone (declarations is.standing)) (identifiers_of (words_of z is.tokens)) (bodies is.standing) (statements is.standing) q rs ls) is.signature
    (subst (λ (ns : List (List ℕ)). IsAccepted w.declared.signature (clash_from pairs_alone (declarations is.standing)) ns (bodies is.standing) (statements is.standing) q rs ls) is.identifiers
    (subst (λ (ss : List Statement). IsAccepted w.declared.signature (clash_from pairs_alone (declarations is.standing)) w.identifiers (bodies is.standing) ss q rs ls) is.statements_are a))))
