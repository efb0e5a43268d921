-- What is there of a file where the cause was found for which it is refused.
use Rattle.std.proofs.Common.{◌≡◌, ℕ, List, Err, refl, subst}
use Rattle.std.specs.Borrow.{Bor}
use Rattle.sap_text.specs.declared.fault.Lex.{Lex}
use Rattle.sap_text.specs.declared.token.Token.{Token}
use Rattle.sap_formula.specs.declared.fault.FormulaFault.{FormulaFault}
use Rattle.sap_process.specs.Proc.{proc}
use Rattle.sap_process.specs.declared.flaw.Flaw.{Flaw}
use Rattle.sap_process.specs.declared.process.Process.{Process}
use Rattle.sap_read.specs.FileExpansions.{IsFileExpansion}
use Rattle.sap_read.specs.FileTokens.{HasTokens}
use Rattle.sap_read.specs.Files.{IsRead}
use Rattle.sap_read.specs.SaidFiles.{IsJudged, IsOfItems, IsOfUses, IsOfWords, IsSaidFile}
use Rattle.sap_read.specs.WrittenFiles.{IsWrittenFile}
use Rattle.sap_read.specs.declared.fault.ReadFault.{ReadFault}
use Rattle.sap_read.specs.declared.fault.ReadFault.TheVariants.{Mem, Lex as LexFault, Header, Syntax, NoProcess, TwoProcesses, UnknownProcess, DuplicateName, FunctionClash, Parameters, Arguments, TooMany, TooDeep, Large, Flawed, Ill, Lock, Formula}
use Rattle.sap_read.specs.declared.said.SaidFile.{SaidFile}
use Rattle.sap_read.specs.declared.written.WrittenFile.{WrittenFile}
use Rattle.sap_read_places.specs.Reached.{IsReached}
use Rattle.sap_read_places.specs.ReadPlaces.{IsReadPlace}
use Rattle.sap_read_places.specs.declared.reached.Reached.{Reached}
use Rattle.sap_read_places.specs.declared.reached.Reached.TheVariants.{Bytes, Tokens, Items, Written, Expanded}
use Rattle.sap_read_places.specs.declared.told.Told.{Told}

-- ---- what is there

module _ (z : List ℕ) (ts : List Token) (e : ReadFault) (r : Reached) where
  pub words_of : r ≡ Tokens → IsReached z ts e r → IsOfWords e
  words_of is h = (subst (λ (q : Reached). IsReached z ts e q) is h).1

  pub items_of : (f : Bor SaidFile) → r ≡ Items f → IsReached z ts e r → HasTokens z ts × IsSaidFile z f.now × IsOfItems e
  items_of f is h = subst (λ (q : Reached). IsReached z ts e q) is h

  pub uses_of : (w : Bor WrittenFile) → r ≡ Written w → IsReached z ts e r → HasTokens z ts × IsWrittenFile z w.now × IsOfUses e
  uses_of w is h = subst (λ (q : Reached). IsReached z ts e q) is h

  pub judged_of : (w : Bor WrittenFile) (p : Bor Process) → r ≡ Expanded w p → IsReached z ts e r
      → HasTokens z ts × IsWrittenFile z w.now × IsFileExpansion w.now (proc p.now) × IsJudged e
  judged_of w p is h = subst (λ (q : Reached). IsReached z ts e q) is h

-- ---- where nothing is told

-- a fault of bytes has no place in what is read
pub bytes_unread : (z : List ℕ) (ts : List Token) (e : ReadFault) (r : Reached) → r ≡ Bytes → IsReached z ts e r → (t : Told) → IsReadPlace z e t → ⊥
bytes_unread z ts e r is h t p =
    let lex : (f : Lex) × (e ≡ LexFault f) = subst (λ (q : Reached). IsReached z ts e q) is h in
    subst (λ (q : ReadFault). IsReadPlace z q t) lex.1 p

pub unknown_refused : (z : List ℕ) (e : ReadFault) (x : List ℕ) → e ≡ UnknownProcess x → IsRead z (Err e) → IsRead z (Err (UnknownProcess x))
unknown_refused z e x is h = subst (λ (q : ReadFault). IsRead z (Err q)) is h

-- a cause of the words has no place in what is read
pub words_unread : (z : List ℕ) (e : ReadFault) → IsOfWords e → (t : Told) → IsReadPlace z e t → ⊥
words_unread z Mem h t p = absurd h
words_unread z (LexFault f) h t p = absurd h
words_unread z Header h t p = p
words_unread z (Syntax n) h t p = p
words_unread z NoProcess h t p = absurd h
words_unread z (TwoProcesses n) h t p = absurd h
words_unread z (UnknownProcess x) h t p = absurd h
words_unread z (DuplicateName x) h t p = absurd h
words_unread z (FunctionClash x) h t p = absurd h
words_unread z (Parameters x) h t p = absurd h
words_unread z (Arguments x) h t p = absurd h
words_unread z TooMany h t p = absurd h
words_unread z TooDeep h t p = absurd h
words_unread z (Large x) h t p = absurd h
words_unread z (Flawed x w path) h t p = absurd h
words_unread z (Ill w path) h t p = absurd h
words_unread z (Lock l) h t p = absurd h
words_unread z (Formula x g) h t p = absurd h

-- nor has a cause of items, but that of a name that nothing before defines
pub items_unread : (z : List ℕ) (e : ReadFault) → IsOfItems e → ((x : List ℕ) → e ≡ UnknownProcess x → ⊥) → (t : Told) → IsReadPlace z e t → ⊥
items_unread z Mem h n t p = absurd h
items_unread z (LexFault f) h n t p = absurd h
items_unread z Header h n t p = absurd h
items_unread z (Syntax line) h n t p = absurd h
items_unread z NoProcess h n t p = p
items_unread z (TwoProcesses line) h n t p = p
items_unread z (UnknownProcess x) h n t p = n x refl
items_unread z (DuplicateName x) h n t p = p
items_unread z (FunctionClash x) h n t p = p
items_unread z (Parameters x) h n t p = absurd h
items_unread z (Arguments x) h n t p = absurd h
items_unread z TooMany h n t p = absurd h
items_unread z TooDeep h n t p = absurd h
items_unread z (Large x) h n t p = absurd h
items_unread z (Flawed x w path) h n t p = absurd h
items_unread z (Ill w path) h n t p = absurd h
items_unread z (Lock l) h n t p = absurd h
items_unread z (Formula x g) h n t p = absurd h

-- nor has a parameter that stands twice
pub uses_unread : (z : List ℕ) (e : ReadFault) → IsOfUses e → ((x : List ℕ) → e ≡ Arguments x → ⊥) → ((x : List ℕ) → e ≡ Large x → ⊥) → (e ≡ TooMany → ⊥) → (e ≡ TooDeep → ⊥)
    → ((x : List ℕ) (w : Flaw) (path : List ℕ) → e ≡ Flawed x w path → ⊥) → (t : Told) → IsReadPlace z e t → ⊥
uses_unread z Mem h a l m d f t p = absurd h
uses_unread z (LexFault lex) h a l m d f t p = absurd h
uses_unread z Header h a l m d f t p = absurd h
uses_unread z (Syntax n) h a l m d f t p = absurd h
uses_unread z NoProcess h a l m d f t p = absurd h
uses_unread z (TwoProcesses n) h a l m d f t p = absurd h
uses_unread z (UnknownProcess x) h a l m d f t p = absurd h
uses_unread z (DuplicateName x) h a l m d f t p = absurd h
uses_unread z (FunctionClash x) h a l m d f t p = absurd h
uses_unread z (Parameters x) h a l m d f t p = p
uses_unread z (Arguments x) h a l m d f t p = a x refl
uses_unread z TooMany h a l m d f t p = m refl
uses_unread z TooDeep h a l m d f t p = d refl
uses_unread z (Large x) h a l m d f t p = l x refl
uses_unread z (Flawed x w path) h a l m d f t p = f x w path refl
uses_unread z (Ill w path) h a l m d f t p = absurd h
uses_unread z (Lock lock) h a l m d f t p = absurd h
uses_unread z (Formula x g) h a l m d f t p = absurd h

-- nor has a lock, whose path leads there
pub judged_unread : (z : List ℕ) (e : ReadFault) → IsJudged e → ((w : Flaw) (path : List ℕ) → e ≡ Ill w path → ⊥) → ((x : List ℕ) (f : FormulaFault) → e ≡ Formula x f → ⊥)
    → (t : Told) → IsReadPlace z e t → ⊥
judged_unread z Mem h i f t p = absurd h
judged_unread z (LexFault lex) h i f t p = absurd h
judged_unread z Header h i f t p = absurd h
judged_unread z (Syntax n) h i f t p = absurd h
judged_unread z NoProcess h i f t p = absurd h
judged_unread z (TwoProcesses n) h i f t p = absurd h
judged_unread z (UnknownProcess x) h i f t p = absurd h
judged_unread z (DuplicateName x) h i f t p = absurd h
judged_unread z (FunctionClash x) h i f t p = absurd h
judged_unread z (Parameters x) h i f t p = absurd h
judged_unread z (Arguments x) h i f t p = absurd h
judged_unread z TooMany h i f t p = absurd h
judged_unread z TooDeep h i f t p = absurd h
judged_unread z (Large x) h i f t p = absurd h
judged_unread z (Flawed x w path) h i f t p = absurd h
judged_unread z (Ill w path) h i f t p = i w path refl
judged_unread z (Lock l) h i f t p = p
judged_unread z (Formula x g) h i f t p = f x g refl
