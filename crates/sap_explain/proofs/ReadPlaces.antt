-- Causes that stand where what is read of the file has them stand nowhere else, and no others stand so.
use Rattle.std.proofs.Common.{◌≡◌, ℕ, List, Option, None, Some, refl, sym, ◌∙◌}
use Rattle.sap_locks.specs.declared.fault.LockFault.{LockFault}
use Rattle.sap_text.specs.declared.token.Token.{Token}
use Rattle.sap_read.specs.Files.{AreTokens}
use Rattle.sap_read.specs.declared.fault.ReadFault.{ReadFault}
use Rattle.sap_read.specs.declared.fault.ReadFault.TheVariants.{Mem, Lex as LexFault, Header, Syntax, NoProcess, TwoProcesses, UnknownProcess, DuplicateName, FunctionClash, Parameters, Arguments, TooMany, TooDeep, Large, Flawed, Ill, Lock, Formula}
use Rattle.sap_stretches.specs.declared.stretch.Stretch.{Stretch}
use Rattle.sap_read_places.specs.declared.told.Told.{Told}
use Rattle.sap_read_places.specs.Placed.{path_of}
use Rattle.sap_read_places.specs.ReadPlaces.{IsReadCause, IsReadPlace}
use Rattle.sap_where.specs.Where.{IsWhere, at_byte, at_declaration, at_header, at_item, at_name, at_parameter, at_process}

-- what stands so is such a cause
pub read_is_cause : (z : List ℕ) (e : ReadFault) (t : Told) → IsReadPlace z e t → IsReadCause e
read_is_cause z Mem t h = absurd h
read_is_cause z (LexFault f) t h = absurd h
read_is_cause z Header t h = absurd h
read_is_cause z (Syntax line) t h = absurd h
read_is_cause z NoProcess t h = absurd h
read_is_cause z (TwoProcesses line) t h = absurd h
read_is_cause z (UnknownProcess x) t h = tt
read_is_cause z (DuplicateName x) t h = absurd h
read_is_cause z (FunctionClash x) t h = absurd h
read_is_cause z (Parameters x) t h = absurd h
read_is_cause z (Arguments x) t h = tt
read_is_cause z TooMany t h = tt
read_is_cause z TooDeep t h = tt
read_is_cause z (Large x) t h = tt
read_is_cause z (Flawed x w p) t h = tt
read_is_cause z (Ill w p) t h = tt
read_is_cause z (Lock f) t h = absurd h
read_is_cause z (Formula x f) t h = tt

-- and has no path
pub read_has_no_path : (e : ReadFault) → IsReadCause e → path_of e ≡ None
read_has_no_path Mem h = absurd h
read_has_no_path (LexFault f) h = absurd h
read_has_no_path Header h = absurd h
read_has_no_path (Syntax line) h = absurd h
read_has_no_path NoProcess h = absurd h
read_has_no_path (TwoProcesses line) h = absurd h
read_has_no_path (UnknownProcess x) h = refl
read_has_no_path (DuplicateName x) h = absurd h
read_has_no_path (FunctionClash x) h = absurd h
read_has_no_path (Parameters x) h = absurd h
read_has_no_path (Arguments x) h = refl
read_has_no_path TooMany h = refl
read_has_no_path TooDeep h = refl
read_has_no_path (Large x) h = refl
read_has_no_path (Flawed x w p) h = refl
read_has_no_path (Ill w p) h = refl
read_has_no_path (Lock f) h = absurd h
read_has_no_path (Formula x f) h = refl

-- only a lock has one
pub no_path : (e : ReadFault) → ((f : LockFault) → e ≡ Lock f → ⊥) → path_of e ≡ None
no_path Mem n = refl
no_path (LexFault f) n = refl
no_path Header n = refl
no_path (Syntax line) n = refl
no_path NoProcess n = refl
no_path (TwoProcesses line) n = refl
no_path (UnknownProcess x) n = refl
no_path (DuplicateName x) n = refl
no_path (FunctionClash x) n = refl
no_path (Parameters x) n = refl
no_path (Arguments x) n = refl
no_path TooMany n = refl
no_path TooDeep n = refl
no_path (Large x) n = refl
no_path (Flawed x w p) n = refl
no_path (Ill w p) n = refl
no_path (Lock f) n = absurd (n f refl)
no_path (Formula x f) n = refl

-- nor do the words of a file place it
pub words_place_none : {A : Type 0} {z : List ℕ} {e : ReadFault} {s : Stretch} → IsWhere z e s → IsReadCause e → A
words_place_none (at_byte a l f) h = absurd h
words_place_none (at_header a w f) h = absurd h
words_place_none (at_item a w f) h = absurd h
words_place_none (at_process a w f) h = absurd h
words_place_none (at_name a w f) h = absurd h
words_place_none (at_parameter a w f) h = absurd h
words_place_none (at_declaration a w f) h = absurd h

pub read_without_words : {A : Type 0} {z : List ℕ} {e : ReadFault} {s : Stretch} (t : Told) → IsWhere z e s → IsReadPlace z e t → A
read_without_words {z = z} {e = e} t w r = words_place_none w (read_is_cause z e t r)

pub no_path_is : {A : Type 0} {o : Option (List ℕ)} {p : List ℕ} → o ≡ None → o ≡ Some p → A
no_path_is n e = let clash : ◌≡◌ {A = Option (List ℕ)} None (Some _) = sym n ∙ e in absurd (cc (clash))

pub read_without_path : {A : Type 0} (z : List ℕ) (e : ReadFault) (t : Told) (path : List ℕ) → path_of e ≡ Some path → IsReadPlace z e t → A
read_without_path z e t path is r = no_path_is (read_has_no_path e (read_is_cause z e t r)) is

-- it is the place of a file with tokens
pub read_tokens : (z : List ℕ) (e : ReadFault) (t : Told) → IsReadPlace z e t → (ts : List Token) × AreTokens z ts
read_tokens z Mem t h = absurd h
read_tokens z (LexFault f) t h = absurd h
read_tokens z Header t h = absurd h
read_tokens z (Syntax line) t h = absurd h
read_tokens z NoProcess t h = absurd h
read_tokens z (TwoProcesses line) t h = absurd h
read_tokens z (UnknownProcess x) t h = (h.tokens, h.has.parted.tokens)
read_tokens z (DuplicateName x) t h = absurd h
read_tokens z (FunctionClash x) t h = absurd h
read_tokens z (Parameters x) t h = absurd h
read_tokens z (Arguments x) t h = (h.tokens, h.placed.parted.tokens)
read_tokens z TooMany t h = (h.tokens, h.placed.parted.tokens)
read_tokens z TooDeep t h = (h.tokens, h.placed.parted.tokens)
read_tokens z (Large x) t h = (h.tokens, h.placed.parted.tokens)
read_tokens z (Flawed x w path) t h = (h.tokens, h.placed.parted.tokens)
read_tokens z (Ill w path) t h = (h.tokens, h.placed.parted.tokens)
read_tokens z (Lock f) t h = absurd h
read_tokens z (Formula x f) t h = (h.tokens, h.parted.tokens)
