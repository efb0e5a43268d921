-- What is there of a file where the cause was found for which it is refused.
use Rattle.std.proofs.Common.{◌≡◌, ℕ, true, List, refl, subst}
use Rattle.std.specs.Borrow.{Bor}
use Rattle.sap_text.specs.declared.fault.Lex.{Lex}
use Rattle.sap_text.specs.declared.token.Token.{Token}
use Rattle.sap_locks.specs.declared.fault.LockFault.{LockFault}
use Rattle.sap_process.specs.declared.process.Process.{Process}
use Rattle.sap_read.specs.FileTokens.{HasTokens}
use Rattle.sap_read.specs.WrittenFiles.{IsWrittenFile}
use Rattle.sap_read.specs.declared.fault.ReadFault.{ReadFault}
use Rattle.sap_read.specs.declared.fault.ReadFault.TheVariants.{Lex as LexFault, Lock}
use Rattle.sap_read.specs.declared.written.WrittenFile.{WrittenFile}
use Rattle.sap_explain.specs.Cures.{is_syntax}
use Rattle.sap_explain.specs.ExpectedTold.{is_of_words}
use Rattle.sap_read_places.specs.Reached.{IsReached}
use Rattle.sap_read_places.specs.declared.reached.Reached.{Reached}
use Rattle.sap_read_places.specs.declared.reached.Reached.TheVariants.{Bytes, Tokens, Items, Written, Expanded}

-- bytes that aren't refused for a fault of theirs have tokens
pub tokens_reached : (z : List ℕ) (ts : List Token) (e : ReadFault) (r : Reached) → IsReached z ts e r → ((f : Lex) → e ≡ LexFault f → ⊥) → HasTokens z ts
tokens_reached z ts e Bytes h other = absurd (other h.0 h.1)
tokens_reached z ts e Tokens h other = h.0
tokens_reached z ts e (Items f) h other = h.0
tokens_reached z ts e (Written w) h other = h.0
tokens_reached z ts e (Expanded w p) h other = h.0

-- so have those that are refused for a word
not_byte : (f : Lex) → is_of_words (LexFault f) ≡ true → ⊥
not_byte f e = absurd (cc)

pub words_reached : (z : List ℕ) (ts : List Token) (e : ReadFault) (r : Reached) → IsReached z ts e r → is_of_words e ≡ true → HasTokens z ts
words_reached z ts e r h of = tokens_reached z ts e r h (λ f is. not_byte f (subst (λ (g : ReadFault). is_of_words g ≡ true) is of))

-- and so have pieces that are in no grammar
no_byte : (f : Lex) → is_syntax (LexFault f) ≡ true → ⊥
no_byte f e = absurd (cc)

pub syntax_reached : (z : List ℕ) (ts : List Token) (e : ReadFault) (r : Reached) → IsReached z ts e r → is_syntax e ≡ true → HasTokens z ts
syntax_reached z ts e r h of = tokens_reached z ts e r h (λ f is. no_byte f (subst (λ (g : ReadFault). is_syntax g ≡ true) is of))

-- locks are looked for in the process
pub lock_reached_last : (z : List ℕ) (ts : List Token) (f : LockFault) (r : Reached) → IsReached z ts (Lock f) r → ((w : Bor WrittenFile) (p : Bor Process) → r ≡ Expanded w p → ⊥) → ⊥
lock_reached_last z ts f Bytes h other = absurd (cc (h.1))
lock_reached_last z ts f Tokens h other = absurd h.1
lock_reached_last z ts f (Items s) h other = absurd h.2
lock_reached_last z ts f (Written w) h other = absurd h.2
lock_reached_last z ts f (Expanded w p) h other = other w p refl

pub lock_reached : (z : List ℕ) (ts : List Token) (f : LockFault) (r : Reached) (w : Bor WrittenFile) (p : Bor Process) → r ≡ Expanded w p → IsReached z ts (Lock f) r → HasTokens z ts × IsWrittenFile z w.now
lock_reached z ts f r w p is h = let k = subst (λ (q : Reached). IsReached z ts (Lock f) q) is h in (k.0, k.1)

pub reached_lock : (z : List ℕ) (ts : List Token) (e : ReadFault) (f : LockFault) (r : Reached) → e ≡ Lock f → IsReached z ts e r → IsReached z ts (Lock f) r
reached_lock z ts e f r is h = subst (λ (q : ReadFault). IsReached z ts q r) is h
