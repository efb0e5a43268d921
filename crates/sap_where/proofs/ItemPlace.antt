-- What stands among the tokens stands in the bytes.
use Rattle.std.proofs.Common.{◌≡◌, ℕ, List, length, Option, None, Some, sym, subst}
use Rattle.std.specs.Prelude.{Result, Ok, Err, IfOk, IfSome}
use Rattle.sap_terms.specs.declared.mem.Mem.{Mem}
use Rattle.sap_text.specs.declared.fault.Lex.{Lex}
use Rattle.sap_text.specs.declared.token.Token.{Token}
use Rattle.sap_grammar.specs.Words.{words_of}
use Rattle.sap_read.specs.Files.{AreTokens, IsRead}
use Rattle.sap_read.specs.declared.fault.ReadFault.{ReadFault}
use Rattle.sap_read.specs.declared.fault.ReadFault.TheVariants.{FunctionClash, Lex as LexFault, Header, Parameters, Syntax}
use Rattle.sap_expect.specs.FileWords.{IsFileWords}
use Rattle.sap_terms.specs.Signature.{pairs_alone}
use Rattle.sap_grammar.specs.Signatures.{clash_from}
use Rattle.sap_where.specs.FileDeclarations.{declared_before}
use Rattle.sap_where.specs.Parameters.{IsParameter}
use Rattle.sap_where.specs.Where.{HasStretch, HoldsOnce, IsWhere, StartsFile}
use Rattle.sap_where.proofs.Faults.{place_stands}
use Rattle.sap_stretches.specs.declared.stretch.Stretch.{Stretch}

-- of a piece that is refused one is told, where the words of tokens are a file's or some word is told
item_stands : (z : List ℕ) (ts : List Token) (e : ReadFault) (o : Option Stretch) → AreTokens z ts → ((ts : List Token) (line : ℕ) → AreTokens z ts → IsRead z (Err (Syntax line)) → IsFileWords (words_of z ts) → ⊥)
    → ((line : ℕ) → e ≡ Syntax line → o ≡ None → IsFileWords (words_of z ts)) → (line : ℕ) → e ≡ Syntax line → IsRead z (Err (Syntax line)) → o ≡ None → ⊥
item_stands z ts e o are refused words line is r none = refused ts line are r (words line is none)

pub stands_among : (z : List ℕ) (ts : List Token) (e : ReadFault) (r : Result (Option Stretch) Mem) → ((f : Lex) → e ≡ LexFault f → ⊥)
    → ((us : List Token) → AreTokens z us → us ≡ ts) → IfOk r (λ o. e ≡ Header → o ≡ None → StartsFile (words_of z ts))
    → IfOk r (λ o. (x : List ℕ) → e ≡ Parameters x → o ≡ None → (i : ℕ) → HoldsOnce (IsParameter z ts x i))
    → IfOk r (λ o. (x : List ℕ) → e ≡ FunctionClash x → o ≡ None → clash_from pairs_alone (declared_before z ts (length ts)) ≡ Some x → ⊥)
    → IfOk r (λ o. (line : ℕ) → e ≡ Syntax line → o ≡ None → IsFileWords (words_of z ts)) → AreTokens z ts
    → ((ts : List Token) (line : ℕ) → AreTokens z ts → IsRead z (Err (Syntax line)) → IsFileWords (words_of z ts) → ⊥) → IfOk r (λ o. o ≡ None → (s : Stretch) → IsWhere z e s → ⊥) → HasStretch e → IsRead z (Err e) → IfOk r (λ o. o ≡ None → ⊥)
stands_among z ts e (Ok o) other only starts once clash words are refused nowhere h r = place_stands z ts e o other only starts once clash (item_stands z ts e o are refused words) nowhere h r
stands_among z ts e (Err m) other only starts once clash words are refused nowhere h r = tt

-- what isn't so of a piece isn't so of it by its line
pub piece_nowhere : (z : List ℕ) (e : ReadFault) (line : ℕ) (o : Option Stretch) → e ≡ Syntax line → (o ≡ None → (line : ℕ) (s : Stretch) → IsWhere z (Syntax line) s → ⊥)
    → o ≡ None → (s : Stretch) → IsWhere z e s → ⊥
piece_nowhere z e line o is h none = subst (λ (f : ReadFault). (s : Stretch) → IsWhere z f s → ⊥) (sym is) (h none line)

-- nor is what is so
pub piece_at : (z : List ℕ) (e : ReadFault) (line : ℕ) (o : Option Stretch) → e ≡ Syntax line → IfSome o (λ s. (line : ℕ) → IsWhere z (Syntax line) s) → IfSome o (λ s. IsWhere z e s)
piece_at z e line None is h = tt
piece_at z e line (Some s) is h = subst (λ (f : ReadFault). IsWhere z f s) (sym is) (h line)
