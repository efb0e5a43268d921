-- Where nothing is told, the cause has no place.
use Rattle.std.proofs.Common.{◌≡◌, ◌≤◌, ℕ, List, [], length, refl, sym, subst, arith, Some}
use Rattle.sap_text.specs.declared.fault.Lex.{Lex}
use Rattle.sap_text.specs.declared.token.Token.{Token}
use Rattle.sap_grammar.specs.Words.{words_of}
use Rattle.sap_read.specs.Files.{AreTokens}
use Rattle.sap_read.specs.declared.fault.ReadFault.{ReadFault}
use Rattle.sap_read.specs.declared.fault.ReadFault.TheVariants.{Lex as LexFault, Header, Syntax, TwoProcesses, DuplicateName, FunctionClash, Parameters}
use Rattle.sap_where.specs.declared.find.Beginning.TheVariants.{Process}
use Rattle.sap_stretches.specs.declared.stretch.Stretch.{Stretch}
use Rattle.sap_expect.specs.FileWords.{IsFileWords}
use Rattle.sap_terms.specs.Signature.{pairs_alone}
use Rattle.sap_grammar.specs.Signatures.{clash_from}
use Rattle.sap_where.specs.FileDeclarations.{IsClashAt, declared_before}
use Rattle.sap_where.specs.Parameters.{IsParameter}
use Rattle.sap_where.proofs.Clashes.{none_clashes}
use Rattle.sap_where.specs.Where.{BeginsAt, HoldsOnce, IsRepeatedAt, IsSecond, IsTakenAt, IsTakenNowhere, IsWhere, StartsFile, at_byte, at_declaration, at_header, at_item, at_name, at_parameter, at_process, offset_of, only_statement, second_definition, second_statement}

-- the tokens of the bytes
abbrev pub AreOnly : List ℕ → List Token → Type 0
AreOnly z ts = (us : List Token) → AreTokens z us → us ≡ ts

pub byte_nowhere : (z : List ℕ) (f : Lex) → ((at : ℕ) → offset_of f ≡ Some at → length z ≤ at) → (s : Stretch) → IsWhere z (LexFault f) s → ⊥
byte_nowhere z f m s (at_byte {at = at} o lt e) = let le = m at o in absurd (omega (arith, le, lt))

pub header_nowhere : (z : List ℕ) (ts : List Token) → AreOnly z ts → StartsFile (words_of z ts) → (s : Stretch) → IsWhere z Header s → ⊥
header_nowhere z ts only h s (at_header {ts = us} a w e) =
    w.isnt (subst (λ (vs : List Token). StartsFile (words_of z vs)) (sym (only us a)) h)

pub process_nowhere : (z : List ℕ) (ts : List Token) → AreOnly z ts → HoldsOnce (BeginsAt z ts Process []) → (line : ℕ) (s : Stretch) → IsWhere z (TwoProcesses line) s → ⊥
process_nowhere z ts only h line s (at_process {ts = us} {k = k} a w e) =
    let v = subst (λ (vs : List Token). IsSecond (BeginsAt z vs Process []) k) (only us a) w in
    h v.first k v.before v.is_first v.is

taken_nowhere : (z : List ℕ) (ts : List Token) (x : List ℕ) (k : ℕ) → IsTakenNowhere z ts x → IsTakenAt z ts x k → ⊥
taken_nowhere z ts x k h (second_definition a) = h.definitions a.first k a.before a.is_first a.is
taken_nowhere z ts x k h (second_statement d a) = h.statements k a.is
taken_nowhere z ts x k h (only_statement d t a) = h.statements k a.is

pub name_nowhere : (z : List ℕ) (ts : List Token) (x : List ℕ) → AreOnly z ts → IsTakenNowhere z ts x → (s : Stretch) → IsWhere z (DuplicateName x) s → ⊥
name_nowhere z ts x only h s (at_name {ts = us} {k = k} a w e) =
    taken_nowhere z ts x k h (subst (λ (vs : List Token). IsTakenAt z vs x k) (only us a) w)

pub item_nowhere : (z : List ℕ) (ts : List Token) → AreOnly z ts → IsFileWords (words_of z ts) → (line : ℕ) (s : Stretch) → IsWhere z (Syntax line) s → ⊥
item_nowhere z ts only h line s (at_item {ts = us} a w e) =
    w.isnt (subst (λ (vs : List Token). IsFileWords (words_of z vs)) (sym (only us a)) h)

pub parameter_nowhere : (z : List ℕ) (ts : List Token) (x : List ℕ) → AreOnly z ts → ((i : ℕ) → HoldsOnce (IsParameter z ts x i)) → (s : Stretch) → IsWhere z (Parameters x) s → ⊥
parameter_nowhere z ts x only h s (at_parameter {ts = us} {k = k} a w e) =
    let v = subst (λ (vs : List Token). IsRepeatedAt z vs x k) (only us a) w in
    h v.item v.second.first k v.second.before v.second.is_first v.second.is

pub clash_nowhere : (z : List ℕ) (ts : List Token) (x : List ℕ) → AreOnly z ts → (clash_from pairs_alone (declared_before z ts (length ts)) ≡ Some x → ⊥) → (s : Stretch) → IsWhere z (FunctionClash x) s → ⊥
clash_nowhere z ts x only h s (at_declaration {ts = us} {k = k} a w e) =
    none_clashes z ts x k h (subst (λ (vs : List Token). IsClashAt z vs x k) (only us a) w)

pub other_nowhere : (z : List ℕ) (e : ReadFault) → ((f : Lex) → e ≡ LexFault f → ⊥) → ((n : ℕ) → e ≡ Syntax n → ⊥) → ((x : List ℕ) → e ≡ FunctionClash x → ⊥) → (e ≡ Header → ⊥) → ((n : ℕ) → e ≡ TwoProcesses n → ⊥) → ((x : List ℕ) → e ≡ Parameters x → ⊥) → ((x : List ℕ) → e ≡ DuplicateName x → ⊥) → (s : Stretch) → IsWhere z e s → ⊥
other_nowhere z e a n q b c p d s (at_byte o lt f) = a _ refl
other_nowhere z e a n q b c p d s (at_item t w f) = n _ refl
other_nowhere z e a n q b c p d s (at_header t w f) = b refl
other_nowhere z e a n q b c p d s (at_process t w f) = c _ refl
other_nowhere z e a n q b c p d s (at_name t w f) = d _ refl
other_nowhere z e a n q b c p d s (at_parameter t w f) = p _ refl
other_nowhere z e a n q b c p d s (at_declaration t w f) = q _ refl

pub tokens_nowhere : (z : List ℕ) (e : ReadFault) → ((f : Lex) → e ≡ LexFault f → ⊥) → ((us : List Token) → AreTokens z us → ⊥) → (s : Stretch) → IsWhere z e s → ⊥
tokens_nowhere z e a none s (at_byte o lt f) = a _ refl
tokens_nowhere z e a none s (at_header t w f) = none _ t
tokens_nowhere z e a none s (at_item t w f) = none _ t
tokens_nowhere z e a none s (at_process t w f) = none _ t
tokens_nowhere z e a none s (at_name t w f) = none _ t
tokens_nowhere z e a none s (at_parameter t w f) = none _ t
tokens_nowhere z e a none s (at_declaration t w f) = none _ t
