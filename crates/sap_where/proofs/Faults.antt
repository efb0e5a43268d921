-- A fault of bytes stands in them; a header that is refused isn't there; a parameter for which a file is refused stands twice, and a declaration clashes.
use Rattle.std.proofs.Common.{◌≡◌, ◌≤◌, ◌<◌, ◌+◌, ℕ, suc, List, [], ◌∷◌, ◌++◌, length, refl, arith, ap, sym, subst, ◌∙◌, Some, None}
use Rattle.std.specs.Prelude.{Result, Ok, Err, codes, ⊤, Option, IfSome, MatchOption}
use Rattle.std.proofs.lemmas.Grind.{common_steps}
use Rattle.sap_text.specs.declared.fault.Lex.{Lex}
use Rattle.sap_text.specs.declared.token.Kind.{Kind}
use Rattle.sap_text.specs.declared.token.Kind.TheVariants as kind
use Rattle.sap_text.specs.declared.token.Token.{Token}
use Rattle.sap_text.specs.Tokens.{IsFault, bad_byte, bad_content, open_comment, open_quote, Lexed, before, counted, IsLexed, ended, skipped, taken, long, failed}
use Rattle.sap_grammar.specs.Words.{Word, mark, name, word_of, words_of}
use Rattle.sap_grammar.specs.Cut.{Placed, placed, IsHeader}
use Rattle.sap_locks.specs.Annotation.{without, over}
use Rattle.sap_terms.specs.declared.limits.TheConstants.{MOST_FILE_NAME_BYTES}
use Rattle.sap_terms.specs.Signature.{pairs_alone}
use Rattle.sap_grammar.specs.Declarations.{Declaration}
use Rattle.sap_grammar.specs.Signatures.{clash_from}
use Rattle.sap_read.specs.Item.{Standing, bodies, signature_of}
use Rattle.sap_uses.specs.declared.fault.MacroFault.{MacroFault}
use Rattle.sap_uses.specs.declared.fault.MacroFault.TheVariants as uses
use Rattle.sap_restrict.specs.Restrictions.{is_generated}
use Rattle.sap_read.specs.Causes.{fault_of_uses}
use Rattle.sap_read.specs.FileProcess.{IsUnexpanded}
use Rattle.sap_read.specs.ItemGrammar.{AreItems}
use Rattle.sap_read.specs.Files.{AreTokens, FileContent, IsParted, IsRead, no_tokens, no_header, no_item, refused, unexpanded, ill, locked, unchecked, accepted}
use Rattle.sap_read.specs.declared.fault.ReadFault.{ReadFault}
use Rattle.sap_read.specs.declared.fault.ReadFault.TheVariants.{Mem, Lex as LexFault, Header, Syntax, NoProcess, TwoProcesses, UnknownProcess, DuplicateName, FunctionClash, Parameters, Arguments, TooMany, TooDeep, Large, Flawed, Ill, Lock, Formula}
use Rattle.sap_where.specs.Parameters.{IsParameter}
use Rattle.sap_stretches.specs.declared.stretch.Stretch.{Stretch}
use Rattle.sap_where.specs.declared.find.Beginning.TheVariants.{Process}
use Rattle.sap_where.specs.Where.{BeginsAt, HasStretch, HoldsOnce, IsSecond, IsTakenAt, IsWhere, StartsFile, at_byte, at_name, at_process, bytes_have, declarations_have, header_has, item_has, names_have, offset_of, one_byte, parameters_have, processes_have}
use Rattle.sap_stretches.specs.Stretches.{stretch_at}
use Rattle.sap_where.specs.FileDeclarations.{declared_before}
use Rattle.sap_where.proofs.DeclaredFiles.{file_declares}
use Rattle.sap_where.proofs.FirstCauses.{because}
use Rattle.sap_where.proofs.ItemNames.{taken_statement, two_definitions, two_processes}
use Rattle.sap_where.proofs.ParameterFiles.{HasTwo, file_twice}
use Rattle.sap_where.proofs.TakenFiles.{second_begins, taken_by_one, taken_by_two}

-- the fault names an offset before this one
abbrev pub NamesBefore : Lex → ℕ → Type 0
NamesBefore f end = (k : ℕ) × (offset_of f ≡ Some k) × (k < end)

size : (p b : List ℕ) → length (p ++ b) ≡ length p + length b
size p b = grind (arith, common_steps)

fault_inside : {at : ℕ} {z : List ℕ} {f : Lex} → IsFault at z f → NamesBefore f (at + length z)
fault_inside {at = at} (bad_byte a b c) = (at, refl, omega arith)
fault_inside {at = at} (bad_content z b v c e f g) =
    let n = size z (c ∷ (b ++ (39 ∷ v))) in
    (at + suc (length z), refl, omega (arith, n))
fault_inside {at = at} (open_comment a) = (at, refl, omega arith)
fault_inside {at = at} (open_quote a) = (at, refl, omega arith)

further : (f : Lex) (m n : ℕ) → m ≤ n → NamesBefore f m → NamesBefore f n
further f m n le h = (h.0, h.1, omega (arith, le, h.2))

before_fault : (t : Token) (o : Lexed) (f : Lex) → before t o ≡ Err f → o ≡ Err f
before_fault t (Ok ts) f e = absurd (cc)
before_fault t (Err g) f e = e

counts : (k : Kind) (n : ℕ) → counted k n ≤ n
counts kind.Ident n = omega arith
counts kind.Number n = omega arith
counts kind.Quoted n = omega arith
counts kind.Symbol n = omega arith

-- what is so of an answer that is a fault
abbrev pub FaultInside : ℕ → Lexed → Type 0
FaultInside end (Ok ts) = ⊤
FaultInside end (Err f) = NamesBefore f end

later : (m n : ℕ) (o : Lexed) → m ≤ n → FaultInside m o → FaultInside n o
later m n (Ok ts) le h = h
later m n (Err f) le h = further f m n le h

with_token : (n : ℕ) (t : Token) (o : Lexed) → FaultInside n o → FaultInside n (before t o)
with_token n t (Ok ts) h = h
with_token n t (Err f) h = h

inside : {m at line : ℕ} {z : List ℕ} {o : Lexed} → IsLexed m at line z o → FaultInside (at + length z) o
inside ended = tt
inside {at = at} (skipped {p = p} {b = b} {o = o} s r) =
    let n = size p b in
    later ((at + length p) + length b) (at + length (p ++ b)) o (omega (arith, n)) (inside r)
inside {at = at} {line = line} (taken {k = k} {p = p} {b = b} {o = o} s le r) =
    let n = size p b in
    with_token (at + length (p ++ b)) (record { kind = k; from = at; to = at + length p; line = line }) o
    (later ((at + length p) + length b) (at + length (p ++ b)) o (omega (arith, n)) (inside r))
inside {at = at} (long {k = k} {p = p} {b = b} s lt) =
    let n = size p b in
    let c = counts k (length p) in
    (at, refl, omega (arith, n, c, lt))
inside (failed f) = fault_inside f

pub fault_in_bytes : (m : ℕ) (z : List ℕ) (f : Lex) → IsLexed m 0 1 z (Err f) → NamesBefore f (length z)
fault_in_bytes m z f l = further f (0 + length z) (length z) (omega arith) (inside l)

-- the word that stands first, or another, and the words behind it
abbrev head : Word → List Word → Word
head w [] = w
head w (v ∷ vs) = v

abbrev tail : List Word → List Word
tail [] = []
tail (v ∷ vs) = vs

no_words : (w : Word) (ws : List Word) → [] ≡ w ∷ ws → ⊥
no_words w ws e = absurd (cc)

-- words that begin with a header do so on their lines
header_words : (z : List ℕ) (ts : List Token) → StartsFile (words_of z ts) → (x : List ℕ) × (rest : List Placed) × IsHeader x (placed z ts) rest
header_words z [] h = absurd (no_words _ _ h.spelled)
header_words z (t ∷ []) h = absurd (no_words _ _ (ap tail h.spelled))
header_words z (t ∷ u ∷ []) h = absurd (no_words _ _ (ap tail (ap tail h.spelled)))
header_words z (t ∷ u ∷ v ∷ ts) h =
    let first : word_of z t ≡ mark (codes "theory") = ap (λ (ws : List Word). head (word_of z t) ws) h.spelled in
    let second : word_of z u ≡ name h.name_of = ap (λ (ws : List Word). head (word_of z t) (tail ws)) h.spelled in
    let third : word_of z v ≡ mark (codes "begin") = ap (λ (ws : List Word). head (word_of z t) (tail (tail ws))) h.spelled in (
      h.name_of,
      placed z ts,
      record {
        theory_line = t.line;
        name_line = u.line;
        begin_line = v.line;
        spelled = λ i. record { word = first i; line = t.line } ∷ record { word = second i; line = u.line } ∷ record { word = third i; line = v.line } ∷ placed z ts;
      },
    )

-- what a refusal for a cause that the words place says of the bytes
abbrev pub Tells : List ℕ → Result FileContent ReadFault → Type 0
Tells z (Ok f) = ⊤
Tells z (Err Mem) = ⊤
Tells z (Err (LexFault f)) = IsLexed MOST_FILE_NAME_BYTES 0 1 z (Err f)
Tells z (Err Header) = (ts : List Token) × AreTokens z ts × ((x : List ℕ) (rest : List Placed) → IsHeader x (placed z ts) rest → ⊥)
Tells z (Err (Syntax n)) = (ts : List Token) × AreTokens z ts
Tells z (Err NoProcess) = ⊤
Tells z (Err (TwoProcesses n)) = (ts : List Token) × AreTokens z ts × (k : ℕ) × IsSecond (BeginsAt z ts Process []) k
Tells z (Err (UnknownProcess x)) = ⊤
Tells z (Err (DuplicateName x)) = (ts : List Token) × AreTokens z ts × (k : ℕ) × IsTakenAt z ts x k
Tells z (Err (FunctionClash x)) = (ts : List Token) × AreTokens z ts × (clash_from pairs_alone (declared_before z ts (length ts)) ≡ Some x)
Tells z (Err (Parameters x)) = (ts : List Token) × AreTokens z ts × HasTwo z ts x
Tells z (Err (Arguments x)) = ⊤
Tells z (Err TooMany) = ⊤
Tells z (Err TooDeep) = ⊤
Tells z (Err (Large x)) = ⊤
Tells z (Err (Flawed x w p)) = ⊤
Tells z (Err (Ill w p)) = ⊤
Tells z (Err (Lock f)) = ⊤
Tells z (Err (Formula x f)) = ⊤

tells_uses : {z : List ℕ} {ts : List Token} {x : List ℕ} {cut : List (List Placed)} {is : List Standing} (f : MacroFault) → IsParted z ts x cut
    → AreItems (signature_of is) cut is → IsUnexpanded (signature_of is) (bodies is) f → Tells z (Err (fault_of_uses f))
tells_uses uses.Mem p a u = tt
tells_uses {z = z} {ts = ts} (uses.Parameters x) p a u = (ts, p.tokens, file_twice z ts p a x u.cause.holds)
tells_uses (uses.Arguments x) p a u = tt
tells_uses uses.TooMany p a u = tt
tells_uses uses.TooDeep p a u = tt
tells_uses (uses.Large x) p a u = tt
tells_uses (uses.Flawed x w q) p a u = tt

pub tells : {z : List ℕ} {o : Result FileContent ReadFault} → IsRead z o → Tells z o
tells (no_tokens l) = l
tells (no_header {ts = ts} a n) = (ts, a, n)
tells (no_item {ts = ts} p f) = (ts, p.tokens)
tells {z = z} (refused {ts = ts} {is = is} {e = e} p a c) =
    because (λ f. Tells z (Err f)) is e tt (λ b f. let s = second_begins z ts Process [] (two_processes z ts p a b f) in (ts, p.tokens, s.0, s.1)) (λ x f. tt)
    (λ x f. let s = taken_by_two z ts x (two_definitions z ts p a x f) in (ts, p.tokens, s.0, s.1)) (λ x f. let s = taken_by_one z ts x 3 (taken_statement z ts is_generated p a x f) in (ts, p.tokens, s.0, s.1))
    (λ x f. (ts, p.tokens, ap (λ (ds : List Declaration). clash_from pairs_alone ds) (file_declares z ts p a) ∙ f)) c
tells (unexpanded {f = f} p a c u) = tells_uses f p a u
tells (ill p a c q f) = tt
tells (locked {w = without} p a c q w f) = tt
tells (locked {w = over} p a c q w f) = tt
tells (unchecked p a c q w n f) = tt
tells (accepted p a c q w n f) = tt

-- where a fault of bytes stands
abbrev pub BytePlace : List ℕ → Lex → Option Stretch → Type 0
BytePlace z f o = MatchOption o ((at : ℕ) → offset_of f ≡ Some at → length z ≤ at)
    (λ s. (at : ℕ) × (offset_of f ≡ Some at) × (at < length z) × (s ≡ one_byte at))

-- the byte of a fault is where the fault stands
pub byte_place : (z : List ℕ) (f : Lex) (o : Option Stretch) → BytePlace z f o → IfSome o (λ s. IsWhere z (LexFault f) s)
byte_place z f None m = tt
byte_place z f (Some s) m = at_byte m.1 m.2 m.3

-- and there is one where the bytes are refused for it
pub byte_stands : (z : List ℕ) (f : Lex) (o : Option Stretch) → BytePlace z f o → IsRead z (Err (LexFault f)) → o ≡ None → ⊥
byte_stands z f None m r e =
    let n = fault_in_bytes MOST_FILE_NAME_BYTES z f (tells r) in
    let le = m n.0 n.1 in
    absurd (omega (arith, le, n.2))
byte_stands z f (Some t) m r e = cc

-- a header that is refused has a word that is wrong, a parameter stands twice, and a declaration clashes
pub place_stands : (z : List ℕ) (ts : List Token) (e : ReadFault) (o : Option Stretch) → ((f : Lex) → e ≡ LexFault f → ⊥)
    → ((us : List Token) → AreTokens z us → us ≡ ts) → (e ≡ Header → o ≡ None → StartsFile (words_of z ts))
    → ((x : List ℕ) → e ≡ Parameters x → o ≡ None → (i : ℕ) → HoldsOnce (IsParameter z ts x i))
    → ((x : List ℕ) → e ≡ FunctionClash x → o ≡ None → clash_from pairs_alone (declared_before z ts (length ts)) ≡ Some x → ⊥)
    → ((line : ℕ) → e ≡ Syntax line → IsRead z (Err (Syntax line)) → o ≡ None → ⊥) → (o ≡ None → (s : Stretch) → IsWhere z e s → ⊥) → HasStretch e → IsRead z (Err e) → o ≡ None → ⊥
place_stands z ts e o other only starts once clash item nowhere (bytes_have f) r none = other f refl
place_stands z ts e o other only starts once clash item nowhere (parameters_have x) r none =
    let t = tells r in
    let two = subst (λ (us : List Token). HasTwo z us x) (only t.0 t.1) t.2 in
    once x refl none two.item two.first two.second two.order two.is_first two.is_second
place_stands z ts e o other only starts once clash item nowhere (item_has line) r none = item line refl r none
place_stands z ts e o other only starts once clash item nowhere (declarations_have x) r none =
    let t = tells r in
    clash x refl none (subst (λ (us : List Token). clash_from pairs_alone (declared_before z us (length us)) ≡ Some x) (only t.0 t.1) t.2)
place_stands z ts e o other only starts once clash item nowhere header_has r none =
    let t = tells r in
    let same = only t.0 t.1 in
    let h = header_words z ts (starts refl none) in
    t.2 h.0 h.1 (subst (λ (us : List Token). IsHeader h.0 (placed z us) h.1) (sym same) h.2)
place_stands z ts e o other only starts once clash item nowhere (processes_have line) r none =
    let t = tells r in nowhere none (stretch_at t.0 t.2) (at_process t.1 t.3 refl)
place_stands z ts e o other only starts once clash item nowhere (names_have x) r none =
    let t = tells r in nowhere none (stretch_at t.0 (t.2 + 1)) (at_name t.1 t.3 refl)

-- without tokens no file is refused for such a cause but for a byte
pub tokens_stand : (z : List ℕ) (e : ReadFault) → ((f : Lex) → e ≡ LexFault f → ⊥) → ((us : List Token) → AreTokens z us → ⊥) → HasStretch e → IsRead z (Err e) → ⊥
tokens_stand z e other none (bytes_have f) r = other f refl
tokens_stand z e other none header_has r = let t = tells r in none t.0 t.1
tokens_stand z e other none (item_has line) r = let t = tells r in none t.0 t.1
tokens_stand z e other none (parameters_have x) r = let t = tells r in none t.0 t.1
tokens_stand z e other none (declarations_have x) r = let t = tells r in none t.0 t.1
tokens_stand z e other none (processes_have line) r = let t = tells r in none t.0 t.1
tokens_stand z e other none (names_have x) r = let t = tells r in none t.0 t.1
