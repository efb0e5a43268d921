-- The identifiers of a file are its names, and no more than its bytes; what is so of bodies is so of definitions and of the process.
use Rattle.std.proofs.Common.{◌≡◌, ◌≤◌, ◌+◌, ℕ, Bool, true, false, ◌||◌, List, [], ◌∷◌, ◌++◌, length, Option, Some, None, Ok, Err, refl, ap, subst, arith}
use Rattle.std.specs.Prelude.{if◌then◌else◌, is_none}
use Rattle.std.specs.List.{AllByRecursion}
use Rattle.std.specs.Str.{bytes_eq}
use Rattle.std.proofs.Common.{length-append}
use Rattle.std.proofs.lemmas.Slice.Eq.{bytes_eq-Decides}
use Rattle.sap_terms.specs.Variables.{is_known}
use Rattle.sap_text.specs.declared.token.Kind.{Kind}
use Rattle.sap_text.specs.declared.token.Token.{Token}
use Rattle.sap_text.specs.Tokens.{IsLexed, ended, skipped, taken, long, failed, IsLongest, IsToken, symbol, Lexed, before}
use Rattle.sap_grammar.specs.ByteWords.{AreTokenWords, IsContent}
use Rattle.sap_grammar.specs.Words as word
use Rattle.sap_grammar.specs.Words.{Word, words_of}
use Rattle.sap_macro.specs.Written.{Written, Definition}
use Rattle.sap_read.specs.FileProcess.{defined_as, definitions_of, main_of}
use Rattle.sap_read.specs.Identifiers.{identifiers_of}
use Rattle.sap_read.specs.HeldVariables.{IsAmong}
use Rattle.sap_read.specs.Item.{Body}
use Rattle.sap_read.specs.Occurring.{OfNames, Any}
use Rattle.sap_read.proofs.OccurringWords.{WordsNamesAre}
use Rattle.sap_read.proofs.TakenNames.{Stays, or_true}

-- no token is empty
no_empty : {k : Kind} → IsToken k [] → ⊥
no_empty (symbol e) = absurd (cc (e))

some_byte : {k : Kind} (p b : List ℕ) → IsLongest k p b → 1 ≤ length p
some_byte [] b s = absurd (no_empty s.is)
some_byte (x ∷ p) b s = omega arith

-- tokens are no more than bytes
abbrev Few : ℕ → Lexed → Type 0
Few n (Ok ts) = length ts ≤ n
Few n (Err f) = Unit {0}

fewer : (m n : ℕ) (o : Lexed) → m ≤ n → Few m o → Few n o
fewer m n (Ok ts) le h = omega (arith, le, h)
fewer m n (Err f) le h = tt

one_more : (n : ℕ) (t : Token) (o : Lexed) → Few n o → Few (n + 1) (before t o)
one_more n t (Ok ts) h = omega (arith, h)
one_more n t (Err f) h = tt

few : {most at line : ℕ} {z : List ℕ} {o : Lexed} → IsLexed most at line z o → Few (length z) o
few ended = omega arith
few (skipped {p = p} {b = b} {o = o} s r) = let n = length-append p b in fewer (length b) (length (p ++ b)) o (omega (arith, n)) (few r)
few {at = at} {line = line} (taken {k = k} {p = p} {b = b} {o = o} s le r) =
    let n = length-append p b in
    let one = some_byte p b s in
    fewer (length b + 1) (length (p ++ b)) (before (record { kind = k; from = at; to = at + length p; line = line }) o) (omega (arith, n, one))
    (one_more (length b) (record { kind = k; from = at; to = at + length p; line = line }) o (few r))
few (long s lt) = tt
few (failed f) = tt

few_words : (z : List ℕ) (ts : List Token) → length (words_of z ts) ≡ length ts
few_words z [] = refl
few_words z (t ∷ ts) = let e = few_words z ts in omega (arith, e)

few_identifiers : (ws : List Word) → length (identifiers_of ws) ≤ length ws
few_identifiers [] = omega arith
few_identifiers (word.mark s ∷ ws) = let e = few_identifiers ws in omega (arith, e)
few_identifiers (word.name x ∷ ws) = let e = few_identifiers ws in omega (arith, e)
few_identifiers (word.number n ∷ ws) = let e = few_identifiers ws in omega (arith, e)
few_identifiers (word.quoted s ∷ ws) = let e = few_identifiers ws in omega (arith, e)

pub identifiers_few : (most : ℕ) (z : List ℕ) (ts : List Token) → IsLexed most 0 1 z (Ok ts) → length (identifiers_of (words_of z ts)) ≤ length z
identifiers_few most z ts l =
    let a : length ts ≤ length z = few l in
    let b = few_words z ts in
    let c = few_identifiers (words_of z ts) in
    omega (arith, a, b, c)

-- ---- the names of words are identifiers

module _ (M : OfNames) (ids : List (List ℕ)) where
  known_words : (ws : List Word) → Stays (identifiers_of ws) ids → WordsNamesAre Any M ws → WordsNamesAre (IsAmong ids) M ws
  known_words [] stays h = tt
  known_words (word.mark s ∷ ws) stays h = (tt, known_words ws stays h.1)
  known_words (word.name x ∷ ws) stays h = (
    stays x (ap (λ t. t || is_known (identifiers_of ws) x) ((bytes_eq-Decides x x).1 refl)),
    known_words ws (λ y k. stays y (or_true (bytes_eq x y) (is_known (identifiers_of ws) y) k)) h.1,
  )
  known_words (word.number n ∷ ws) stays h = (tt, known_words ws stays h.1)
  known_words (word.quoted s ∷ ws) stays h = (h.0, known_words ws stays h.1)

pub words_known : (M : OfNames) (ws : List Word) → WordsNamesAre Any M ws → WordsNamesAre (IsAmong (identifiers_of ws)) M ws
words_known M ws h = known_words M (identifiers_of ws) ws (λ x k. k) h

-- of words whatever they are nothing is said, and of those of tokens what stands between quotes
pub any_words : (ws : List Word) → WordsNamesAre Any Any ws
any_words [] = tt
any_words (word.mark s ∷ ws) = (tt, any_words ws)
any_words (word.name x ∷ ws) = (tt, any_words ws)
any_words (word.number n ∷ ws) = (tt, any_words ws)
any_words (word.quoted s ∷ ws) = (tt, any_words ws)

pub token_words : (most : ℕ) (ws : List Word) → AreTokenWords most ws → WordsNamesAre Any (IsContent most) ws
token_words most [] h = tt
token_words most (word.mark s ∷ ws) h = (tt, token_words most ws h.1)
token_words most (word.name x ∷ ws) h = (tt, token_words most ws h.1)
token_words most (word.number n ∷ ws) h = (tt, token_words most ws h.1)
token_words most (word.quoted s ∷ ws) h = (h.0, token_words most ws h.1)

-- ---- bodies

module _ (P : Body → Type 0) where
  pub definitions_so : (Q : Definition → Type 0) (so : (b : Body) (x : List ℕ) → P b → Q (record { name = x; params = b.params; body = b.content })) (bs : List Body)
      → AllByRecursion P bs → AllByRecursion Q (definitions_of bs)
  definitions_so Q so [] h = tt
  definitions_so Q so (b ∷ bs) h = by b.label (definitions_so Q so bs h.1) where
    by : (o : Option (List ℕ)) → AllByRecursion Q (definitions_of bs) → AllByRecursion Q (defined_as o b ++ definitions_of bs)
    by None later = later
    by (Some x) later = (so b x h.0, later)

  pub main_so : (Q : Written → Type 0) (so : (b : Body) → P b → Q b.content) (bs : List Body) (p : Written) → AllByRecursion P bs → main_of bs ≡ Some p → Q p
  main_so Q so [] p h e = absurd (cc (e))
  main_so Q so (b ∷ bs) p h e = by (is_none b.label) e (main_so Q so bs p h.1) where
    by : (t : Bool) → (if t then Some b.content else main_of bs) ≡ Some p → (main_of bs ≡ Some p → Q p) → Q p
    by true e later = let same : b.content ≡ p = cc (e) in subst Q same (so b h.0)
    by false e later = later e
