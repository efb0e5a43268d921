-- Whatever is wanted can be had, if what may be missing has behind it what goes on with nothing before it.
use Rattle.std.proofs.Common.{◌≡◌, ℕ, ◌+◌, Bool, true, false, List, [], ◌∷◌, ◌++◌, Option, Some, None, refl}
use Rattle.std.specs.Prelude.{codes, not, ◌||◌, if◌then◌else◌}
use Rattle.std.specs.List.{list_all}
use Rattle.sap_terms.proofs.PlainLaws.Known.{own_name}
use Rattle.sap_grammar.specs.Words.{Word, is_lower, is_mark, is_upper, mark, name, number, quoted}
use Rattle.sap_expect.specs.declared.wanted.Limit.{Limit}
use Rattle.sap_expect.specs.declared.wanted.Part.{Part}
use Rattle.sap_expect.specs.declared.wanted.Part.TheVariants.{Application, Arguments, Arrow, Atom, Attribute, Bars, Binders, Builtin, Conjunction, Disjunction, Else, Ended, Equivalence, Fact, Facts, File, Formula, Function, Implication, Items, Lemma, LowerAtom, Message, Mode, MoreAttributes, MoreBinders, MoreBuiltins, MoreConjunction, MoreDisjunction, MoreEquivalence, MoreFacts, MoreFunctions, MoreImplication, MoreParameters, MoreParts, MoreShown, MoreTerms, NewName, Pair, Parameters, Privacy, Process, Sequence, Shown, Term, Terms, Then, Time, Times, Truth, UpperAtom}
use Rattle.sap_expect.specs.FileTable.{Open, Reads, any_name, arity, capital, in_quotes, level, nil, part, reads_end, row, sign, small, word}
use Rattle.sap_expect.specs.Letters.{AreLettered, IsLettered}
use Rattle.sap_expect.proofs.OnRows.{NoRow, NotNone, instead, on_level, on_row, on_word}
use Rattle.sap_expect.proofs.Quiet.{both_true, can_close, closes, is_open, is_quiet, quiet}

abbrev pub a_name : Word
a_name = name (97 ∷ [])

abbrev pub a_capital : Word
a_capital = name (65 ∷ [])

abbrev pub a_zero : Word
a_zero = number (codes "0")

abbrev pub an_empty : Word
an_empty = quoted []

abbrev pub is_lettered : Word → Bool
is_lettered (mark x) = true
is_lettered (name x) = is_lower x || is_upper x
is_lettered (number x) = true
is_lettered (quoted x) = true

lettered_of : (w : Word) → is_lettered w ≡ true → IsLettered w
lettered_of (mark x) e = tt
lettered_of (name x) e = e
lettered_of (number x) e = tt
lettered_of (quoted x) e = tt

pub all_lettered : (ws : List Word) → list_all is_lettered ws ≡ true → AreLettered ws
all_lettered [] e = tt
all_lettered (w ∷ ws) e =
    let b = both_true (is_lettered w) (list_all is_lettered ws) e in
    (lettered_of w b.0, all_lettered ws b.1)

-- the first of them is quiet
abbrev pub QuietWords : List Word → Type 0
QuietWords [] = ⊥
QuietWords (w ∷ ws) = is_quiet w ≡ true

some_word : (ws : List Word) → QuietWords ws → NotNone ws
some_word [] q = q
some_word (w ∷ ws) q = tt

-- words that are all that is wanted, whatever has ended before
pub record HasEnd (vs : List Open) : Type 0 where
  pub words : List Word
  pub reads : (n : ℕ) → Reads n vs words
  pub lettered : AreLettered words
  pub quiet_words : quiet vs ≡ true → QuietWords words

-- a quiet word is none of the words that go on with what may be missing
record Quiet (w : Word) : Type 0 where
  pub parenthesis : is_mark (codes "(") w ≡ false
  pub semicolon : is_mark (codes ";") w ≡ false
  pub no_else : is_mark (codes "else") w ≡ false
  pub bar : is_mark (codes "|") w ≡ false
  pub bars : is_mark (codes "||") w ≡ false
  pub no_and : is_mark (codes "&") w ≡ false
  pub no_implies : is_mark (codes "==>") w ≡ false
  pub no_same : is_mark (codes "<=>") w ≡ false

not_so : (a : Bool) → not a ≡ true → a ≡ false
not_so true e = absurd (cc (e))
not_so false e = refl

quiet_of : (w : Word) → is_quiet w ≡ true → Quiet w
quiet_of w e =
    let a = both_true _ _ e in
    let b = both_true _ _ a.1 in
    let c = both_true _ _ b.1 in
    let d = both_true _ _ c.1 in
    let f = both_true _ _ d.1 in
    let g = both_true _ _ f.1 in
    let h = both_true _ _ g.1 in
    record {
      parenthesis = not_so _ a.0;
      semicolon = not_so _ b.0;
      no_else = not_so _ c.0;
      bar = not_so _ d.0;
      bars = not_so _ f.0;
      no_and = not_so _ g.0;
      no_implies = not_so _ h.0;
      no_same = not_so _ h.1;
    }

none_if : {A : Type 0} (c : Bool) (x : A) (o : Option A) → c ≡ false → o ≡ None → (if c then Some x else o) ≡ None
none_if c x o e f = rw (e, f) refl

no_bars : (w : Word) → is_quiet w ≡ true → row Bars w ≡ None
no_bars w e = let q = quiet_of w e in none_if (is_mark (codes "|") w) _ _ q.bar (none_if (is_mark (codes "||") w) _ _ q.bars refl)

no_arguments : (w : Word) → is_quiet w ≡ true → row Arguments w ≡ None
no_arguments w e = none_if (is_mark (codes "(") w) _ _ (quiet_of w e).parenthesis refl

no_then : (w : Word) → is_quiet w ≡ true → row Then w ≡ None
no_then w e = none_if (is_mark (codes ";") w) _ _ (quiet_of w e).semicolon refl

no_else : (w : Word) → is_quiet w ≡ true → row Else w ≡ None
no_else w e = none_if (is_mark (codes "else") w) _ _ (quiet_of w e).no_else refl

no_terms : (w : Word) → is_quiet w ≡ true → row Application w ≡ None
no_terms w e = none_if (is_mark (codes "(") w) _ _ (quiet_of w e).parenthesis refl

no_value : (w : Word) → is_quiet w ≡ true → row Truth w ≡ None
no_value w e = none_if (is_mark (codes "(") w) _ _ (quiet_of w e).parenthesis refl

no_equivalence : (w : Word) → is_quiet w ≡ true → row MoreEquivalence w ≡ None
no_equivalence w e = none_if (is_mark (codes "<=>") w) _ _ (quiet_of w e).no_same refl

no_third : (w : Word) → is_quiet w ≡ true → row Ended w ≡ None
no_third w e = none_if (is_mark (codes "<=>") w) _ _ (quiet_of w e).no_same refl

no_implication : (w : Word) → is_quiet w ≡ true → row MoreImplication w ≡ None
no_implication w e = none_if (is_mark (codes "==>") w) _ _ (quiet_of w e).no_implies refl

no_disjunction : (w : Word) → is_quiet w ≡ true → row MoreDisjunction w ≡ None
no_disjunction w e = none_if (is_mark (codes "|") w) _ _ (quiet_of w e).bar refl

no_conjunction : (w : Word) → is_quiet w ≡ true → row MoreConjunction w ≡ None
no_conjunction w e = none_if (is_mark (codes "&") w) _ _ (quiet_of w e).no_and refl

no_row_of : (p : Part) (ws : List Word) → ((w : Word) → is_quiet w ≡ true → row p w ≡ None) → QuietWords ws → NoRow p ws
no_row_of p [] f q = q
no_row_of p (w ∷ ws) f q = f w q

-- what ends these parts reads on
process_reads : {n m : ℕ} {l : Limit} {vs : List Open} (ws : List Word) → QuietWords ws → ((k : ℕ) → Reads k vs ws) → Reads n ((part Process l, m) ∷ vs) (a_zero ∷ ws)
process_reads ws q h = instead (a_zero ∷ ws) refl refl refl (on_row refl refl (on_level ws (some_word ws q) (instead ws refl refl (no_row_of Bars ws no_bars q) (h 1))))

formula_reads : {n m : ℕ} {l : Limit} {vs : List Open} (ws : List Word) → NotNone ws → ((k : ℕ) → Reads k vs ws) → Reads n ((part Formula l, m) ∷ vs) (an_empty ∷ mark (codes "=") ∷ an_empty ∷ ws)
formula_reads ws some h =
    instead (an_empty ∷ mark (codes "=") ∷ an_empty ∷ ws) refl refl refl (on_row refl refl (on_word refl (on_row refl refl (on_level ws some (on_level ws some (h 1))))))

conjunction_reads : {n m : ℕ} {l : Limit} {vs : List Open} (ws : List Word) → QuietWords ws → ((k : ℕ) → Reads k vs ws) → Reads n ((part Conjunction l, m) ∷ vs) (an_empty ∷ mark (codes "=") ∷ an_empty ∷ ws)
conjunction_reads ws q h =
    instead (an_empty ∷ mark (codes "=") ∷ an_empty ∷ ws) refl refl refl (formula_reads ws (some_word ws q) (λ k. instead ws refl refl (no_row_of MoreConjunction ws no_conjunction q) (h k)))

disjunction_reads : {n m : ℕ} {l : Limit} {vs : List Open} (ws : List Word) → QuietWords ws → ((k : ℕ) → Reads k vs ws) → Reads n ((part Disjunction l, m) ∷ vs) (an_empty ∷ mark (codes "=") ∷ an_empty ∷ ws)
disjunction_reads ws q h =
    instead (an_empty ∷ mark (codes "=") ∷ an_empty ∷ ws) refl refl refl (conjunction_reads ws q (λ k. instead ws refl refl (no_row_of MoreDisjunction ws no_disjunction q) (h k)))

implication_reads : {n m : ℕ} {l : Limit} {vs : List Open} (ws : List Word) → QuietWords ws → ((k : ℕ) → Reads k vs ws) → Reads n ((part Implication l, m) ∷ vs) (an_empty ∷ mark (codes "=") ∷ an_empty ∷ ws)
implication_reads ws q h =
    instead (an_empty ∷ mark (codes "=") ∷ an_empty ∷ ws) refl refl refl (disjunction_reads ws q (λ k. instead ws refl refl (no_row_of MoreImplication ws no_implication q) (h k)))

equivalence_reads : {n m : ℕ} {l : Limit} {vs : List Open} (ws : List Word) → QuietWords ws → ((k : ℕ) → Reads k vs ws) → Reads n ((part Equivalence l, m) ∷ vs) (an_empty ∷ mark (codes "=") ∷ an_empty ∷ ws)
equivalence_reads ws q h =
    instead (an_empty ∷ mark (codes "=") ∷ an_empty ∷ ws) refl refl refl (implication_reads ws q (λ k. instead ws refl refl (no_row_of MoreEquivalence ws no_equivalence q) (h k)))

lettered-append : (us ws : List Word) → list_all is_lettered us ≡ true → AreLettered ws → AreLettered (us ++ ws)
lettered-append [] ws e h = h
lettered-append (u ∷ us) ws e h =
    let b = both_true (is_lettered u) (list_all is_lettered us) e in
    (lettered_of u b.0, lettered-append us ws b.1 h)

by_words : (p : Part) (l : Limit) (m : ℕ) {vs : List Open} (h : HasEnd vs) (w : Word) (us : List Word) → list_all is_lettered (w ∷ us) ≡ true → is_quiet w ≡ true
    → ((n : ℕ) → Reads n ((part p l, m) ∷ vs) (w ∷ (us ++ h.words))) → HasEnd ((part p l, m) ∷ vs)
by_words p l m h w us e q r = record { words = w ∷ (us ++ h.words); reads = r; lettered = lettered-append (w ∷ us) h.words e h.lettered; quiet_words = λ f. q }

by_nothing : (p : Part) (l : Limit) (m : ℕ) {vs : List Open} (h : HasEnd vs) → (quiet ((part p l, m) ∷ vs) ≡ true → quiet vs ≡ true)
    → ((n : ℕ) → Reads n ((part p l, m) ∷ vs) h.words) → HasEnd ((part p l, m) ∷ vs)
by_nothing p l m h s r = record { words = h.words; reads = r; lettered = h.lettered; quiet_words = λ f. h.quiet_words (s f) }

one_end : (p : Part) (l : Limit) (m : ℕ) (vs : List Open) (h : HasEnd vs) → (is_open p ≡ true → quiet vs ≡ true) → HasEnd ((part p l, m) ∷ vs)
one_end File l m vs h q = by_words File l m h (mark (codes "theory")) (a_name ∷ mark (codes "begin") ∷ mark (codes "end") ∷ []) refl refl (λ n. on_row refl refl (on_word refl (on_word refl (on_row refl refl (h.reads n)))))
one_end Items l m vs h q = by_words Items l m h (mark (codes "end")) ([]) refl refl (λ n. on_row refl refl (h.reads n))
one_end Builtin l m vs h q = by_words Builtin l m h (name (codes "hashing")) ([]) refl refl (λ n. on_row refl refl (h.reads n))
one_end MoreBuiltins l m vs h q = by_words MoreBuiltins l m h (mark (codes "end")) ([]) refl refl (λ n. instead (mark (codes "end") ∷ h.words) refl refl refl (on_row refl refl (h.reads n)))
one_end Function l m vs h q = by_words Function l m h a_name (mark (codes "/") ∷ a_zero ∷ mark (codes "end") ∷ []) refl refl (λ n. on_row refl refl (on_word refl (on_word refl (instead (mark (codes "end") ∷ h.words) refl refl refl (instead (mark (codes "end") ∷ h.words) refl refl refl (on_row refl refl (h.reads n)))))))
one_end Privacy l m vs h q = by_words Privacy l m h (mark (codes "end")) ([]) refl refl (λ n. instead (mark (codes "end") ∷ h.words) refl refl refl (instead (mark (codes "end") ∷ h.words) refl refl refl (on_row refl refl (h.reads n))))
one_end MoreFunctions l m vs h q = by_words MoreFunctions l m h (mark (codes "end")) ([]) refl refl (λ n. instead (mark (codes "end") ∷ h.words) refl refl refl (on_row refl refl (h.reads n)))
one_end Parameters l m vs h q = by_words Parameters l m h (mark (codes "=")) ([]) refl refl (λ n. on_row refl refl (h.reads n))
one_end MoreParameters l m vs h q = by_words MoreParameters l m h (mark (codes ")")) ([]) refl refl (λ n. on_row refl refl (h.reads n))
one_end Lemma l m vs h q = by_words Lemma l m h (mark (codes ":")) (mark (codes "\"") ∷ an_empty ∷ mark (codes "=") ∷ an_empty ∷ mark (codes "\"") ∷ []) refl refl (λ n. on_row refl refl (on_row refl refl (equivalence_reads (mark (codes "\"") ∷ h.words) refl (λ k. on_word refl (h.reads k)))))
one_end Attribute l m vs h q = by_words Attribute l m h (name (codes "reuse")) ([]) refl refl (λ n. on_row refl refl (h.reads n))
one_end MoreAttributes l m vs h q = by_words MoreAttributes l m h (mark (codes "]")) ([]) refl refl (λ n. on_row refl refl (h.reads n))
one_end Mode l m vs h q = by_words Mode l m h (mark (codes "\"")) (an_empty ∷ mark (codes "=") ∷ an_empty ∷ mark (codes "\"") ∷ []) refl refl (λ n. on_row refl refl (equivalence_reads (mark (codes "\"") ∷ h.words) refl (λ k. on_word refl (h.reads k))))
one_end Process l m vs h q = by_words Process l m h a_zero ([]) refl refl (λ n. process_reads h.words (h.quiet_words (q refl)) (λ k. h.reads k))
one_end Bars l m vs h q = by_nothing Bars l m h (λ f. f) (λ n. instead h.words refl refl (no_row_of Bars h.words (λ w. no_bars w) (h.quiet_words (q refl))) (h.reads n))
one_end Sequence l m vs h q = by_words Sequence l m h a_zero ([]) refl refl (λ n. on_row refl refl (on_level h.words (some_word h.words (h.quiet_words (q refl))) (h.reads 1)))
one_end Arguments l m vs h q = by_nothing Arguments l m h (λ f. f) (λ n. instead h.words refl refl (no_row_of Arguments h.words (λ w. no_arguments w) (h.quiet_words (q refl))) (on_level h.words (some_word h.words (h.quiet_words (q refl))) (h.reads 1)))
one_end Then l m vs h q = by_nothing Then l m h (λ f. f) (λ n. instead h.words refl refl (no_row_of Then h.words (λ w. no_then w) (h.quiet_words (q refl))) (on_level h.words (some_word h.words (h.quiet_words (q refl))) (h.reads 2)))
one_end Else l m vs h q = by_nothing Else l m h (λ f. f) (λ n. instead h.words refl refl (no_row_of Else h.words (λ w. no_else w) (h.quiet_words (q refl))) (on_level h.words (some_word h.words (h.quiet_words (q refl))) (h.reads (n + 1))))
one_end NewName l m vs h q = by_words NewName l m h a_name ([]) refl refl (λ n. on_row refl refl (h.reads n))
one_end Message l m vs h q = by_words Message l m h (mark (codes ")")) ([]) refl refl (λ n. on_row refl refl (h.reads n))
one_end Facts l m vs h q = by_words Facts l m h (mark (codes "]")) ([]) refl refl (λ n. on_row refl refl (h.reads n))
one_end MoreFacts l m vs h q = by_words MoreFacts l m h (mark (codes "]")) ([]) refl refl (λ n. on_row refl refl (h.reads n))
one_end Fact l m vs h q = by_words Fact l m h a_capital (mark (codes "(") ∷ mark (codes ")") ∷ []) refl refl (λ n. on_row refl refl (on_word refl (on_row refl refl (on_level h.words (some_word h.words (h.quiet_words (q refl))) (h.reads 0)))))
one_end Arrow l m vs h q = by_words Arrow l m h (mark (codes "-->")) (mark (codes "[") ∷ mark (codes "]") ∷ []) refl refl (λ n. on_row refl refl (on_word refl (on_row refl refl (h.reads n))))
one_end Shown l m vs h q = by_words Shown l m h (mark (codes "]->")) ([]) refl refl (λ n. on_row refl refl (h.reads n))
one_end MoreShown l m vs h q = by_words MoreShown l m h (mark (codes "]->")) ([]) refl refl (λ n. on_row refl refl (h.reads n))
one_end Term l m vs h q = by_words Term l m h an_empty ([]) refl refl (λ n. on_row refl refl (on_level h.words (some_word h.words (h.quiet_words (q refl))) (h.reads 1)))
one_end Application l m vs h q = by_nothing Application l m h (λ f. f) (λ n. instead h.words refl refl (no_row_of Application h.words (λ w. no_terms w) (h.quiet_words (q refl))) (on_level h.words (some_word h.words (h.quiet_words (q refl))) (h.reads 1)))
one_end Terms l m vs h q = by_words Terms l m h (mark (codes ")")) ([]) refl refl (λ n. on_row refl refl (on_level h.words (some_word h.words (h.quiet_words (q refl))) (h.reads 0)))
one_end MoreTerms l m vs h q = by_words MoreTerms l m h (mark (codes ")")) ([]) refl refl (λ n. on_row refl refl (h.reads n))
one_end Pair l m vs h q = by_words Pair l m h (mark (codes ",")) (an_empty ∷ mark (codes ">") ∷ []) refl refl (λ n. on_row refl refl (on_row refl refl (on_level (mark (codes ">") ∷ h.words) tt (on_row refl refl (on_level h.words (some_word h.words (h.quiet_words (q refl))) (h.reads _))))))
one_end MoreParts l m vs h q = by_words MoreParts l m h (mark (codes ">")) ([]) refl refl (λ n. on_row refl refl (h.reads n))
one_end Equivalence l m vs h q = by_words Equivalence l m h an_empty (mark (codes "=") ∷ an_empty ∷ []) refl refl (λ n. equivalence_reads h.words (h.quiet_words (q refl)) (λ k. h.reads k))
one_end MoreEquivalence l m vs h q = by_nothing MoreEquivalence l m h (λ f. f) (λ n. instead h.words refl refl (no_row_of MoreEquivalence h.words (λ w. no_equivalence w) (h.quiet_words (q refl))) (h.reads n))
one_end Ended l m vs h q = by_nothing Ended l m h (λ f. f) (λ n. instead h.words refl refl (no_row_of Ended h.words (λ w. no_third w) (h.quiet_words (q refl))) (h.reads n))
one_end Implication l m vs h q = by_words Implication l m h an_empty (mark (codes "=") ∷ an_empty ∷ []) refl refl (λ n. implication_reads h.words (h.quiet_words (q refl)) (λ k. h.reads k))
one_end MoreImplication l m vs h q = by_nothing MoreImplication l m h (λ f. f) (λ n. instead h.words refl refl (no_row_of MoreImplication h.words (λ w. no_implication w) (h.quiet_words (q refl))) (h.reads n))
one_end Disjunction l m vs h q = by_words Disjunction l m h an_empty (mark (codes "=") ∷ an_empty ∷ []) refl refl (λ n. disjunction_reads h.words (h.quiet_words (q refl)) (λ k. h.reads k))
one_end MoreDisjunction l m vs h q = by_nothing MoreDisjunction l m h (λ f. f) (λ n. instead h.words refl refl (no_row_of MoreDisjunction h.words (λ w. no_disjunction w) (h.quiet_words (q refl))) (h.reads n))
one_end Conjunction l m vs h q = by_words Conjunction l m h an_empty (mark (codes "=") ∷ an_empty ∷ []) refl refl (λ n. conjunction_reads h.words (h.quiet_words (q refl)) (λ k. h.reads k))
one_end MoreConjunction l m vs h q = by_nothing MoreConjunction l m h (λ f. f) (λ n. instead h.words refl refl (no_row_of MoreConjunction h.words (λ w. no_conjunction w) (h.quiet_words (q refl))) (h.reads n))
one_end Formula l m vs h q = by_words Formula l m h an_empty (mark (codes "=") ∷ an_empty ∷ []) refl refl (λ n. formula_reads h.words (some_word h.words (h.quiet_words (q refl))) (λ k. h.reads k))
one_end Truth l m vs h q = by_nothing Truth l m h (λ f. f) (λ n. instead h.words refl refl (no_row_of Truth h.words (λ w. no_value w) (h.quiet_words (q refl))) (on_level h.words (some_word h.words (h.quiet_words (q refl))) (h.reads 1)))
one_end Atom l m vs h q = by_words Atom l m h an_empty (mark (codes "=") ∷ an_empty ∷ []) refl refl (λ n. on_row refl refl (on_word refl (on_row refl refl (on_level h.words (some_word h.words (h.quiet_words (q refl))) (h.reads _)))))
one_end UpperAtom l m vs h q = by_words UpperAtom l m h (mark (codes "=")) (an_empty ∷ []) refl refl (λ n. on_row refl refl (on_row refl refl (on_level h.words (some_word h.words (h.quiet_words (q refl))) (h.reads _))))
one_end LowerAtom l m vs h q = by_words LowerAtom l m h (mark (codes "=")) (an_empty ∷ []) refl refl (λ n. on_row refl refl (on_row refl refl (on_level h.words (some_word h.words (h.quiet_words (q refl))) (h.reads _))))
one_end Times l m vs h q = by_words Times l m h (mark (codes "<")) (a_name ∷ []) refl refl (λ n. on_row refl refl (on_row refl refl (h.reads n)))
one_end Time l m vs h q = by_words Time l m h a_name ([]) refl refl (λ n. on_row refl refl (h.reads n))
one_end Binders l m vs h q = by_words Binders l m h a_name (mark (codes ".") ∷ []) refl refl (λ n. on_row refl refl (on_row refl refl (h.reads n)))
one_end MoreBinders l m vs h q = by_words MoreBinders l m h (mark (codes ".")) ([]) refl refl (λ n. on_row refl refl (h.reads n))

open_quiet : (a q : Bool) → (not a || q) ≡ true → a ≡ true → q ≡ true
open_quiet true q e f = e
open_quiet false q e f = absurd (cc (f))

more_ends : (v : Open) (vs : List Open) → HasEnd vs → can_close v.0 (quiet vs) ≡ true → HasEnd (v ∷ vs)
more_ends (sign x, k) vs h c = record { words = mark x ∷ h.words; reads = λ n. on_word (own_name x) (h.reads n); lettered = (tt, h.lettered); quiet_words = λ q. q }
more_ends (word x, k) vs h c = record { words = name x ∷ h.words; reads = λ n. on_word (own_name x) (h.reads n); lettered = (c, h.lettered); quiet_words = λ q. refl }
more_ends (any_name, k) vs h c = record { words = a_name ∷ h.words; reads = λ n. on_word refl (h.reads n); lettered = (refl, h.lettered); quiet_words = λ q. refl }
more_ends (small, k) vs h c = record { words = a_name ∷ h.words; reads = λ n. on_word refl (h.reads n); lettered = (refl, h.lettered); quiet_words = λ q. refl }
more_ends (capital, k) vs h c = record { words = a_capital ∷ h.words; reads = λ n. on_word refl (h.reads n); lettered = (refl, h.lettered); quiet_words = λ q. refl }
more_ends (in_quotes, k) vs h c = record { words = an_empty ∷ h.words; reads = λ n. on_word refl (h.reads n); lettered = (tt, h.lettered); quiet_words = λ q. refl }
more_ends (nil, k) vs h c = record { words = a_zero ∷ h.words; reads = λ n. on_word refl (h.reads n); lettered = (tt, h.lettered); quiet_words = λ q. refl }
more_ends (arity, k) vs h c = record { words = a_zero ∷ h.words; reads = λ n. on_word refl (h.reads n); lettered = (tt, h.lettered); quiet_words = λ q. refl }
more_ends (part p l, k) vs h c = one_end p l k vs h (open_quiet (is_open p) (quiet vs) c)
more_ends (level c, k) vs h e = record { words = h.words; reads = λ n. on_level h.words (some_word h.words (h.quiet_words e)) (h.reads _); lettered = h.lettered; quiet_words = h.quiet_words }

-- so has all that closes
pub ends : (vs : List Open) → closes vs ≡ true → HasEnd vs
ends [] e = record { words = []; reads = λ n. reads_end; lettered = tt; quiet_words = λ q. absurd (cc (q)) }
ends (v ∷ vs) e =
    let b = both_true (can_close v.0 (quiet vs)) (closes vs) e in
    more_ends v vs (ends vs b.1) b.0
