-- The lines of short runs are read, and their answers are one.
use Rattle.std.proofs.Common.{◌≡◌, ℕ, Bool, true, false, List, [], ◌∷◌, ◌++◌, drop, Option, Some, None, refl, sym, ap, subst, ◌∙◌, ◌⊎◌, inl, inr}
use Rattle.std.specs.Prelude.{codes, decimal, ◌||◌, ◌==◌, if◌then◌else◌}
use Rattle.std.specs.Str.{bytes_eq}
use Rattle.std.proofs.lemmas.Bool.{eqb-true}
use Rattle.std.proofs.lemmas.Slice.Eq.{bytes_eq-Decides}
use Rattle.sap_text.specs.declared.token.Kind.TheVariants as kind
use Rattle.sap_text.specs.Tokens.{IsToken}
use Rattle.sap_terms.specs.Ground.{IsGround, AreGround}
use Rattle.sap_terms.specs.Tree.{Tree, variable, public, fresh, apply, Trees, none, more}
use Rattle.sap_terms.specs.View.{tree, term, term-tree, tree-term}
use Rattle.sap_terms.specs.declared.term.Term.{Term}
use Rattle.sap_runs.specs.Short.{MayStand, IsShortStep}
use Rattle.sap_runs.specs.declared.process_step.PStep.{PStep}
use Rattle.sap_runs.specs.declared.process_step.PStep.TheVariants as step
use Rattle.sap_runs.specs.declared.short_step.SStep.{SStep}
use Rattle.sap_runs.specs.declared.short_step.SStep.TheVariants as short
use Rattle.sap_run_lines.specs.RunTerms.{IsNumber}
use Rattle.sap_run_lines.specs.LineWords.{LineWord, identifier, number, word_identifier, word_number, AreLineWords, words_last, words_more}
use Rattle.sap_run_lines.specs.StepLines.{plain, process_words, IsProcessStepLine, IsLineRead, IsDecided, IsOpenLine}
use Rattle.sap_run_lines.specs.ShortLines.{AreWordsAndTerm, term_last, word_before, IsShortStepLine}
use Rattle.sap_run_lines.specs.Spellable.{IsWritable, AreWritable}
use Rattle.sap_run_lines.specs.WholeWords.{IsWholeTerm}
use Rattle.sap_run_lines.specs.code.Taking.{after, given, starts, identifier_at, number_at}
use Rattle.sap_run_lines.specs.code.WordTaking.{words_of, on_words}
use Rattle.sap_run_lines.specs.code.StepTaking.{number_of, number_behind, process_named_at, process_line_of}
use Rattle.sap_run_lines.specs.code.WholeTaking.{term_alone}
use Rattle.sap_run_lines.specs.code.ShortTaking.{term_behind, input_at, sending_at, knowing_at, is_left_out, as_it_is_at, short_named_at, short_line_of}
use Rattle.sap_run_lines.proofs.OnTaken.{OnTaken, OnSome, after_on, given_on, if_on, some_on}
use Rattle.sap_run_lines.proofs.Names.{identifier_on, identifier_read}
use Rattle.sap_run_lines.proofs.Digits.{number_on, number_read}
use Rattle.sap_run_lines.proofs.TermsTaken.{first_is}
use Rattle.sap_run_lines.proofs.StepsTaken.{one_number_on}
use Rattle.sap_run_lines.proofs.WordsTaken.{words_are, are_words}
use Rattle.sap_run_lines.proofs.WholeWords.{term_is, term_back}
use Rattle.sap_run_lines.proofs.Lines.{process_read, one_process}
use Rattle.sap_run_lines.proofs.Spelled.{spelled}
use Rattle.sap_run_lines.proofs.NoFeeds.{word_open, words_open, term_open, process_line_open}

same_bytes : {x y : List ℕ} → bytes_eq x y ≡ true → x ≡ y
same_bytes {x = x} {y = y} e = (bytes_eq-Decides x y).0 e

-- ---- what is taken is spelled

-- the first word, and the bytes behind it
record Begins (x r z : List ℕ) : Type 0 where
  is : IsToken kind.Ident x
  whole : z ≡ x ++ r

from : {t : Tree} {ws : List LineWord} {x y : List ℕ} → AreWordsAndTerm t ws x → y ≡ x → AreWordsAndTerm t ws y
from {t = t} {ws = ws} r e = subst (λ (y : List ℕ). AreWordsAndTerm t ws y) (sym e) r

-- the term behind one blank
term_behind_on : (r : List ℕ) → OnSome (λ t. (y : List ℕ) × (r ≡ 32 ∷ y) × IsWholeTerm t y) (term_behind r)
term_behind_on r =
    if_on (λ t. (y : List ℕ) × (r ≡ 32 ∷ y) × IsWholeTerm t y) (starts 32 r) _ _ (λ e. at (term_alone (drop 1 r)) (term_is (drop 1 r)) e) (λ e. tt)
  where
    at : (o : Option Tree) → OnSome (λ t. IsWholeTerm t (drop 1 r)) o → starts 32 r ≡ true → OnSome (λ t. (y : List ℕ) × (r ≡ 32 ∷ y) × IsWholeTerm t y) o
    at None h e = tt
    at (Some t) h e = (drop 1 r, first_is 32 r e, h)

-- a number behind one blank
number_behind_on : (r : List ℕ) → OnTaken (λ n k. IsNumber n × (r ≡ 32 ∷ (decimal n ++ k))) (number_behind r)
number_behind_on r = if_on Q (starts 32 r) _ _ (λ e. at (number_at (drop 1 r)) (number_on (drop 1 r)) e) (λ e. tt) where
  Q : ℕ × List ℕ → Type 0
  Q p = IsNumber p.0 × (r ≡ 32 ∷ (decimal p.0 ++ p.1))

  at : (o : Option (ℕ × List ℕ)) → OnTaken (λ n k. IsNumber n × (drop 1 r ≡ decimal n ++ k)) o → starts 32 r ≡ true → OnSome Q o
  at None h e = tt
  at (Some p) h e = (h.0, first_is 32 r e ∙ ap (λ y. 32 ∷ y) h.1)

module _ (z : List ℕ) where
  abbrev Spelled : Option SStep → Type 0
  Spelled o = OnSome (λ s. IsShortStepLine s z) o

  input_on : (x r : List ℕ) → Begins x r z → x ≡ codes "in" → Spelled (input_at r)
  input_on x r b e = after_on (λ n k. IsNumber n × (r ≡ 32 ∷ (decimal n ++ k))) (λ s. IsShortStepLine s z) (number_behind r) _ (number_behind_on r) (λ t k n.
      given_on (λ s. IsShortStepLine s z) (term_behind k) _ (λ u f. found t k n u (some_on (λ t. (y : List ℕ) × (k ≡ 32 ∷ y) × IsWholeTerm t y) (term_behind k) u f (term_behind_on k))))
    where
      found : (t : ℕ) (k : List ℕ) → IsNumber t × (r ≡ 32 ∷ (decimal t ++ k)) → (u : Tree) → (y : List ℕ) × (k ≡ 32 ∷ y) × IsWholeTerm u y → IsShortStepLine (short.In t (term u)) z
      found t k n u h =
          let is : IsToken kind.Ident (codes "in") = subst (λ (y : List ℕ). IsToken kind.Ident y) e b.is in
          let line : AreWordsAndTerm u (plain (codes "in") (t ∷ [])) (codes "in" ++ (32 ∷ (decimal t ++ (32 ∷ h.0)))) = word_before (word_identifier is) (word_before (word_number n.0) (term_last h.2)) in
          let spelled : AreWordsAndTerm u (plain (codes "in") (t ∷ [])) z =
          from line (b.whole ∙ (ap (λ y. y ++ r) e ∙ ap (λ y. codes "in" ++ y) (n.1 ∙ ap (λ y. 32 ∷ (decimal t ++ y)) h.1)))
          in
          subst (λ (v : Tree). AreWordsAndTerm v (plain (codes "in") (t ∷ [])) z) (sym (tree-term u)) spelled

  knowing_on : (x r : List ℕ) → Begins x r z → x ≡ codes "know" → Spelled (knowing_at r)
  knowing_on x r b e =
      given_on (λ s. IsShortStepLine s z) (term_behind r) _ (λ u f. found u (some_on (λ t. (y : List ℕ) × (r ≡ 32 ∷ y) × IsWholeTerm t y) (term_behind r) u f (term_behind_on r)))
    where
      found : (u : Tree) → (y : List ℕ) × (r ≡ 32 ∷ y) × IsWholeTerm u y → IsShortStepLine (short.Know (term u)) z
      found u h =
          let is : IsToken kind.Ident (codes "know") = subst (λ (y : List ℕ). IsToken kind.Ident y) e b.is in
          let line : AreWordsAndTerm u (plain (codes "know") []) (codes "know" ++ (32 ∷ h.0)) = word_before (word_identifier is) (term_last h.2) in
          let spelled : AreWordsAndTerm u (plain (codes "know") []) z = from line (b.whole ∙ (ap (λ y. y ++ r) e ∙ ap (λ y. codes "know" ++ y) h.1)) in
          subst (λ (v : Tree). AreWordsAndTerm v (plain (codes "know") []) z) (sym (tree-term u)) spelled

  -- one number behind a word
  sending_on : (x r : List ℕ) → Begins x r z → x ≡ codes "send" → Spelled (sending_at r)
  unfolding on_words given
  sending_on x r b e = at r refl where
    is : IsToken kind.Ident (codes "send")
    is = subst (λ (y : List ℕ). IsToken kind.Ident y) e b.is

    put : (y : List ℕ) → r ≡ 32 ∷ y → z ≡ codes "send" ++ (32 ∷ y)
    put y f = b.whole ∙ (ap (λ k. k ++ r) e ∙ ap (λ k. codes "send" ++ k) f)

    found : (y : List ℕ) → r ≡ 32 ∷ y → (ws : List LineWord) → AreLineWords ws y → Spelled (given (number_of ws) (λ t. Some (short.Send t)))
    found y f ws are = given_on (λ s. IsShortStepLine s z) (number_of ws) _ (λ t g.
        let words : ws ≡ number t ∷ [] = some_on (λ n. ws ≡ number n ∷ []) (number_of ws) t g (one_number_on ws) in
        let line : AreLineWords (plain (codes "send") (t ∷ [])) (codes "send" ++ (32 ∷ y)) = words_more (word_identifier is) (subst (λ (us : List LineWord). AreLineWords us y) words are) in
        subst (λ (k : List ℕ). AreLineWords (plain (codes "send") (t ∷ [])) k) (sym (put y f)) line)

    at : (k : List ℕ) → r ≡ k → Spelled (sending_at k)
    at [] f = tt
    at (c ∷ y) f = go (c == 32) refl where
      go : (d : Bool) → (c == 32) ≡ d → Spelled (given (given (if d then words_of y else None) number_of) (λ t. Some (short.Send t)))
      go false g = tt
      go true g = of (words_of y) refl where
        of : (o : Option (List LineWord)) → words_of y ≡ o → Spelled (given (given o number_of) (λ t. Some (short.Send t)))
        of None h = tt
        of (Some ws) h = found y (f ∙ ap (λ d. d ∷ y) (eqb-true c 32 g)) ws (words_are y ws h)

-- ---- what is spelled is taken

-- the first word of a step, and those behind it
abbrev word_of : PStep → List ℕ
word_of (step.Nil t) = codes "nil"
word_of (step.Par t) = codes "par"
word_of (step.Rep t) = codes "rep"
word_of (step.New t n) = codes "new"
word_of (step.Out t) = codes "out"
word_of (step.Send t k) = codes "send"
word_of (step.In t k) = codes "in"
word_of (step.Sync s r) = codes "sync"
word_of (step.Then t) = codes "then"
word_of (step.Else t) = codes "else"
word_of (step.Event t) = codes "event"
word_of (step.Insert t) = codes "insert"
word_of (step.Delete t) = codes "delete"
word_of (step.Found t) = codes "found"
word_of (step.Missing t) = codes "missing"
word_of (step.Lock t) = codes "lock"
word_of (step.Unlock t) = codes "unlock"
word_of (step.Embedded t facts bindings) = codes "rule"
word_of (step.Name n) = codes "name"
word_of (step.Public a) = codes "pub"
word_of (step.Apply f entries) = codes "app"
word_of (step.Know k) = codes "know"

first_word : {x : List ℕ} {ws : List LineWord} {z : List ℕ} → AreLineWords (identifier x ∷ ws) z → (r : List ℕ) × (identifier_at z ≡ Some (x, r))
first_word (words_last (word_identifier {x = x} is)) = ([], identifier_read x [] is tt)
first_word (words_more {z = z} (word_identifier {x = x} is) s) = (32 ∷ z, identifier_read x (32 ∷ z) is refl)

begins : (s : PStep) (z : List ℕ) → AreLineWords (process_words s) z → (r : List ℕ) × (identifier_at z ≡ Some (word_of s, r))
begins (step.Nil t) z h = first_word h
begins (step.Par t) z h = first_word h
begins (step.Rep t) z h = first_word h
begins (step.New t n) z h = first_word h
begins (step.Out t) z h = first_word h
begins (step.Send t k) z h = first_word h
begins (step.In t k) z h = first_word h
begins (step.Sync s r) z h = first_word h
begins (step.Then t) z h = first_word h
begins (step.Else t) z h = first_word h
begins (step.Event t) z h = first_word h
begins (step.Insert t) z h = first_word h
begins (step.Delete t) z h = first_word h
begins (step.Found t) z h = first_word h
begins (step.Missing t) z h = first_word h
begins (step.Lock t) z h = first_word h
begins (step.Unlock t) z h = first_word h
begins (step.Embedded t facts bindings) z h = first_word h
begins (step.Name n) z h = first_word h
begins (step.Public a) z h = first_word h
begins (step.Apply f entries) z h = first_word h
begins (step.Know k) z h = first_word h

-- the line is one that a short run writes otherwise or leaves out
abbrev is_other : List ℕ → Bool
is_other x = bytes_eq x (codes "in") || bytes_eq x (codes "send") || bytes_eq x (codes "know") || is_left_out x

-- it is exactly where it may not stand there
stands_if : (s : PStep) → is_other (word_of s) ≡ false → MayStand s
stands_if (step.Nil t) e = tt
stands_if (step.Par t) e = tt
stands_if (step.Rep t) e = tt
stands_if (step.New t n) e = tt
stands_if (step.Out t) e = tt
stands_if (step.Send t k) e = absurd (cc)
stands_if (step.In t k) e = absurd (cc)
stands_if (step.Sync s r) e = tt
stands_if (step.Then t) e = tt
stands_if (step.Else t) e = tt
stands_if (step.Event t) e = tt
stands_if (step.Insert t) e = tt
stands_if (step.Delete t) e = tt
stands_if (step.Found t) e = tt
stands_if (step.Missing t) e = tt
stands_if (step.Lock t) e = tt
stands_if (step.Unlock t) e = tt
stands_if (step.Embedded t facts bindings) e = tt
stands_if (step.Name n) e = tt
stands_if (step.Public a) e = absurd (cc)
stands_if (step.Apply f entries) e = absurd (cc)
stands_if (step.Know k) e = absurd (cc)

-- one that may stand there is taken as it is
taken_as_it_is : (s : PStep) (r : List ℕ) → MayStand s → short_named_at (word_of s) r ≡ as_it_is_at (word_of s) r
taken_as_it_is (step.Nil t) r m = refl
taken_as_it_is (step.Par t) r m = refl
taken_as_it_is (step.Rep t) r m = refl
taken_as_it_is (step.New t n) r m = refl
taken_as_it_is (step.Out t) r m = refl
taken_as_it_is (step.Send t k) r m = absurd m
taken_as_it_is (step.In t k) r m = absurd m
taken_as_it_is (step.Sync s u) r m = refl
taken_as_it_is (step.Then t) r m = refl
taken_as_it_is (step.Else t) r m = refl
taken_as_it_is (step.Event t) r m = refl
taken_as_it_is (step.Insert t) r m = refl
taken_as_it_is (step.Delete t) r m = refl
taken_as_it_is (step.Found t) r m = refl
taken_as_it_is (step.Missing t) r m = refl
taken_as_it_is (step.Lock t) r m = refl
taken_as_it_is (step.Unlock t) r m = refl
taken_as_it_is (step.Embedded t facts bindings) r m = refl
taken_as_it_is (step.Name n) r m = refl
taken_as_it_is (step.Public a) r m = absurd m
taken_as_it_is (step.Apply f entries) r m = absurd m
taken_as_it_is (step.Know k) r m = absurd m

-- a line of a step of a process is read as this step
process_taken : (s : PStep) (z : List ℕ) → IsProcessStepLine s z → process_line_of z ≡ Some s
process_taken s z h = at (process_line_of z) (process_read z) where
  at : (o : Option PStep) → IsLineRead IsProcessStepLine z o → o ≡ Some s
  at None never = absurd (never s h)
  at (Some u) is = ap Some (one_process u s z is h)

-- what the bytes behind a first word give
of_first : {A : Type 0} (f : List ℕ → List ℕ → Option A) (x r z : List ℕ) → identifier_at z ≡ Some (x, r) → after (identifier_at z) f ≡ f x r
unfolding after
of_first f x r z e = rw e refl

as_it_is_back : (s : PStep) (z : List ℕ) → MayStand s → IsProcessStepLine s z → short_line_of z ≡ Some (short.Act s)
unfolding given
as_it_is_back s z m h =
    let b = begins s z h.words in
    let is : process_named_at (word_of s) b.0 ≡ Some s = sym (of_first process_named_at (word_of s) b.0 z b.1) ∙ process_taken s z h in
    of_first short_named_at (word_of s) b.0 z b.1 ∙ (taken_as_it_is s b.0 m ∙ ap (λ (o : Option PStep). given o (λ s. Some (short.Act s))) is)

-- a line with a term that is taken behind its words
term_taken : (t : Term) (y : List ℕ) → IsWholeTerm (tree t) y → term_behind (32 ∷ y) ≡ Some (tree t)
term_taken t y h = term_back (tree t) y h

-- the step that a term makes, and a number and a term
pub knowing_taken : (t : Term) (r : List ℕ) → term_behind r ≡ Some (tree t) → knowing_at r ≡ Some (short.Know t)
unfolding given
knowing_taken t r e = ap (λ (o : Option Tree). given o (λ u. Some (short.Know (term u)))) e ∙ ap (λ u. Some (short.Know u)) (term-tree t)

pub input_taken : (n : ℕ) (t : Term) (r k : List ℕ) → number_behind r ≡ Some (n, k) → term_behind k ≡ Some (tree t) → input_at r ≡ Some (short.In n t)
unfolding given after
input_taken n t r k e f =
    ap (λ (o : Option (ℕ × List ℕ)). after o (λ t r. given (term_behind r) (λ u. Some (short.In t (term u))))) e
    ∙ (ap (λ (o : Option Tree). given o (λ u. Some (short.In n (term u)))) f ∙ ap (λ u. Some (short.In n u)) (term-tree t))

knowing_back : (t : Term) (z : List ℕ) → AreWordsAndTerm (tree t) (plain (codes "know") []) z → short_line_of z ≡ Some (short.Know t)
knowing_back t _ (word_before {z = y} (word_identifier is) (term_last h)) =
    of_first short_named_at (codes "know") (32 ∷ y) (codes "know" ++ (32 ∷ y)) (identifier_read (codes "know") (32 ∷ y) is refl)
    ∙ knowing_taken t (32 ∷ y) (term_taken t y h)

input_back : (n : ℕ) (t : Term) (z : List ℕ) → AreWordsAndTerm (tree t) (plain (codes "in") (n ∷ [])) z → short_line_of z ≡ Some (short.In n t)
input_back n t _ (word_before (word_identifier is) (word_before {z = y} (word_number fits) (term_last h))) =
    let rest : List ℕ = 32 ∷ (decimal n ++ (32 ∷ y)) in
    of_first short_named_at (codes "in") rest (codes "in" ++ rest) (identifier_read (codes "in") rest is refl)
    ∙ input_taken n t rest (32 ∷ y) (number_read n (32 ∷ y) fits refl) (term_taken t y h)

sending_back : (n : ℕ) (z : List ℕ) → AreLineWords (plain (codes "send") (n ∷ [])) z → short_line_of z ≡ Some (short.Send n)
unfolding on_words given
sending_back n _ (words_more {z = y} (word_identifier is) s) =
    of_first short_named_at (codes "send") (32 ∷ y) (codes "send" ++ (32 ∷ y)) (identifier_read (codes "send") (32 ∷ y) is refl)
    ∙ ap (λ (o : Option (List LineWord)). given (given o number_of) (λ t. Some (short.Send t))) (are_words y (number n ∷ []) s)

pub short_taken : (s : SStep) (z : List ℕ) → IsShortStepLine s z → short_line_of z ≡ Some s
short_taken (short.Act s) z h = as_it_is_back s z h.0 h.1
short_taken (short.In n t) z h = input_back n t z h
short_taken (short.Send n) z h = sending_back n z h
short_taken (short.Know t) z h = knowing_back t z h

-- ---- what is taken is spelled

-- a line that begins with another word, and is taken as it is
as_it_is_on : (x r z : List ℕ) → identifier_at z ≡ Some (x, r) → is_other x ≡ false → OnSome (λ s. IsShortStepLine s z) (as_it_is_at x r)
as_it_is_on x r z e other = given_on (λ s. IsShortStepLine s z) (process_named_at x r) _ (λ s f.
    let line : IsProcessStepLine s z = subst (IsLineRead IsProcessStepLine z) (of_first process_named_at x r z e ∙ f) (process_read z) in
    let b = begins s z line.words in
    let same : ◌≡◌ {A = Option (List ℕ × List ℕ)} (Some (x, r)) (Some (word_of s, b.0)) = sym e ∙ b.1 in
    let word : x ≡ word_of s = first_same (x, r) (word_of s, b.0) same in
    (stands_if s (ap is_other (sym word) ∙ other), line))
  where
    first_same : (p q : List ℕ × List ℕ) → ◌≡◌ {A = Option (List ℕ × List ℕ)} (Some p) (Some q) → p.0 ≡ q.0
    first_same p q same = let pairs : p ≡ q = cc in ap (λ (p : List ℕ × List ℕ). p.0) pairs

short_on : (z : List ℕ) → OnSome (λ s. IsShortStepLine s z) (short_line_of z)
unfolding after
short_on z = at (identifier_at z) refl (identifier_on z) where
  named : (x r : List ℕ) → identifier_at z ≡ Some (x, r) → Begins x r z → OnSome (λ s. IsShortStepLine s z) (short_named_at x r)
  named x r e b =
      if_on (λ s. IsShortStepLine s z) (bytes_eq x (codes "in")) _ _ (λ c. input_on z x r b (same_bytes c)) (λ c.
      if_on (λ s. IsShortStepLine s z) (bytes_eq x (codes "send")) _ _ (λ d. sending_on z x r b (same_bytes d)) (λ d.
      if_on (λ s. IsShortStepLine s z) (bytes_eq x (codes "know")) _ _ (λ f. knowing_on z x r b (same_bytes f)) (λ f.
      if_on (λ s. IsShortStepLine s z) (is_left_out x) _ _ (λ g. tt) (λ g. as_it_is_on x r z e (rw (c, d, f, g) refl)))))

  at : (t : Option (List ℕ × List ℕ)) → identifier_at z ≡ t → OnTaken (λ x r. IsToken kind.Ident x × (z ≡ x ++ r)) t
      → OnSome (λ s. IsShortStepLine s z) (after t short_named_at)
  at None e h = tt
  at (Some p) e h = named p.0 p.1 e (record { is = h.0; whole = h.1 })

pub short_read : (z : List ℕ) → IsLineRead IsShortStepLine z (short_line_of z)
short_read z = at (short_line_of z) refl (short_on z) where
  at : (o : Option SStep) → short_line_of z ≡ o → OnSome (λ s. IsShortStepLine s z) o → IsLineRead IsShortStepLine z o
  at None e h = λ s is. absurd (cc (e, short_taken s z is))
  at (Some s) e h = h

-- ---- laws

pub one_short : (s u : SStep) (z : List ℕ) → IsShortStepLine s z → IsShortStepLine u z → s ≡ u
one_short s u z h k = let same : ◌≡◌ {A = Option SStep} (Some s) (Some u) = sym (short_taken s z h) ∙ short_taken u z k in cc

pub short_decided : (z : List ℕ) → IsDecided IsShortStepLine z
short_decided z = at (short_line_of z) (short_read z) where
  at : (o : Option SStep) → IsLineRead IsShortStepLine z o → ((s : SStep) × IsShortStepLine s z) ⊎ ((s : SStep) → IsShortStepLine s z → ⊥)
  at None h = inr h
  at (Some s) h = inl (s, h)

words_and_term_open : {t : Tree} {ws : List LineWord} {z : List ℕ} → AreWordsAndTerm t ws z → IsOpenLine z
words_and_term_open (term_last h) = term_open h.0 refl
words_and_term_open (word_before w later) = word_open w (words_and_term_open later)

pub short_line_open : (s : SStep) (z : List ℕ) → IsShortStepLine s z → IsOpenLine z
short_line_open (short.Act s) z h = process_line_open s z h.1
short_line_open (short.In n t) z h = words_and_term_open h
short_line_open (short.Send n) z h = words_open h
short_line_open (short.Know t) z h = words_and_term_open h

mutual
  -- no variable stands in a term that can be written
  writable_ground : (t : Tree) → IsWritable t → IsGround t
  writable_ground (variable v) h = h
  writable_ground (public s) h = tt
  writable_ground (fresh n) h = tt
  writable_ground (apply f ts) h = writables_ground ts h.1

  writables_ground : (ts : Trees) → AreWritable ts → AreGround ts
  writables_ground none h = tt
  writables_ground (more t ts) h = (writable_ground t h.0, writables_ground ts h.1)

words_and_term_last : {t : Tree} {ws : List LineWord} {z : List ℕ} → AreWordsAndTerm t ws z → (y : List ℕ) × IsWholeTerm t y
words_and_term_last (term_last {z = z} h) = (z, h)
words_and_term_last (word_before w later) = words_and_term_last later

pub short_stands : (s : SStep) (z : List ℕ) → IsShortStepLine s z → IsShortStep s
short_stands (short.Act s) z h = h.0
short_stands (short.In n t) z h = let last = words_and_term_last h in (writable_ground (tree t) (spelled (tree t) last.0 [] last.1.0), last.1.1)
short_stands (short.Send n) z h = tt
short_stands (short.Know t) z h = let last = words_and_term_last h in (writable_ground (tree t) (spelled (tree t) last.0 [] last.1.0), last.1.1)
