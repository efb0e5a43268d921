-- What is made of the words behind a word, field by field.
use Rattle.std.proofs.Common.{◌≡◌, ◌≤◌, ◌<◌, ℕ, suc, Bool, true, false, List, [], ◌∷◌, ◌++◌, append_assoc, append-nil, length, length-append, ◌+◌, drop, Option, Some, None, refl, sym, ap, ◌∙◌, arith}
use Rattle.std.specs.Prelude.{◌==◌, if◌then◌else◌, codes, ⊤, decimal}
use Rattle.std.specs.Option.{option_map}
use Rattle.std.specs.Str.{bytes_eq}
use Rattle.std.specs.Char.{is_ascii_alphabetic, is_ascii_digit}
use Rattle.std.proofs.lemmas.Bool.{eqb-true}
use Rattle.sap_text.specs.Tokens.{Stops}
use Rattle.sap_terms.specs.declared.binding.Binding.{Binding}
use Rattle.sap_terms.specs.declared.var.Sort.{Sort}
use Rattle.sap_terms.specs.declared.var.Sort.TheVariants.{Msg, Fresh, Pub}
use Rattle.sap_terms.specs.declared.var.Var.{Var}
use Rattle.sap_terms.specs.Tree.{Tree}
use Rattle.sap_runs.specs.declared.process_step.PStep.TheVariants as step
use Rattle.sap_run_lines.specs.RunTerms.{IsNumber}
use Rattle.sap_run_lines.specs.LineWords.{LineWord, identifier, number, bound, IsLineWord, AreLineWords}
use Rattle.sap_run_lines.specs.code.Taking.{Taken, after, given, starts, starts_letter, is_run_name, identifier_at, name_at, number_at, content_at}
use Rattle.sap_run_lines.specs.code.TermTaking.{small_term}
use Rattle.sap_run_lines.specs.code.WordTaking.{bound_at, number_word_at, tilde_at, public_word_at, letter_at, word_at, next_words, words_in, words_of, more_words, on_words, behind_blank}
use Rattle.sap_run_lines.specs.code.StepTaking.{as_identifier, as_number, as_fresh, as_public, as_bound, as_name, only, numbers_first, behind_numbers, where_none, numbers_of, bindings_onto, bindings_of, some_bindings, is_with, with_of, uses_of, first_of, word_first, name_first, number_first, applied_of, named_of, public_of, fresh_of, number_of, process_behind, process_numbered, new_of, embedded_of, process_named, process_step_of, rule_numbered, rule_named, rule_step_of, number_behind, name_behind, binding_behind, behind_with, numbers_apart, AreNumbersFirst, process_named_at, rule_named_at, process_line_of, rule_line_of}
use Rattle.sap_run_lines.specs.NumberedSteps.{process_one, process_two, rule_one}
use Rattle.sap_run_lines.proofs.OnTaken.{OnTaken, both, after_on, if_on, some_on, taken_on}
use Rattle.sap_run_lines.proofs.Digits.{number_on}
use Rattle.sap_run_lines.proofs.StepsTaken.{number_is}
use Rattle.sap_run_lines.proofs.WordsTaken.{word_on, word_shorter, words_on, words_read}

-- what goes on with what was taken
after_same : {A B : Type 0} (t : Taken A) (k l : A → List ℕ → Option B) → ((x : A) (r : List ℕ) → k x r ≡ l x r) → after t k ≡ after t l
unfolding after
after_same None k l f = refl
after_same (Some p) k l f = f p.0 p.1

blank_same : {A C B : Type 0} (c : Bool) (t : Taken A) (u : Taken C) (k : A → List ℕ → Option B) (l : C → List ℕ → Option B)
    → after t k ≡ after u l → after (if c then t else None) k ≡ after (if c then u else None) l
unfolding after
blank_same true t u k l e = e
blank_same false t u k l e = refl

given_given : {A C B : Type 0} (o : Option A) (f : A → Option C) (g : C → Option B) → given (given o f) g ≡ given o (λ x. given (f x) g)
unfolding given
given_given None f g = refl
given_given (Some x) f g = refl

-- the words of bytes, by any number that is enough
words_same : (n m : ℕ) (z : List ℕ) → length z ≤ n → length z ≤ m → words_in n z ≡ words_in m z
words_same n m z le lf = at (words_in n z) (words_in m z) refl refl where
  at : (o p : Option (List LineWord)) → words_in n z ≡ o → words_in m z ≡ p → o ≡ p
  at None None e f = refl
  at (Some ws) p e f = sym (words_read (some_on (λ ws. AreLineWords ws z) (words_in n z) ws e (words_on n z)) m lf) ∙ f
  at None (Some ws) e f = sym e ∙ words_read (some_on (λ ws. AreLineWords ws z) (words_in m z) ws f (words_on m z)) n le

pub shorter : (z r : List ℕ) (w : LineWord) → word_at z ≡ Some (w, r) → length r < length z
shorter z r w e = word_shorter (taken_on (λ w k. IsLineWord w z k) (word_at z) w r e (word_on z))

-- they are the first and those behind it
words_step : (z : List ℕ) → words_of z ≡ after (word_at z) (λ w r. option_map (λ ws. w ∷ ws) (more_words r))
unfolding words_in after
words_step z = words_same (length z) (suc (length z)) z (omega arith) (omega arith) ∙ at (word_at z) refl where
  pull : (c : Bool) (w : LineWord) (o : Option (List LineWord)) → (if c then option_map (λ ws. w ∷ ws) o else None) ≡ option_map (λ ws. w ∷ ws) (if c then o else None)
  pull true w o = refl
  pull false w o = refl

  next : (w : LineWord) (r : List ℕ) → word_at z ≡ Some (w, r) → next_words (words_in (length z)) w r ≡ option_map (λ ws. w ∷ ws) (more_words r)
  next w [] e = refl
  next w (b ∷ y) e =
      let short : length (b ∷ y) < length z = shorter z (b ∷ y) w e in
      let same : words_in (length z) y ≡ words_of y = words_same (length z) (length y) y (omega (arith, short)) (omega arith) in
      rw same (pull (b == 32) w (words_of y))

  at : (t : Taken LineWord) → word_at z ≡ t → after t (λ w r. next_words (words_in (length z)) w r) ≡ after t (λ w r. option_map (λ ws. w ∷ ws) (more_words r))
  at None e = refl
  at (Some p) e = next p.0 p.1 e

-- of all the words
words_first : {B : Type 0} (f : List LineWord → Option B) (z : List ℕ) → given (words_of z) f ≡ after (word_at z) (λ w r. on_words (λ ws. f (w ∷ ws)) r)
unfolding on_words given after
words_first {B = B} f z = ap (λ (o : Option (List LineWord)). given o f) (words_step z) ∙ at (word_at z) where
  map : (w : LineWord) (o : Option (List LineWord)) → given (option_map (λ ws. w ∷ ws) o) f ≡ given o (λ ws. f (w ∷ ws))
  map w None = refl
  map w (Some ws) = refl

  at : (t : Taken LineWord) → given (after t (λ w r. option_map (λ ws. w ∷ ws) (more_words r))) f ≡ after t (λ w r. given (more_words r) (λ ws. f (w ∷ ws)))
  at None = refl
  at (Some p) = map p.0 (more_words p.1)

-- of the words behind a word
pub on_nothing : {B : Type 0} (f : List LineWord → Option B) → on_words f [] ≡ f []
unfolding on_words given
on_nothing f = refl

on_step : {B : Type 0} (f : List LineWord → Option B) (z : List ℕ) → 0 < length z → on_words f z ≡ after (behind_blank word_at z) (λ w r. on_words (λ ws. f (w ∷ ws)) r)
unfolding on_words given after
on_step f [] some = absurd (omega (arith, some))
on_step f (b ∷ y) some = at (b == 32) where
  at : (c : Bool) → given (if c then words_of y else None) f ≡ after (if c then word_at y else None) (λ w r. on_words (λ ws. f (w ∷ ws)) r)
  at true = words_first f y
  at false = refl

on_none : {B : Type 0} (z : List ℕ) → on_words {B = B} (λ ws. None) z ≡ None
unfolding on_words given
on_none {B = B} z = at (more_words z) where
  at : (o : Option (List LineWord)) → given {B = B} o (λ ws. None) ≡ None
  at None = refl
  at (Some ws) = refl

on_same : {B : Type 0} (f g : List LineWord → Option B) (z : List ℕ) → ((ws : List LineWord) → f ws ≡ g ws) → on_words f z ≡ on_words g z
unfolding on_words given
on_same f g z h = at (more_words z) where
  at : (o : Option (List LineWord)) → given o f ≡ given o g
  at None = refl
  at (Some ws) = h ws

-- where a word stands, what is made of no words is left open
on_some : {B : Type 0} (f g : List LineWord → Option B) (z : List ℕ) → 0 < length z → ((w : LineWord) (ws : List LineWord) → f (w ∷ ws) ≡ g (w ∷ ws)) → on_words f z ≡ on_words g z
on_some f g z some h =
    on_step f z some ∙ (after_same (behind_blank word_at z) _ _ (λ w r. on_same (λ ws. f (w ∷ ws)) (λ ws. g (w ∷ ws)) r (h w)) ∙ sym (on_step g z some))

on_given : {A B : Type 0} (f : List LineWord → Option A) (g : A → Option B) (z : List ℕ) → on_words (λ ws. given (f ws) g) z ≡ given (on_words f z) g
unfolding on_words given
on_given f g z = at (more_words z) where
  at : (o : Option (List LineWord)) → given o (λ ws. given (f ws) g) ≡ given (given o f) g
  at None = refl
  at (Some ws) = refl

-- bytes that an equals sign begins are no words behind a word
on_equals : {B : Type 0} (f : List LineWord → Option B) (z : List ℕ) → starts 61 z ≡ true → on_words f z ≡ None
unfolding on_words given
on_equals f [] e = absurd (cc)
on_equals f (b ∷ z) e = let same : b ≡ 61 = eqb-true b 61 e in rw same refl

-- by what the first word holds
first_step : {A B : Type 0} (held : LineWord → Option A) (k : A × List LineWord → Option B) (z : List ℕ)
    → on_words (λ ws. given (first_of held ws) k) z ≡ after (behind_blank word_at z) (λ w r. given (held w) (λ x. on_words (λ ws. k (x, ws)) r))
unfolding given after
first_step held k [] = on_nothing (λ ws. given (first_of held ws) k)
first_step {A = A} held k (b ∷ y) = on_step (λ ws. given (first_of held ws) k) (b ∷ y) (omega arith) ∙ after_same (behind_blank word_at (b ∷ y)) _ _ (λ w r. at (held w) w r) where
  at : (o : Option A) (w : LineWord) (r : List ℕ) → on_words (λ ws. given (given o (λ x. Some (x, ws))) k) r ≡ given o (λ x. on_words (λ ws. k (x, ws)) r)
  at None w r = on_none r
  at (Some x) w r = refl

-- words that hold nothing of a kind
anything : {A : Type 0} (t : Taken A) → OnTaken (λ x r. ⊤) t
anything None = tt
anything (Some p) = tt

module _ {A B : Type 0} (held : LineWord → Option A) (K : A → List ℕ → Option B) where
  abbrev Dry : Taken LineWord → Type 0
  Dry t = OnTaken (λ w r. held w ≡ None) t

  -- what goes on with what a word holds
  with_held : LineWord → List ℕ → Option B
  with_held w r = given (held w) (λ x. K x r)

  dry : (t : Taken LineWord) → Dry t → after t (λ w r. given (held w) (λ x. K x r)) ≡ None
  unfolding after given
  dry None h = refl
  dry (Some p) h = rw h refl

  if_after : (c : Bool) (t u : Taken LineWord) (o : Option B) → (c ≡ true → after t (λ w r. given (held w) (λ x. K x r)) ≡ o) → (c ≡ false → after u (λ w r. given (held w) (λ x. K x r)) ≡ o)
      → after (if c then t else u) (λ w r. given (held w) (λ x. K x r)) ≡ o
  if_after true t u o f g = f refl
  if_after false t u o f g = g refl

  module _ (no_bound : (v : Var) (t : Tree) → held (bound v t) ≡ None) where
    bound_dry : (s : Sort) (z : List ℕ) → Dry (bound_at s z)
    bound_dry s z = after_on (λ x r. ⊤) (both (λ w r. held w ≡ None)) (name_at z) _ (anything (name_at z)) (λ x r h.
        if_on (both (λ w r. held w ≡ None)) (starts 61 r) _ _ (λ c.
        after_on (λ t k. ⊤) (both (λ w r. held w ≡ None)) (small_term (drop 1 r)) _ (anything (small_term (drop 1 r))) (λ t k i. no_bound _ t)) (λ c. tt))

-- no digit stands first
sign_stops : (c : ℕ) (z : List ℕ) → is_ascii_digit c ≡ false → starts c z ≡ true → Stops is_ascii_digit z
sign_stops c [] other e = tt
sign_stops c (b ∷ z) other e = let same : b ≡ c = eqb-true b c e in rw same other

letter_stops : (z : List ℕ) → starts_letter z ≡ true → Stops is_ascii_digit z
letter_stops [] e = tt
letter_stops (b ∷ z) e = at b e where
  at : (b : ℕ) → is_ascii_alphabetic b ≡ true → is_ascii_digit b ≡ false
  at b e = grind arith

no_number : (z : List ℕ) → Stops is_ascii_digit z → number_at z ≡ None
unfolding number_at given
no_number [] s = refl
no_number (b ∷ z) s = rw s refl

sign_letter : (c : ℕ) (z : List ℕ) → is_ascii_alphabetic c ≡ false → starts c z ≡ true → starts_letter z ≡ false
sign_letter c [] other e = refl
sign_letter c (b ∷ z) other e = let same : b ≡ c = eqb-true b c e in rw same other

no_identifier : (z : List ℕ) → starts_letter z ≡ false → identifier_at z ≡ None
unfolding identifier_at
no_identifier z e = rw e refl

-- a number is what a word holds that is one
module _ {B : Type 0} (K : ℕ → List ℕ → Option B) (z : List ℕ) where
  abbrev Numbers : Taken LineWord → Type 0
  Numbers t = OnTaken (λ w r. as_number w ≡ None) t

  dry_number : (t : Taken LineWord) → Numbers t → Stops is_ascii_digit z → after t (λ w r. given (as_number w) (λ n. K n r)) ≡ after (number_at z) K
  unfolding after
  dry_number t h s = rw (no_number z s) (dry as_number K t h)

  tilde_number : (y : List ℕ) → Numbers (tilde_at y)
  tilde_number y = if_on (both (λ w r. as_number w ≡ None)) (starts_letter y) _ _ (λ c. bound_dry as_number K (λ v t. refl) Fresh y) (λ c.
      after_on (λ n r. ⊤) (both (λ w r. as_number w ≡ None)) (number_at y) _ (anything (number_at y)) (λ n r i. refl))

  public_number : (y : List ℕ) → Numbers (public_word_at y)
  public_number y = after_on (λ s r. ⊤) (both (λ w r. as_number w ≡ None)) (content_at y) _ (anything (content_at y)) (λ s r i. refl)

  letter_number : (y : List ℕ) → Numbers (letter_at y)
  letter_number y = after_on (λ x r. ⊤) (both (λ w r. as_number w ≡ None)) (identifier_at y) _ (anything (identifier_at y)) (λ x r i.
      if_on (both (λ w r. as_number w ≡ None)) (starts 61 r) _ _ (λ c. bound_dry as_number K (λ v t. refl) Msg y) (λ c. refl))

  number_itself : after (number_word_at z) (λ w r. given (as_number w) (λ n. K n r)) ≡ after (number_at z) K
  unfolding after given
  number_itself = at (number_at z) where
    at : (t : Taken ℕ) → after (after t (λ n r. Some (number n, r))) (λ w r. given (as_number w) (λ n. K n r)) ≡ after t K
    at None = refl
    at (Some p) = refl

  number_word : after (word_at z) (λ w r. given (as_number w) (λ n. K n r)) ≡ after (number_at z) K
  unfolding word_at
  number_word =
      if_after as_number K (starts 126 z) _ _ _ (λ e. dry_number (tilde_at (drop 1 z)) (tilde_number (drop 1 z)) (sign_stops 126 z refl e)) (λ _.
      if_after as_number K (starts 36 z) _ _ _ (λ e. dry_number (bound_at Pub (drop 1 z)) (bound_dry as_number K (λ v t. refl) Pub (drop 1 z)) (sign_stops 36 z refl e)) (λ _.
      if_after as_number K (starts 39 z) _ _ _ (λ e. dry_number (public_word_at (drop 1 z)) (public_number (drop 1 z)) (sign_stops 39 z refl e)) (λ _.
      if_after as_number K (starts_letter z) _ _ _ (λ e. dry_number (letter_at z) (letter_number z) (letter_stops z e)) (λ _. number_itself))))

-- and an identifier, where no equals sign follows
module _ {B : Type 0} (K : List ℕ → List ℕ → Option B) (equals : (x r : List ℕ) → starts 61 r ≡ true → K x r ≡ None) (z : List ℕ) where
  abbrev Identifiers : Taken LineWord → Type 0
  Identifiers t = OnTaken (λ w r. as_identifier w ≡ None) t

  dry_identifier : (t : Taken LineWord) → Identifiers t → starts_letter z ≡ false → after t (λ w r. given (as_identifier w) (λ x. K x r)) ≡ after (identifier_at z) K
  unfolding after
  dry_identifier t h s = rw (no_identifier z s) (dry as_identifier K t h)

  tilde_identifier : (y : List ℕ) → Identifiers (tilde_at y)
  tilde_identifier y = if_on (both (λ w r. as_identifier w ≡ None)) (starts_letter y) _ _ (λ c. bound_dry as_identifier K (λ v t. refl) Fresh y) (λ c.
      after_on (λ n r. ⊤) (both (λ w r. as_identifier w ≡ None)) (number_at y) _ (anything (number_at y)) (λ n r i. refl))

  public_identifier : (y : List ℕ) → Identifiers (public_word_at y)
  public_identifier y = after_on (λ s r. ⊤) (both (λ w r. as_identifier w ≡ None)) (content_at y) _ (anything (content_at y)) (λ s r i. refl)

  number_identifier : (y : List ℕ) → Identifiers (number_word_at y)
  number_identifier y = after_on (λ n r. ⊤) (both (λ w r. as_identifier w ≡ None)) (number_at y) _ (anything (number_at y)) (λ n r i. refl)

  identifier_itself : after (letter_at z) (λ w r. given (as_identifier w) (λ x. K x r)) ≡ after (identifier_at z) K
  unfolding after given
  identifier_itself = at (identifier_at z) where
    kept : (c : Bool) (x r : List ℕ) → starts 61 r ≡ c → after (if c then bound_at Msg z else Some (identifier x, r)) (λ w r. given (as_identifier w) (λ x. K x r)) ≡ K x r
    kept true x r e = dry as_identifier K (bound_at Msg z) (bound_dry as_identifier K (λ v t. refl) Msg z) ∙ sym (equals x r e)
    kept false x r e = refl

    at : (t : Taken (List ℕ)) → after (after t (λ x r. if starts 61 r then bound_at Msg z else Some (identifier x, r))) (λ w r. given (as_identifier w) (λ x. K x r)) ≡ after t K
    at None = refl
    at (Some p) = kept (starts 61 p.1) p.0 p.1 refl

  identifier_word : after (word_at z) (λ w r. given (as_identifier w) (λ x. K x r)) ≡ after (identifier_at z) K
  unfolding word_at
  identifier_word =
      if_after as_identifier K (starts 126 z) _ _ _ (λ e. dry_identifier (tilde_at (drop 1 z)) (tilde_identifier (drop 1 z)) (sign_letter 126 z refl e)) (λ _.
      if_after as_identifier K (starts 36 z) _ _ _ (λ e. dry_identifier (bound_at Pub (drop 1 z)) (bound_dry as_identifier K (λ v t. refl) Pub (drop 1 z)) (sign_letter 36 z refl e)) (λ _.
      if_after as_identifier K (starts 39 z) _ _ _ (λ e. dry_identifier (public_word_at (drop 1 z)) (public_identifier (drop 1 z)) (sign_letter 39 z refl e)) (λ _.
      if_after as_identifier K (starts_letter z) _ _ _ (λ e. identifier_itself) (λ e. dry_identifier (number_word_at z) (number_identifier z) e))))

-- so behind a blank
number_field : {B : Type 0} (K : ℕ → List ℕ → Option B) (z : List ℕ) → after (behind_blank word_at z) (λ w r. given (as_number w) (λ n. K n r)) ≡ after (number_behind z) K
number_field K z = blank_same (starts 32 z) (word_at (drop 1 z)) (number_at (drop 1 z)) _ _ (number_word K (drop 1 z))

identifier_field : {B : Type 0} (K : List ℕ → List ℕ → Option B) (z : List ℕ) → ((x r : List ℕ) → starts 61 r ≡ true → K x r ≡ None)
    → after (behind_blank word_at z) (λ w r. given (as_identifier w) (λ x. K x r)) ≡ after (behind_blank identifier_at z) K
identifier_field K z equals = blank_same (starts 32 z) (word_at (drop 1 z)) (identifier_at (drop 1 z)) _ _ (identifier_word K equals (drop 1 z))

name_field : {B : Type 0} (g : List ℕ → List LineWord → Option B) (z : List ℕ)
    → after (behind_blank word_at z) (λ w r. given (as_name w) (λ x. on_words (g x) r)) ≡ after (name_behind z) (λ x r. on_words (g x) r)
unfolding name_at given after
name_field {B = B} g z =
    after_same (behind_blank word_at z) _ _ (λ w r. held (as_identifier w) r) ∙ (identifier_field K z (λ x r e. none (is_run_name x) x r e) ∙ at (starts 32 z) (identifier_at (drop 1 z)))
  where
    K : List ℕ → List ℕ → Option B
    K x r = if is_run_name x then on_words (g x) r else None

    chosen : (c : Bool) (x r : List ℕ) → given (if c then Some x else None) (λ x. on_words (g x) r) ≡ (if c then on_words (g x) r else None)
    chosen true x r = refl
    chosen false x r = refl

    held : (o : Option (List ℕ)) (r : List ℕ) → given (given o (λ x. if is_run_name x then Some x else None)) (λ x. on_words (g x) r) ≡ given o (λ x. K x r)
    held None r = refl
    held (Some x) r = chosen (is_run_name x) x r

    none : (c : Bool) (x r : List ℕ) → starts 61 r ≡ true → (if c then on_words (g x) r else None) ≡ None
    none true x r e = on_equals (g x) r e
    none false x r e = refl

    taken : (c : Bool) (x r : List ℕ) → (if c then on_words (g x) r else None) ≡ after (if c then Some (x, r) else None) (λ x r. on_words (g x) r)
    taken true x r = refl
    taken false x r = refl

    names : (t : Taken (List ℕ)) → after t K ≡ after (after t (λ x r. if is_run_name x then Some (x, r) else None)) (λ x r. on_words (g x) r)
    names None = refl
    names (Some p) = taken (is_run_name p.0) p.0 p.1

    at : (c : Bool) (t : Taken (List ℕ)) → after (if c then t else None) K ≡ after (if c then after t (λ x r. if is_run_name x then Some (x, r) else None) else None) (λ x r. on_words (g x) r)
    at true t = names t
    at false t = refl

number_first_field : {B : Type 0} (k : ℕ → List LineWord → Option B) (z : List ℕ)
    → on_words (λ ws. given (number_first ws) (λ p. k p.0 p.1)) z ≡ after (number_behind z) (λ n r. on_words (k n) r)
number_first_field k z = first_step as_number (λ p. k p.0 p.1) z ∙ number_field (λ n r. on_words (k n) r) z

name_first_field : {B : Type 0} (k : List ℕ → List LineWord → Option B) (z : List ℕ)
    → on_words (λ ws. given (name_first ws) (λ p. k p.0 p.1)) z ≡ after (name_behind z) (λ x r. on_words (k x) r)
name_first_field k z = first_step as_name (λ p. k p.0 p.1) z ∙ name_field k z

-- the only word
pub only_none : (z : List ℕ) → behind_blank word_at z ≡ None → on_words only z ≡ None
unfolding after
only_none [] e = on_nothing only
only_none (b ∷ y) e = on_step only (b ∷ y) (omega arith) ∙ ap (λ (t : Taken LineWord). after t (λ w r. on_words (λ ws. only (w ∷ ws)) r)) e

pub only_some : (z r : List ℕ) (w : LineWord) → behind_blank word_at z ≡ Some (w, r) → on_words only z ≡ on_words (λ ws. only (w ∷ ws)) r
unfolding after
only_some [] r w e = absurd (cc)
only_some (b ∷ y) r w e = on_step only (b ∷ y) (omega arith) ∙ ap (λ (t : Taken LineWord). after t (λ w r. on_words (λ ws. only (w ∷ ws)) r)) e

pub only_last : (z r : List ℕ) (w : LineWord) → behind_blank word_at z ≡ Some (w, r) → r ≡ [] → on_words only z ≡ Some w
only_last z r w e f = only_some z r w e ∙ (ap (λ (y : List ℕ). on_words (λ ws. only (w ∷ ws)) y) f ∙ on_nothing (λ ws. only (w ∷ ws)))

pub only_more : (z r : List ℕ) (w : LineWord) → behind_blank word_at z ≡ Some (w, r) → 0 < length r → on_words only z ≡ None
only_more z r w e some = only_some z r w e ∙ (on_some (λ ws. only (w ∷ ws)) (λ ws. None) r some (λ u us. refl) ∙ on_none r)

pub only_number : (z : List ℕ) → on_words number_of z ≡ given (on_words only z) as_number
only_number z = on_given only as_number z

pub only_fresh : (z : List ℕ) → on_words fresh_of z ≡ given (on_words only z) as_fresh
only_fresh z = on_given only as_fresh z

pub only_public : (z : List ℕ) → on_words public_of z ≡ given (on_words only z) as_public
only_public z = on_given only as_public z

-- the numbers that stand first
abbrev apart : List LineWord → Option (List ℕ × List LineWord)
apart ws = Some (numbers_first ws, behind_numbers ws)

number_is_word : (z r : List ℕ) (n : ℕ) → number_behind z ≡ Some (n, r) → behind_blank word_at z ≡ Some (number n, r)
unfolding after given
number_is_word z r n e = at (behind_blank word_at z) (number_field {B = ℕ × List ℕ} (λ n r. Some (n, r)) z ∙ again (number_behind z) ∙ e) where
  again : (t : Taken ℕ) → after {B = ℕ × List ℕ} t (λ n r. Some (n, r)) ≡ t
  again None = refl
  again (Some p) = refl

  held : (w : LineWord) (y : List ℕ) (o : Option ℕ) → as_number w ≡ o → given {B = ℕ × List ℕ} o (λ n. Some (n, y)) ≡ Some (n, r) → ◌≡◌ {A = Taken LineWord} (Some (w, y)) (Some (number n, r))
  held w y None e f = absurd (cc)
  held w y (Some m) e f =
      let both : ◌≡◌ {A = ℕ × List ℕ} (m, y) (n, r) = cc in
      let same : m ≡ n = ap (λ (p : ℕ × List ℕ). p.0) both in
      let rest : y ≡ r = ap (λ (p : ℕ × List ℕ). p.1) both in
      let is : w ≡ number n = number_is w n (e ∙ ap Some same) in
      rw (is, rest) refl

  at : (t : Taken LineWord) → after {B = ℕ × List ℕ} t (λ w r. given {B = ℕ × List ℕ} (as_number w) (λ n. Some (n, r))) ≡ Some (n, r) → t ≡ Some (number n, r)
  at None f = absurd (cc)
  at (Some p) f = held p.0 p.1 (as_number p.0) refl f

no_number_word : (z : List ℕ) → number_behind z ≡ None → OnTaken (λ w r. as_number w ≡ None) (behind_blank word_at z)
unfolding after given
no_number_word z e = at (behind_blank word_at z) (number_field (λ n r. Some n) z ∙ ap (λ (t : Taken ℕ). after t (λ n r. Some n)) e) where
  held : (o : Option ℕ) → given o (λ n. Some n) ≡ None → o ≡ None
  held None f = refl
  held (Some m) f = absurd (cc)

  at : (t : Taken LineWord) → after t (λ w r. given (as_number w) (λ n. Some n)) ≡ None → OnTaken (λ w r. as_number w ≡ None) t
  at None f = tt
  at (Some p) f = held (as_number p.0) f

-- so far these numbers were taken, and these bytes are left
abbrev pub AreNumbersSoFar : List ℕ → List ℕ → List ℕ → Type 0
AreNumbersSoFar z ks r = numbers_apart z ≡ option_map {U = List ℕ × List LineWord} (λ q. (ks ++ q.0, q.1)) (numbers_apart r)

pub numbers_begin : (z : List ℕ) → AreNumbersSoFar z [] z
numbers_begin z = at (numbers_apart z) where
  at : (o : Option (List ℕ × List LineWord)) → o ≡ option_map {U = List ℕ × List LineWord} (λ q. ([] ++ q.0, q.1)) o
  at None = refl
  at (Some q) = refl

pub number_shorter : (z r : List ℕ) (n : ℕ) → number_behind z ≡ Some (n, r) → length r < length z
number_shorter [] r n e = absurd (cc)
number_shorter (b ∷ z) r n e = at (b == 32) e where
  at : (c : Bool) → (if c then number_at z else None) ≡ Some (n, r) → length r < length (b ∷ z)
  at false f = absurd (cc)
  at true f =
      let h = taken_on (λ n k. IsNumber n × (z ≡ decimal n ++ k)) (number_at z) n r f (number_on z) in
      let long : length z ≡ length (decimal n) + length r = ap length h.1 ∙ length-append (decimal n) r in
      omega (arith, long)

starts_blank : (z r : List ℕ) (n : ℕ) → number_behind z ≡ Some (n, r) → 0 < length z
starts_blank z r n e = let short = number_shorter z r n e in omega (arith, short)

pub numbers_go : (z ks r y : List ℕ) (n : ℕ) → AreNumbersSoFar z ks r → number_behind r ≡ Some (n, y) → AreNumbersSoFar z (ks ++ n ∷ []) y
unfolding given after on_words
numbers_go z ks r y n e f = e ∙ (ap (λ (o : Option (List ℕ × List LineWord)). option_map {U = List ℕ × List LineWord} (λ q. (ks ++ q.0, q.1)) o) one ∙ push (numbers_apart y)) where
  more : (o : Option (List LineWord)) → given {B = List ℕ × List LineWord} o (λ ws. Some (n ∷ numbers_first ws, behind_numbers ws)) ≡ option_map {U = List ℕ × List LineWord} (λ q. (n ∷ q.0, q.1)) (given o apart)
  more None = refl
  more (Some ws) = refl

  one : numbers_apart r ≡ option_map {U = List ℕ × List LineWord} (λ q. (n ∷ q.0, q.1)) (numbers_apart y)
  one = on_step apart r (starts_blank r y n f) ∙ (ap (λ (t : Taken LineWord). after t (λ w k. on_words (λ ws. apart (w ∷ ws)) k)) (number_is_word r y n f) ∙ more (more_words y))

  push : (o : Option (List ℕ × List LineWord)) → option_map {U = List ℕ × List LineWord} (λ q. (ks ++ q.0, q.1)) (option_map {U = List ℕ × List LineWord} (λ q. (n ∷ q.0, q.1)) o) ≡ option_map {U = List ℕ × List LineWord} (λ q. ((ks ++ n ∷ []) ++ q.0, q.1)) o
  push None = refl
  push (Some q) = rw (append_assoc ks (n ∷ []) q.0) refl

pub numbers_stop : (z ks r : List ℕ) → AreNumbersSoFar z ks r → number_behind r ≡ None → AreNumbersFirst z ks r
unfolding after given on_words
numbers_stop z ks r e f = e ∙ (ap (λ (o : Option (List ℕ × List LineWord)). option_map {U = List ℕ × List LineWord} (λ q. (ks ++ q.0, q.1)) o) (none r f) ∙ put (more_words r)) where
  held : (w : LineWord) (o : Option ℕ) (ws : List LineWord) → as_number w ≡ o → o ≡ None → apart (w ∷ ws) ≡ Some ([], w ∷ ws)
  held w None ws e f = rw e refl
  held w (Some m) ws e f = absurd (cc)

  behind : (t : Taken LineWord) → OnTaken (λ w k. as_number w ≡ None) t → after t (λ w k. on_words (λ ws. apart (w ∷ ws)) k) ≡ after t (λ w k. on_words {B = List ℕ × List LineWord} (λ ws. Some ([], w ∷ ws)) k)
  behind None h = refl
  behind (Some p) h = on_same (λ ws. apart (p.0 ∷ ws)) (λ ws. Some ([], p.0 ∷ ws)) p.1 (λ ws. held p.0 (as_number p.0) ws refl h)

  none : (y : List ℕ) → number_behind y ≡ None → numbers_apart y ≡ on_words {B = List ℕ × List LineWord} (λ ws. Some ([], ws)) y
  none [] g = on_nothing apart ∙ sym (on_nothing (λ ws. Some ([], ws)))
  none (b ∷ y) g =
      on_step apart (b ∷ y) (omega arith) ∙ (behind (behind_blank word_at (b ∷ y)) (no_number_word (b ∷ y) g) ∙ sym (on_step (λ ws. Some ([], ws)) (b ∷ y) (omega arith)))

  put : (o : Option (List LineWord)) → option_map {U = List ℕ × List LineWord} (λ q. (ks ++ q.0, q.1)) (given {B = List ℕ × List LineWord} o (λ ws. Some ([], ws))) ≡ given {B = List ℕ × List LineWord} o (λ ws. Some (ks, ws))
  put None = refl
  put (Some ws) = rw (append-nil ks) refl

numbers_use : {B : Type 0} (F : List ℕ → List LineWord → Option B) (z ks r : List ℕ) → AreNumbersFirst z ks r
    → on_words (λ ws. F (numbers_first ws) (behind_numbers ws)) z ≡ on_words (F ks) r
unfolding on_words given
numbers_use F z ks r e = at (more_words z) (more_words r) e where
  at : (o p : Option (List LineWord)) → given o apart ≡ given {B = List ℕ × List LineWord} p (λ ws. Some (ks, ws)) → given o (λ ws. F (numbers_first ws) (behind_numbers ws)) ≡ given p (F ks)
  at None None e = refl
  at None (Some us) e = absurd (cc)
  at (Some ws) None e = absurd (cc)
  at (Some ws) (Some us) e =
      let both : ◌≡◌ {A = List ℕ × List LineWord} (numbers_first ws, behind_numbers ws) (ks, us) = cc in
      let front : numbers_first ws ≡ ks = ap (λ (p : List ℕ × List LineWord). p.0) both in
      let back : behind_numbers ws ≡ us = ap (λ (p : List ℕ × List LineWord). p.1) both in
      rw (front, back) refl

pub numbers_whole : (z ks r : List ℕ) → AreNumbersFirst z ks r → r ≡ [] → Some ks ≡ on_words numbers_of z
numbers_whole z ks r e f =
    sym (numbers_use (λ ks ws. where_none ws ks) z ks r e ∙ (ap (λ (y : List ℕ). on_words (λ ws. where_none ws ks) y) f ∙ on_nothing (λ ws. where_none ws ks)))

pub numbers_not_whole : (z ks r : List ℕ) → AreNumbersFirst z ks r → 0 < length r → None ≡ on_words numbers_of z
numbers_not_whole z ks r e some =
    sym (numbers_use (λ ks ws. where_none ws ks) z ks r e ∙ (on_some (λ ws. where_none ws ks) (λ ws. None) r some (λ w ws. refl) ∙ on_none r))

uses_split : (z ks r : List ℕ) → AreNumbersFirst z ks r → on_words uses_of z ≡ given (on_words with_of r) (λ bs. Some (ks, bs))
unfolding uses_of
uses_split z ks r e =
    numbers_use (λ ks ws. given (with_of ws) (λ bs. Some (ks, bs))) z ks r e ∙ on_given with_of (λ bs. Some (ks, bs)) r

pub uses_none : (z ks r : List ℕ) → AreNumbersFirst z ks r → None ≡ on_words with_of r → None ≡ on_words uses_of z
unfolding given
uses_none z ks r e f = ap (λ (o : Option (List Binding)). given {B = List ℕ × List Binding} o (λ bs. Some (ks, bs))) f ∙ sym (uses_split z ks r e)

pub uses_some : (z ks r : List ℕ) (bs : List Binding) → AreNumbersFirst z ks r → Some bs ≡ on_words with_of r → Some (ks, bs) ≡ on_words uses_of z
unfolding given
uses_some z ks r bs e f = ap (λ (o : Option (List Binding)). given {B = List ℕ × List Binding} o (λ bs. Some (ks, bs))) f ∙ sym (uses_split z ks r e)

-- bindings
pub bindings_end : (bs : List Binding) (r : List ℕ) → r ≡ [] → on_words (bindings_onto bs) r ≡ Some bs
unfolding bindings_onto
bindings_end bs r e = ap (λ (y : List ℕ). on_words (bindings_onto bs) y) e ∙ on_nothing (bindings_onto bs)

bindings_step : (bs : List Binding) (z : List ℕ) → 0 < length z
    → on_words (bindings_onto bs) z ≡ after (binding_behind z) (λ b r. on_words (bindings_onto (bs ++ b ∷ [])) r)
unfolding bindings_onto given after
bindings_step bs z some = on_step (bindings_onto bs) z some ∙ at (behind_blank word_at z) where
  held : (o : Option Binding) (r : List ℕ) → on_words (λ ws. given o (λ b. bindings_onto (bs ++ b ∷ []) ws)) r ≡ after (given o (λ b. Some (b, r))) (λ b r. on_words (bindings_onto (bs ++ b ∷ [])) r)
  held None r = on_none r
  held (Some b) r = refl

  at : (t : Taken LineWord) → after t (λ w r. on_words (λ ws. given (as_bound w) (λ b. bindings_onto (bs ++ b ∷ []) ws)) r)
      ≡ after (after t (λ w r. given (as_bound w) (λ b. Some (b, r)))) (λ b r. on_words (bindings_onto (bs ++ b ∷ [])) r)
  at None = refl
  at (Some p) = held (as_bound p.0) p.1

pub bindings_stop : (bs : List Binding) (z : List ℕ) → 0 < length z → binding_behind z ≡ None → on_words (bindings_onto bs) z ≡ None
unfolding after
bindings_stop bs z some e = bindings_step bs z some ∙ ap (λ (t : Taken Binding). after t (λ b r. on_words (bindings_onto (bs ++ b ∷ [])) r)) e

pub bindings_go : (bs : List Binding) (z r : List ℕ) (b : Binding) → 0 < length z → binding_behind z ≡ Some (b, r)
    → on_words (bindings_onto bs) z ≡ on_words (bindings_onto (bs ++ b ∷ [])) r
unfolding after
bindings_go bs z r b some e = bindings_step bs z some ∙ ap (λ (t : Taken Binding). after t (λ b r. on_words (bindings_onto (bs ++ b ∷ [])) r)) e

pub binding_shorter : (z r : List ℕ) (b : Binding) → binding_behind z ≡ Some (b, r) → length r < length z
unfolding after given
binding_shorter [] r b e = absurd (none e) where
  none : after {B = Binding × List ℕ} (behind_blank word_at []) (λ w k. given {B = Binding × List ℕ} (as_bound w) (λ b. Some (b, k))) ≡ Some (b, r) → ⊥
  none e = cc
binding_shorter (c ∷ z) r b e = at (c == 32) e where
  held : (o : Option Binding) (k : List ℕ) → given {B = Binding × List ℕ} o (λ b. Some (b, k)) ≡ Some (b, r) → k ≡ r
  held None k f = absurd (cc)
  held (Some a) k f =
      let same : ◌≡◌ {A = Binding × List ℕ} (a, k) (b, r) = cc in
      ap (λ (p : Binding × List ℕ). p.1) same

  word : (t : Taken LineWord) → word_at z ≡ t → after {B = Binding × List ℕ} t (λ w k. given {B = Binding × List ℕ} (as_bound w) (λ b. Some (b, k))) ≡ Some (b, r) → length r < length (c ∷ z)
  word None f g = absurd (cc)
  word (Some p) f g =
      let short : length p.1 < length z = shorter z p.1 p.0 f in
      let same : length p.1 ≡ length r = ap length (held (as_bound p.0) p.1 g) in
      omega (arith, short, same)

  at : (t : Bool) → after {B = Binding × List ℕ} (if t then word_at z else None) (λ w k. given {B = Binding × List ℕ} (as_bound w) (λ b. Some (b, k))) ≡ Some (b, r) → length r < length (c ∷ z)
  at false f = absurd (cc)
  at true f = word (word_at z) refl f

pub some_bindings_none : (z : List ℕ) → z ≡ [] → None ≡ on_words some_bindings z
some_bindings_none z e = sym (ap (λ (y : List ℕ). on_words some_bindings y) e ∙ on_nothing some_bindings)

pub some_bindings_are : (z : List ℕ) → 0 < length z → on_words some_bindings z ≡ on_words bindings_of z
some_bindings_are z some = on_some some_bindings bindings_of z some (λ w ws. refl)

pub with_none : (z : List ℕ) → z ≡ [] → Some [] ≡ on_words with_of z
with_none z e = sym (ap (λ (y : List ℕ). on_words with_of y) e ∙ on_nothing with_of)

pub with_is : (z : List ℕ) → 0 < length z → on_words with_of z ≡ given (behind_with z) (on_words some_bindings)
unfolding given after
with_is z some =
    on_step with_of z some ∙ (after_same (behind_blank word_at z) _ _ (λ w r. held (as_identifier w) r) ∙ (identifier_field K z (λ x r e. none (bytes_eq x (codes "with")) r e) ∙ at (behind_blank identifier_at z)))
  where
    K : List ℕ → List ℕ → Option (List Binding)
    K x r = if bytes_eq x (codes "with") then on_words some_bindings r else None

    chosen : (c : Bool) (r : List ℕ) → on_words (λ ws. if c then some_bindings ws else None) r ≡ (if c then on_words some_bindings r else None)
    chosen true r = refl
    chosen false r = on_none r

    held : (o : Option (List ℕ)) (r : List ℕ) → on_words (λ ws. if is_with o then some_bindings ws else None) r ≡ given o (λ x. K x r)
    held None r = on_none r
    held (Some x) r = chosen (bytes_eq x (codes "with")) r

    none : (c : Bool) (r : List ℕ) → starts 61 r ≡ true → (if c then on_words some_bindings r else None) ≡ None
    none true r e = on_equals some_bindings r e
    none false r e = refl

    taken : (c : Bool) (r : List ℕ) → (if c then on_words some_bindings r else None) ≡ given (if c then Some r else None) (on_words some_bindings)
    taken true r = refl
    taken false r = refl

    at : (t : Taken (List ℕ)) → after t K ≡ given (after t (λ x r. if bytes_eq x (codes "with") then Some r else None)) (on_words some_bindings)
    at None = refl
    at (Some p) = taken (bytes_eq p.0 (codes "with")) p.1

pub with_some : (z r : List ℕ) → 0 < length z → Some r ≡ behind_with z → on_words with_of z ≡ on_words some_bindings r
unfolding given
with_some z r some e = with_is z some ∙ ap (λ (o : Option (List ℕ)). given o (on_words some_bindings)) (sym e)

-- a name and numbers; a name, facts and bindings
pub applied_split : (z : List ℕ) → on_words applied_of z ≡ after (name_behind z) (λ x r. given (on_words numbers_of r) (λ ks. Some (x, ks)))
unfolding applied_of
applied_split z =
    name_first_field (λ x ws. given (numbers_of ws) (λ ks. Some (x, ks))) z ∙ after_same (name_behind z) _ _ (λ x r. on_given numbers_of (λ ks. Some (x, ks)) r)

pub named_split : (z : List ℕ) → on_words named_of z ≡ after (name_behind z) (λ x r. given (on_words uses_of r) (λ u. Some (x, u.0, u.1)))
unfolding named_of
named_split z =
    name_first_field (λ x ws. given (uses_of ws) (λ u. Some (x, u.0, u.1))) z ∙ after_same (name_behind z) _ _ (λ x r. on_given uses_of (λ u. Some (x, u.0, u.1)) r)

-- steps of a process
pub behind_none : (x : List ℕ) (t : ℕ) (z : List ℕ) → z ≡ [] → process_one x t ≡ on_words (process_behind x t) z
behind_none x t z e = sym (ap (λ (y : List ℕ). on_words (process_behind x t) y) e ∙ on_nothing (process_behind x t))

pub behind_some : (x : List ℕ) (t : ℕ) (z : List ℕ) → 0 < length z → on_words (process_behind x t) z ≡ given (on_words number_of z) (process_two x t)
behind_some x t z some =
    on_some (process_behind x t) (λ ws. given (number_of ws) (process_two x t)) z some (λ w ws. refl) ∙ on_given number_of (process_two x t) z

pub numbered_split : (x z : List ℕ) → on_words (process_numbered x) z ≡ after (number_behind z) (λ t r. on_words (process_behind x t) r)
numbered_split x z = number_first_field (process_behind x) z

pub new_split : (z : List ℕ) → on_words new_of z ≡ after (number_behind z) (λ t r. given (on_words fresh_of r) (λ n. Some (step.New t n)))
new_split z =
    number_first_field (λ t ws. given (fresh_of ws) (λ n. Some (step.New t n))) z ∙ after_same (number_behind z) _ _ (λ t r. on_given fresh_of (λ n. Some (step.New t n)) r)

pub embedded_split : (z : List ℕ) → on_words embedded_of z ≡ after (number_behind z) (λ t r. given (on_words uses_of r) (λ u. Some (step.Embedded t u.0 u.1)))
embedded_split z =
    number_first_field (λ t ws. given (uses_of ws) (λ u. Some (step.Embedded t u.0 u.1))) z ∙ after_same (number_behind z) _ _ (λ t r. on_given uses_of (λ u. Some (step.Embedded t u.0 u.1)) r)

pub rule_numbered_split : (x z : List ℕ) → on_words (rule_numbered x) z ≡ given (on_words number_of z) (rule_one x)
rule_numbered_split x z = on_given number_of (rule_one x) z

-- the whole line
if_words : {B : Type 0} (c : Bool) (f g : List LineWord → Option B) (r : List ℕ) (o p : Option B) → on_words f r ≡ o → on_words g r ≡ p → on_words (λ ws. if c then f ws else g ws) r ≡ (if c then o else p)
if_words true f g r o p e h = e
if_words false f g r o p e h = h

line_first : {B : Type 0} (f : List ℕ → List LineWord → Option B) (g : List ℕ → List ℕ → Option B) (z : List ℕ) → ((x r : List ℕ) → on_words (f x) r ≡ g x r)
    → given (words_of z) (λ ws. given (word_first ws) (λ p. f p.0 p.1)) ≡ after (identifier_at z) g
unfolding given
line_first f g z same =
    words_first (λ ws. given (word_first ws) (λ p. f p.0 p.1)) z ∙ (after_same (word_at z) _ _ (λ w r. held (as_identifier w) r) ∙ (identifier_word (λ x r. on_words (f x) r) (λ x r e. on_equals (f x) r e) z ∙ after_same (identifier_at z) _ _ same))
  where
    held : (o : Option (List ℕ)) (r : List ℕ) → on_words (λ ws. given (given {B = List ℕ × List LineWord} o (λ x. Some (x, ws))) (λ p. f p.0 p.1)) r ≡ given o (λ x. on_words (f x) r)
    held None r = on_none r
    held (Some x) r = refl

pub process_line_is : (z : List ℕ) → given (words_of z) process_step_of ≡ process_line_of z
unfolding process_step_of
process_line_is z = line_first process_named process_named_at z (λ x r.
    if_words (bytes_eq x (codes "rule")) embedded_of _ r _ _ refl
    (if_words (bytes_eq x (codes "app")) _ _ r _ _ (on_given applied_of _ r)
    (if_words (bytes_eq x (codes "pub")) _ _ r _ _ (on_given public_of _ r)
    (if_words (bytes_eq x (codes "name")) _ _ r _ _ (on_given fresh_of _ r)
    (if_words (bytes_eq x (codes "new")) new_of (process_numbered x) r _ _ refl refl)))))

pub rule_line_is : (z : List ℕ) → given (words_of z) rule_step_of ≡ rule_line_of z
unfolding rule_step_of
rule_line_is z = line_first rule_named rule_named_at z (λ x r.
    if_words (bytes_eq x (codes "rule")) _ _ r _ _ (on_given named_of _ r)
    (if_words (bytes_eq x (codes "app")) _ _ r _ _ (on_given applied_of _ r)
    (if_words (bytes_eq x (codes "pub")) _ _ r _ _ (on_given public_of _ r)
    (if_words (bytes_eq x (codes "fresh")) _ (rule_numbered x) r _ _ (on_given fresh_of _ r) refl))))
