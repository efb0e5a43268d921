-- The words of bytes: by their tokens, and piece by piece.
use Rattle.std.proofs.Common.{◌≡◌, ◌≤◌, ◌-◌, ◌+◌, max, ℕ, Bool, true, false, List, [], ◌∷◌, ◌++◌, append_assoc, length, take, drop, refl, sym, ap, subst, ◌∙◌, arith}
use Rattle.std.specs.Prelude.{Ok, Err, ⊤, ◌||◌, ◌==◌}
use Rattle.std.specs.List.{list_all}
use Rattle.std.specs.Char.{is_ascii_alphabetic, is_ascii_digit}
use Rattle.std.proofs.lemmas.Grind.{common_steps}
use Rattle.sap_text.specs.declared.token.Kind.{Kind}
use Rattle.sap_text.specs.declared.token.Kind.TheVariants as kind
use Rattle.sap_text.specs.declared.token.Token.{Token}
use Rattle.sap_text.specs.Tokens.{is_word, is_content, line_feeds, counted, IsToken, quoted, IsLongest, blank, Stops, stands_alone, Lexed, before, IsLexed, ended, skipped, taken, long, failed}
use Rattle.sap_grammar.specs.Words as words
use Rattle.sap_grammar.specs.Words.{Word, mark, name, number, word_of_text, words_of, is_grammar_word}
use Rattle.sap_grammar.specs.ByteWords.{AreWords, words_end, words_skip, words_token, IsName, IsContent, IsWord, AreTokenWords, Ends, AreWritten}

-- the words of the tokens of bytes that stand behind others
abbrev Told : ℕ → List ℕ → List ℕ → Lexed → Type 0
Told most all z (Ok ts) = AreWords most z (words_of all ts)
Told most all z (Err f) = ⊤

token_text : (y p b all : List ℕ) (at : ℕ) → all ≡ y ++ (p ++ b) → length y ≡ at → take (at + length p - at) (drop at all) ≡ p
token_text y p b all at e f =
    let size : at + length p - at ≡ length p = omega arith in
    rw (size, e, sym f) (grind (arith, common_steps))

-- what tokens tell
lexed_words : {most at line : ℕ} {z : List ℕ} {o : Lexed} → IsLexed most at line z o → (y all : List ℕ) → all ≡ y ++ z → length y ≡ at → Told most all z o
lexed_words ended y all e f = words_end
lexed_words {most = most} (skipped {at = at} {p = p} {b = b} {o = o} s r) y all e f =
    go o (lexed_words r (y ++ p) all (e ∙ sym (append_assoc y p b)) (grind (arith, common_steps)))
  where
    go : (o : Lexed) → Told most all b o → Told most all (p ++ b) o
    go (Ok ts) r = words_skip s r
    go (Err f) r = tt
lexed_words {most = most} (taken {at = at} {line = line} {k = k} {p = p} {b = b} {o = o} l le r) y all e f =
    go o (lexed_words r (y ++ p) all (e ∙ sym (append_assoc y p b)) (grind (arith, common_steps)))
  where
    go : (o : Lexed) → Told most all b o → Told most all (p ++ b) (before (record { kind = k; from = at; to = at + length p; line = line }) o)
    go (Ok ts) r = subst (λ (x : List ℕ). AreWords most (p ++ b) (word_of_text k x ∷ words_of all ts)) (sym (token_text y p b all at e f)) (words_token l le r)
    go (Err f) r = tt
lexed_words (long l lt) y all e f = tt
lexed_words (failed s) y all e f = tt

-- the words of the bytes that have these tokens
pub tokens_words : (most : ℕ) (z : List ℕ) (ts : List Token) → IsLexed most 0 1 z (Ok ts) → AreWords most z (words_of z ts)
tokens_words most z ts r = lexed_words r [] z refl refl

-- bytes that are words have tokens of these words
words_lexed : {most : ℕ} {z : List ℕ} {ws : List Word} → AreWords most z ws → (y all : List ℕ) (at line : ℕ) → all ≡ y ++ z → length y ≡ at
    → (ts : List Token) × IsLexed most at line z (Ok ts) × (words_of all ts ≡ ws)
words_lexed words_end y all at line e f = ([], ended, refl)
words_lexed (words_skip {p = p} {b = b} s r) y all at line e f =
    let more = words_lexed r (y ++ p) all (at + length p) (line + line_feeds p) (e ∙ sym (append_assoc y p b)) (grind (arith, common_steps)) in
    (more.0, skipped s more.1, more.2)
words_lexed (words_token {k = k} {p = p} {b = b} {ws = ws} l le r) y all at line e f =
    let more = words_lexed r (y ++ p) all (at + length p) line (e ∙ sym (append_assoc y p b)) (grind (arith, common_steps)) in
    let t : Token = record { kind = k; from = at; to = at + length p; line = line } in
    (t ∷ more.0, taken l le more.1, λ i. word_of_text k (token_text y p b all at e f i) ∷ more.2 i)

-- the tokens of bytes that are words
pub words_tokens : (most : ℕ) (z : List ℕ) (ws : List Word) → AreWords most z ws → (ts : List Token) × IsLexed most 0 1 z (Ok ts) × (words_of z ts ≡ ws)
words_tokens most z ws r = words_lexed r [] z 0 1 refl refl

-- a greater limit of names
pub more_room : {m k : ℕ} {z : List ℕ} {ws : List Word} → AreWords m z ws → m ≤ k → AreWords k z ws
more_room words_end le = words_end
more_room (words_skip s r) le = words_skip s (more_room r le)
more_room (words_token l fits r) le = words_token l (omega (arith, fits, le)) (more_room r le)

-- bytes are one list of words
pub one_list : ((most : ℕ) (z : List ℕ) (o u : Lexed) → IsLexed most 0 1 z o → IsLexed most 0 1 z u → o ≡ u) → {m k : ℕ} {z : List ℕ} {ws vs : List Word} → AreWords m z ws → AreWords k z vs → ws ≡ vs
one_list one_answer {m = m} {k = k} {z = z} {ws = ws} {vs = vs} r s =
    let one = words_tokens (max m k) z ws (more_room r (omega arith)) in
    let two = words_tokens (max m k) z vs (more_room s (omega arith)) in
    let same : ◌≡◌ {A = Lexed} (Ok one.0) (Ok two.0) = one_answer (max m k) z (Ok one.0) (Ok two.0) one.1 two.1 in
    let tokens : one.0 ≡ two.0 = cc in
    sym one.2 ∙ (ap (λ (ts : List Token). words_of z ts) tokens ∙ two.2)

-- what the law of longest tokens says
pub record AreLongest : Type 0 where
  pub names : (p b : List ℕ) → IsToken kind.Ident p → Stops is_word b → IsLongest kind.Ident p b
  pub numbers : (p b : List ℕ) → IsToken kind.Number p → Stops is_ascii_digit b → IsLongest kind.Number p b
  pub contents : (s b : List ℕ) → list_all is_content s ≡ true → IsLongest kind.Quoted (39 ∷ (s ++ (39 ∷ []))) b
  pub symbols : (s b : List ℕ) → stands_alone s b ≡ true → IsLongest kind.Symbol s b

module _ (tokens : AreLongest) (most : ℕ) where
  add_name : (x z : List ℕ) (k : List Word) → IsName most x → Ends z → AreWords most z k → AreWords most (x ++ z) (name x ∷ k)
  add_name x z k h ends r =
      subst (λ (w : Word). AreWords most (x ++ z) (w ∷ k)) (is_name h.no_grammar_word) (words_token (tokens.names x z h.is ends) h.short r)
    where
      is_name : is_grammar_word x ≡ false → word_of_text kind.Ident x ≡ name x
      is_name e = rw e refl

  -- a word of the grammar
  add_word : (x z : List ℕ) (k : List Word) → IsToken kind.Ident x → is_grammar_word x ≡ true → length x ≤ most → Ends z → AreWords most z k → AreWords most (x ++ z) (mark x ∷ k)
  add_word x z k h e le ends r =
      subst (λ (w : Word). AreWords most (x ++ z) (w ∷ k)) (is_word_mark e) (words_token (tokens.names x z h ends) le r)
    where
      is_word_mark : is_grammar_word x ≡ true → word_of_text kind.Ident x ≡ mark x
      is_word_mark e = rw e refl

  -- no digit stands first, where no letter, digit or `_` does
  no_digit : (z : List ℕ) → Ends z → Stops is_ascii_digit z
  no_digit [] e = tt
  no_digit (x ∷ z) e = last (is_ascii_alphabetic x) (is_ascii_digit x) (x == 95) e
    where
      last : (a b c : Bool) → ((a || b) || c) ≡ false → b ≡ false
      last a false c e = refl
      last true true c e = absurd (cc (e))
      last false true c e = absurd (cc (e))

  add_number : (n z : List ℕ) (k : List Word) → IsToken kind.Number n → length n ≤ most → Ends z → AreWords most z k → AreWords most (n ++ z) (number n ∷ k)
  add_number n z k is le ends r = words_token (tokens.numbers n z is (no_digit z ends)) le r

  add_quoted : (s z : List ℕ) (k : List Word) → IsContent most s → AreWords most z k → AreWords most (39 ∷ (s ++ (39 ∷ z))) (words.quoted s ∷ k)
  add_quoted s z k h r =
      let text : List ℕ = 39 ∷ (s ++ (39 ∷ [])) in
      let size : length text - 2 ≡ length s = size_is s in
      let all : text ++ z ≡ 39 ∷ (s ++ (39 ∷ z)) = ap (λ (x : List ℕ). 39 ∷ x) (append_assoc s (39 ∷ []) z) in
      let fits : counted kind.Quoted (length text) ≤ most = omega (arith, size, h.short) in
      let here : AreWords most (text ++ z) (word_of_text kind.Quoted text ∷ k) = words_token (tokens.contents s z h.is) fits r in
      subst (λ (w : Word). AreWords most (39 ∷ (s ++ (39 ∷ z))) (w ∷ k)) (content s) (subst (λ (x : List ℕ). AreWords most x (word_of_text kind.Quoted text ∷ k)) all here)
    where
      size_is : (s : List ℕ) → length (39 ∷ (s ++ (39 ∷ []))) - 2 ≡ length s
      size_is s = grind (arith, common_steps)

      content : (s : List ℕ) → word_of_text kind.Quoted (39 ∷ (s ++ (39 ∷ []))) ≡ words.quoted s
      content s = ap words.quoted (rw (size_is s) (grind (arith, common_steps)))

  pub are_written : AreWritten most
  are_written = record {
    names = add_name;
    grammar_words = add_word;
    numbers = add_number;
    contents = add_quoted;
    symbols = λ s z k alone r. words_token (tokens.symbols s z alone) (omega arith) r;
    blanks = λ b z k is r. words_skip {p = b ∷ []} (blank is) r;
  }

module _ (most : ℕ) where
  token_word : (k : Kind) (p : List ℕ) → IsToken k p → counted k (length p) ≤ most → IsWord most (word_of_text k p)
  token_word kind.Ident p is le = by_word (is_grammar_word p) refl
    where
      by_word : (c : Bool) → is_grammar_word p ≡ c → IsWord most (word_of_text kind.Ident p)
      by_word true e = rw e tt
      by_word false e = rw e (record { is = is; no_grammar_word = e; short = le })
  token_word kind.Number p is le = tt
  token_word kind.Quoted p (quoted z all) le =
      let size : length (39 ∷ (z ++ (39 ∷ []))) - 2 ≡ length z = size_is z in
      let same : take (length (39 ∷ (z ++ (39 ∷ []))) - 2) (z ++ (39 ∷ [])) ≡ z = rw size (content z) in
      subst (λ (x : List ℕ). IsContent most x) (sym same) (record { is = all; short = omega (arith, size, le) })
    where
      size_is : (s : List ℕ) → length (39 ∷ (s ++ (39 ∷ []))) - 2 ≡ length s
      size_is s = grind (arith, common_steps)

      content : (s : List ℕ) → take (length s) (s ++ (39 ∷ [])) ≡ s
      content s = grind (arith, common_steps)
  token_word kind.Symbol p is le = tt

  pub all_token_words : {z : List ℕ} {ws : List Word} → AreWords most z ws → AreTokenWords most ws
  all_token_words words_end = tt
  all_token_words (words_skip s r) = all_token_words r
  all_token_words (words_token {k = k} {p = p} l le r) = (token_word k p l.is le, all_token_words r)
