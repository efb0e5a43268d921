-- The words of terms and facts follow the table, with their levels.
use Rattle.std.proofs.Common.{◌≡◌, ◌≤◌, ◌+◌, ℕ, Bool, true, false, List, [], ◌∷◌, ◌++◌, Some, refl, subst, arith}
use Rattle.std.specs.Prelude.{codes, max, if◌then◌else◌}
use Rattle.std.proofs.lemmas.List.Elements.{All-head, All-tail}
use Rattle.sap_terms.specs.declared.fact.Fact.{Fact}
use Rattle.sap_terms.specs.Signature.{Sig}
use Rattle.sap_terms.specs.Tree.{Tree, apply, fresh, level_count, public, trees_levels, trees_of, variable}
use Rattle.sap_grammar.specs.Words.{Word, is_lower, is_upper, mark, name}
use Rattle.sap_grammar.proofs.ReadingLaws.Limits.{fits}
use Rattle.sap_grammar.specs.Sizes.{AreSmall, IsSmall}
use Rattle.sap_grammar.specs.TermGrammar.{IsArgs, IsList, IsRest, IsTerm, args_none, args_some, list_last, list_more, rest_last, rest_more, term_constant, term_fresh, term_message, term_pub, term_quoted, term_symbol, term_tuple}
use Rattle.sap_grammar.specs.FactGrammar.{AreFacts, AreSomeFacts, IsFact, IsShortFact, fact_linear, fact_persistent, facts_last, facts_more, facts_none, facts_some}
use Rattle.sap_draft.specs.declared.limits.TheConstants.{FILE_LIMITS}
use Rattle.sap_expect.specs.declared.wanted.Change.TheVariants.{One}
use Rattle.sap_expect.specs.declared.wanted.Limit.{Limit}
use Rattle.sap_expect.specs.declared.wanted.Limit.TheVariants.{Same}
use Rattle.sap_expect.specs.declared.wanted.Part.{Part}
use Rattle.sap_expect.specs.declared.wanted.Part.TheVariants.{Application, Fact as AFact, Facts, MoreFacts, MoreParts, MoreShown, MoreTerms, Shown, Term, Terms}
use Rattle.sap_expect.specs.declared.wanted.Test.TheVariants.{Always}
use Rattle.sap_expect.specs.FileTable.{Open, Reads, level, part, reads_word, row}
use Rattle.sap_expect.proofs.OnRows.{NoRow, NotNone, instead, on_level, on_nth, on_row, on_word}

-- where something is wanted there is a word
pub word_there : {n : ℕ} {v : Open} {vs : List Open} {ws : List Word} → Reads n (v ∷ vs) ws → NotNone ws
word_there (reads_word t r) = tt

pub word_of : (p : Part) (ws : List Word) → NoRow p ws → NotNone ws
word_of p [] never = never
word_of p (w ∷ ws) never = tt

-- with equally many levels
pub at : {j k : ℕ} {vs : List Open} {ws : List Word} → j ≡ k → Reads j vs ws → Reads k vs ws
at {vs = vs} {ws = ws} e r = subst (λ (i : ℕ). Reads i vs ws) e r

-- a term has a level
pub has_level : (t : Tree) → 1 ≤ level_count t
has_level (variable v) = omega arith
has_level (public x) = omega arith
has_level (fresh i) = omega arith
has_level (apply f ts) = omega arith

-- a fact without `!`, of small terms
pub data IsPlain (g : Sig) : List Word → List Word → Type 0 where
  plain : {x : List ℕ} {ts : List Tree} {a b : List Word} → is_upper x ≡ true → trees_levels (trees_of ts) ≤ FILE_LIMITS.term_levels → IsArgs g ts a b → IsPlain g (name x ∷ mark (codes "(") ∷ a) b

-- the terms of facts have no more levels than a file's terms
pub small_levels : (ts : List Tree) → AreSmall FILE_LIMITS ts → trees_levels (trees_of ts) ≤ FILE_LIMITS.term_levels
small_levels [] h = omega arith
small_levels (t ∷ ts) h =
    let first = (All-head (IsSmall FILE_LIMITS) t ts h).few_levels in
    omega (arith, first, small_levels ts (All-tail (IsSmall FILE_LIMITS) t ts h))

pub plain_of : {g : Sig} {f : Fact} {a b : List Word} → IsShortFact g FILE_LIMITS false f a b → IsPlain g a b
plain_of {f = f} s = plain_by s.spelled s.sign (small_levels f.args s.small)
  where
    plain_by : {g : Sig} {f : Fact} {a b : List Word} → IsFact g f a b → (f.persistent ≡ true → false ≡ true) → trees_levels (trees_of f.args) ≤ FILE_LIMITS.term_levels → IsPlain g a b
    plain_by (fact_linear up s) never few = plain up few s
    plain_by (fact_persistent up s) never few = absurd (false_true (never refl))
      where
        false_true : false ≡ true → ⊥
        false_true e = absurd (cc)

-- the row of a symbol's name, and that of another
lower_row : (x : List ℕ) (b : Bool) → is_lower x ≡ b → row Term (name x) ≡ Some (Always, if b then part Application Same ∷ [] else level One ∷ [])
lower_row x true e = rw e refl
lower_row x false e = rw e refl

module _ (r : List Word) where
  pub name_follows : (x : List ℕ) {n m : ℕ} {l : Limit} {vs : List Open} (b : List Word) → NoRow Application b → Reads 1 vs b → Reads n ((part Term l, m) ∷ vs) (name x ∷ b)
  name_follows x {n = n} {m = m} {l = l} {vs = vs} b never h = by (is_lower x) refl
    where
      by : (c : Bool) → is_lower x ≡ c → Reads n ((part Term l, m) ∷ vs) (name x ∷ b)
      by true e = on_row (lower_row x true e) refl (instead b refl refl never (on_level b (word_of Application b never) h))
      by false e = on_row (lower_row x false e) refl (on_level b (word_of Application b never) h)

  mutual
    pub term_follows : {g : Sig} {t : Tree} {a b : List Word} {n m : ℕ} {l : Limit} {vs : List Open} → IsTerm g t a b → level_count t ≤ m → NoRow Application (b ++ r)
        → Reads (level_count t) vs (b ++ r) → Reads n ((part Term l, m) ∷ vs) (a ++ r)
    term_follows (term_constant {x = x} {a = a} is) le never h = name_follows x (a ++ r) never h
    term_follows (term_message {x = x} {a = a} free) le never h = name_follows x (a ++ r) never h
    term_follows {b = b} term_fresh le never h = on_row refl refl (on_word refl (on_level (b ++ r) (word_of Application (b ++ r) never) h))
    term_follows {b = b} term_pub le never h = on_row refl refl (on_word refl (on_level (b ++ r) (word_of Application (b ++ r) never) h))
    term_follows {b = b} term_quoted le never h = on_row refl refl (on_level (b ++ r) (word_of Application (b ++ r) never) h)
    term_follows {b = b} (term_symbol {f = f} {ts = ts} low s) le never h =
        on_row (lower_row f true low) refl (on_row refl refl (args_follow s (omega (arith, le)) (on_level (b ++ r) (word_of Application (b ++ r) never) h)))
    term_follows {b = b} {m = m} (term_tuple {t = t} {u = u} s q) le never h =
        let one = has_level t in
        on_row refl (fits 2 m (omega (arith, le, one)))
        (term_follows s (omega (arith, le)) refl
        (on_row refl refl (rest_follows q (omega (arith, le)) (on_level (b ++ r) (word_of Application (b ++ r) never) (at (omega arith) h)))))

    -- the parts of a tuple behind its first comma
    pub rest_follows : {g : Sig} {t : Tree} {a b : List Word} {n m : ℕ} {l l' : Limit} {v : Open} {vs : List Open} → IsRest g t a b → level_count t ≤ m → Reads (level_count t) (v ∷ vs) (b ++ r)
        → Reads n ((part Term l, m) ∷ (part MoreParts l', m) ∷ v ∷ vs) (a ++ r)
    rest_follows (rest_last s) le h = term_follows s le refl (on_row refl refl h)
    rest_follows {b = b} {m = m} (rest_more {t = t} {u = u} s q) le h =
        let one = has_level t in
        term_follows s (omega (arith, le)) refl
        (on_row refl (fits (level_count t + 1) m (omega (arith, le)))
        (rest_follows q (omega (arith, le)) (on_level (b ++ r) (word_there h) (at (omega arith) h))))

    -- terms behind a comma, where those before them have so many levels
    more_follow : {g : Sig} {ts : List Tree} {a b : List Word} (n : ℕ) {m : ℕ} {l : Limit} {vs : List Open} → IsList g ts a b → trees_levels (trees_of ts) ≤ m
        → Reads (max n (trees_levels (trees_of ts))) vs (b ++ r) → Reads n ((part MoreTerms l, m) ∷ vs) (mark (codes ",") ∷ (a ++ r))
    more_follow {a = a} n (list_last {t = t} {b = b} s) le h =
        on_row refl refl (term_follows s (omega (arith, le)) refl (on_level (mark (codes ")") ∷ (b ++ r)) tt (on_row refl refl (at (omega arith) h))))
    more_follow n (list_more {t = t} {ts = ts} {b = b} s q) le h =
        on_row refl refl (term_follows s (omega (arith, le)) refl (on_level (mark (codes ",") ∷ (b ++ r)) tt
        (more_follow (max n (level_count t)) q (omega (arith, le)) (at (omega arith) h))))

    pub list_follows : {g : Sig} {ts : List Tree} {a b : List Word} {n m : ℕ} {l l' : Limit} {vs : List Open} → IsList g ts a b → trees_levels (trees_of ts) ≤ m
        → Reads (trees_levels (trees_of ts)) vs (b ++ r) → Reads n ((part Term l, m) ∷ (part MoreTerms l', m) ∷ vs) (a ++ r)
    list_follows (list_last s) le h = term_follows s (omega (arith, le)) refl (on_row refl refl (at (omega arith) h))
    list_follows (list_more {t = t} s q) le h = term_follows s (omega (arith, le)) refl (more_follow (level_count t) q (omega (arith, le)) h)

    pub args_follow : {g : Sig} {ts : List Tree} {a b : List Word} {n m : ℕ} {l : Limit} {v : Open} {vs : List Open} → IsArgs g ts a b → trees_levels (trees_of ts) ≤ m
        → Reads (trees_levels (trees_of ts)) (v ∷ vs) (b ++ r) → Reads n ((part Terms l, m) ∷ v ∷ vs) (a ++ r)
    args_follow {b = b} args_none le h = on_row refl refl (on_level (b ++ r) (word_there h) h)
    args_follow {m = m} (args_some {ts = ts} {a = a} s) le h = instead (a ++ r) refl (fits 1 m (omega (arith, le, has_levels s))) (no_end s) (list_follows s le h)

    has_levels : {g : Sig} {ts : List Tree} {a b : List Word} → IsList g ts a b → 1 ≤ trees_levels (trees_of ts)
    has_levels (list_last {t = t} s) = omega (arith, has_level t)
    has_levels (list_more {t = t} s q) = omega (arith, has_level t)

    -- no list of terms begins with a parenthesis
    no_end : {g : Sig} {ts : List Tree} {a b : List Word} → IsList g ts a b → NoRow Terms (a ++ r)
    no_end (list_last s) = no_end_of s
    no_end (list_more s q) = no_end_of s

    no_end_of : {g : Sig} {t : Tree} {a b : List Word} → IsTerm g t a b → NoRow Terms (a ++ r)
    no_end_of (term_constant is) = refl
    no_end_of (term_message free) = refl
    no_end_of term_fresh = refl
    no_end_of term_pub = refl
    no_end_of term_quoted = refl
    no_end_of (term_symbol low s) = refl
    no_end_of (term_tuple s q) = refl

  -- A fact's name, with what is behind it. What ended last has some levels then.
  pub fact_follows : {g : Sig} {f : Fact} {a b : List Word} {n m : ℕ} {l : Limit} {v : Open} {vs : List Open} → IsFact g f a b → trees_levels (trees_of f.args) ≤ FILE_LIMITS.term_levels
      → ((k : ℕ) → Reads k (v ∷ vs) (b ++ r)) → Reads n ((part AFact l, m) ∷ v ∷ vs) (a ++ r)
  fact_follows (fact_linear up s) le h = on_nth AFact 0 refl up refl (on_word refl (args_follow s le (h _)))
  fact_follows (fact_persistent up s) le h = on_row refl refl (on_word up (on_word refl (args_follow s le (h _))))

  -- a fact without `!`, behind `--[` and behind a comma
  first_shown : {g : Sig} {a b : List Word} {n m : ℕ} {l : Limit} {vs : List Open} → IsPlain g a b → ((k : ℕ) → Reads k ((part MoreShown Same, m) ∷ vs) (b ++ r)) → Reads n ((part Shown l, m) ∷ vs) (a ++ r)
  first_shown (plain up le s) h = on_nth Shown 1 refl up refl (on_word refl (args_follow s le (h _)))

  more_shown : {g : Sig} {a b : List Word} {n m : ℕ} {l : Limit} {vs : List Open} → IsPlain g a b → ((k : ℕ) → Reads k ((part MoreShown Same, m) ∷ vs) (b ++ r))
      → Reads n ((part MoreShown l, m) ∷ vs) (mark (codes ",") ∷ (a ++ r))
  more_shown (plain up le s) h = on_row refl refl (on_word up (on_word refl (args_follow s le (h _))))

  no_facts_end : {g : Sig} {f : Fact} {a b : List Word} → IsFact g f a b → NoRow Facts (a ++ r)
  no_facts_end (fact_linear up s) = refl
  no_facts_end (fact_persistent up s) = refl

  no_sides_end : {g : Sig} {o : Bool} {x : List ℕ} {fs : List Fact} {a b : List Word} → AreSomeFacts g FILE_LIMITS o x fs a b → NoRow Facts (a ++ r)
  no_sides_end (facts_last s) = no_facts_end s.spelled
  no_sides_end (facts_more s q) = no_facts_end s.spelled

  some_facts_follow : {g : Sig} {fs : List Fact} {a b : List Word} {n m : ℕ} {l l' : Limit} {vs : List Open} → AreSomeFacts g FILE_LIMITS true (codes "]") fs a b → ((k : ℕ) → Reads k vs (b ++ r))
      → Reads n ((part AFact l, m) ∷ (part MoreFacts l', m) ∷ vs) (a ++ r)
  some_facts_follow (facts_last {f = f} s) h = fact_follows s.spelled (small_levels f.args s.small) (λ k. on_row refl refl (h k))
  some_facts_follow (facts_more {f = f} s q) h = fact_follows s.spelled (small_levels f.args s.small) (λ k. on_row refl refl (some_facts_follow q h))

  pub facts_follow : {g : Sig} {fs : List Fact} {a b : List Word} {n m : ℕ} {l : Limit} {vs : List Open} → AreFacts g FILE_LIMITS true (codes "]") fs a b → ((k : ℕ) → Reads k vs (b ++ r))
      → Reads n ((part Facts l, m) ∷ vs) (a ++ r)
  facts_follow facts_none h = on_row refl refl (h _)
  facts_follow (facts_some {a = a} s) h = instead (a ++ r) refl refl (no_sides_end s) (some_facts_follow s h)

  some_shown_follow : {g : Sig} {fs : List Fact} {a b : List Word} {n m : ℕ} {l : Limit} {vs : List Open} → AreSomeFacts g FILE_LIMITS false (codes "]->") fs a b → ((k : ℕ) → Reads k vs (b ++ r))
      → Reads n ((part MoreShown l, m) ∷ vs) (mark (codes ",") ∷ (a ++ r))
  some_shown_follow (facts_last s) h = more_shown (plain_of s) (λ k. on_row refl refl (h k))
  some_shown_follow (facts_more s q) h = more_shown (plain_of s) (λ k. some_shown_follow q h)

  pub shown_follow : {g : Sig} {fs : List Fact} {a b : List Word} {n m : ℕ} {l : Limit} {vs : List Open} → AreFacts g FILE_LIMITS false (codes "]->") fs a b → ((k : ℕ) → Reads k vs (b ++ r))
      → Reads n ((part Shown l, m) ∷ vs) (a ++ r)
  shown_follow facts_none h = on_row refl refl (h _)
  shown_follow (facts_some (facts_last s)) h = first_shown (plain_of s) (λ k. on_row refl refl (h k))
  shown_follow (facts_some (facts_more s q)) h = first_shown (plain_of s) (λ k. some_shown_follow q h)
