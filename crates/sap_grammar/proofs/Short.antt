-- Terms and facts within the limits: what is spelled so is read, and what is read is spelled so.
use Rattle.std.proofs.Common.{◌≡◌, ◌≤◌, ℕ, zero, suc, Bool, true, false, List, [], ◌∷◌, length, drop, Some, None, refl, sym, subst, arith}
use Rattle.std.specs.Prelude.{codes, ◌&&◌, not}
use Rattle.std.specs.Str.{bytes_eq}
use Rattle.std.proofs.lemmas.Slice.Eq.{bytes_eq-Decides}
use Rattle.sap_terms.specs.declared.fact.Fact.{Fact}
use Rattle.sap_terms.specs.Tree.{Tree}
use Rattle.sap_terms.specs.Signature.{Sig}
use Rattle.sap_grammar.specs.declared.limits.Limits.{Limits}
use Rattle.sap_grammar.specs.Words.{Word, mark, starts}
use Rattle.sap_grammar.specs.Sizes.{is_small, are_small}
use Rattle.sap_grammar.specs.TermGrammar.{IsTerm, IsShort}
use Rattle.sap_grammar.specs.FactGrammar.{IsFact, IsShortFact, AreSomeFacts, AreFacts, fact_linear, fact_persistent, facts_last, facts_more, facts_none, facts_some}
use Rattle.sap_grammar.specs.Reading.{Read, after, given, list_of}
use Rattle.sap_grammar.specs.TermReading.{term, fact_at, short_term, short_fact, facts}
use Rattle.sap_grammar.proofs.Complete.{term_read, fact_read}
use Rattle.sap_grammar.proofs.Sound.{term_sound, fact_sound}
use Rattle.sap_grammar.proofs.ReadingLaws.OnRead.{Says, OnRead, after_on, behind_on, if_on, starts_is, on_read}
use Rattle.sap_grammar.proofs.ReadingLaws.Ends.{fact_shorter}
use Rattle.sap_grammar.proofs.Small.{small_is, small_of, all_small_is, all_small_of, deep_enough}
use Rattle.sap_grammar.proofs.ReadingLaws.Turns.{Shrinks}

pub short_read : (g : Sig) (m : Limits) (t : Tree) (a b : List Word) → IsShort g m t a b → starts (codes "(") b ≡ false → short_term g m a ≡ Some (t, b)
unfolding after short_term
short_read g m t a b s follows = rw (term_read s.spelled m.term_levels s.small.few_levels follows, small_of m t s.small) refl

-- where `!` isn't allowed, none stands
signed : (persistent allowed : Bool) → (persistent ≡ true → allowed ≡ true) → (persistent && not allowed) ≡ false
signed false allowed f = refl
signed true true f = refl
signed true false f = sym (f refl)

unsigned : (persistent allowed : Bool) → (persistent && not allowed) ≡ false → persistent ≡ true → allowed ≡ true
unsigned false allowed e f = absurd (cc (f))
unsigned true true e f = refl
unsigned true false e f = absurd (cc (e))

pub short_fact_read : (g : Sig) (m : Limits) (allowed : Bool) (f : Fact) (a b : List Word) → IsShortFact g m allowed f a b → short_fact g m allowed a ≡ Some (f, b)
unfolding after short_fact
short_fact_read g m allowed f a b r =
    rw (fact_read r.spelled m.term_levels (deep_enough m f.args r.small), all_small_of m f.args r.small, signed f.persistent allowed r.sign) refl

-- another mark
other_mark : (w v : List ℕ) → (w ≡ v → ⊥) → bytes_eq v w ≡ false
other_mark w v f = by (bytes_eq v w) refl
  where
    by : (b : Bool) → bytes_eq v w ≡ b → b ≡ false
    by true e = absurd (f (sym ((bytes_eq-Decides v w).0 e)))
    by false e = refl

same_mark : (w : List ℕ) → bytes_eq w w ≡ true
same_mark w = (bytes_eq-Decides w w).1 refl

-- a mark that is not `!` begins no fact
fact_begins : (w : List ℕ) {g : Sig} {f : Fact} {a b : List Word} → bytes_eq (codes "!") w ≡ false → IsFact g f a b → starts w a ≡ false
fact_begins w other (fact_linear up r) = refl
fact_begins w other (fact_persistent up r) = other

facts_begin : (w : List ℕ) {g : Sig} {m : Limits} {s : Bool} {fs : List Fact} {a b : List Word} → bytes_eq (codes "!") w ≡ false → AreSomeFacts g m s w fs a b → starts w a ≡ false
facts_begin w other (facts_last r) = fact_begins w other r.spelled
facts_begin w other (facts_more r rs) = fact_begins w other r.spelled

module _ (g : Sig) (m : Limits) (s : Bool) (w : List ℕ) (no_comma : w ≡ codes "," → ⊥) (no_sign : w ≡ codes "!" → ⊥) where
  some_read : {fs : List Fact} {a b : List Word} → AreSomeFacts g m s w fs a b → (n : ℕ) → length a ≤ n → list_of w (short_fact g m s) n a ≡ Some (fs, b)
  unfolding after
  some_read (facts_last r) zero long = absurd (omega (arith, long, fact_shorter r.spelled))
  some_read (facts_more r rs) zero long = absurd (omega (arith, long, fact_shorter r.spelled))
  some_read (facts_last {f = f} {a = a} {b = b} r) (suc n) long = rw (short_fact_read g m s f a (mark w ∷ b) r, same_mark w) refl
  some_read (facts_more {f = f} {a = a} {b = b} r rs) (suc n) long =
      rw (short_fact_read g m s f a (mark (codes ",") ∷ b) r, other_mark w (codes ",") no_comma, some_read rs n (omega (arith, long, fact_shorter r.spelled))) refl

  pub facts_read : (fs : List Fact) (a b : List Word) → AreFacts g m s w fs a b → facts g m s w a ≡ Some (fs, b)
  unfolding facts
  facts_read fs a b facts_none = rw (same_mark w) refl
  facts_read fs a b (facts_some r) = rw (facts_begin w (other_mark w (codes "!") no_sign) r) (some_read r (length a) (omega arith))

module _ (g : Sig) (m : Limits) where
  abbrev Short : List Word → Says Tree
  Short ts t b = IsShort g m t ts b

  abbrev ShortFact : Bool → List Word → Says Fact
  ShortFact s ts f b = IsShortFact g m s f ts b

  pub short_sound : (ts : List Word) → OnRead (Short ts) (short_term g m ts)
  unfolding short_term
  short_sound ts =
      after_on (λ t b. IsTerm g t ts b) (Short ts) (term g m.term_levels ts) _ (term_sound g m.term_levels ts) (λ t b h.
      if_on (Short ts) (is_small m t) _ _
      (λ e. record { spelled = h; small = small_is m t e })
      (λ e. tt))

  pub short_fact_sound : (s : Bool) (ts : List Word) → OnRead (ShortFact s ts) (short_fact g m s ts)
  unfolding short_fact
  short_fact_sound s ts =
      after_on (λ f b. IsFact g f ts b) (ShortFact s ts) (fact_at (term g m.term_levels) ts) _ (fact_sound g (term g m.term_levels) (term_sound g m.term_levels) ts) (λ f b h.
      if_on (ShortFact s ts) (are_small m f.args) _ _
      (λ e. if_on (ShortFact s ts) (f.persistent && not s) _ _
      (λ e. tt)
      (λ p. record { spelled = h; small = all_small_is m f.args e; sign = unsigned f.persistent s p }))
      (λ e. tt))

  -- the rest of a spelling, rewritten
  fact_on : {s : Bool} {f : Fact} {a b c : List Word} → IsShortFact g m s f a b → b ≡ c → IsShortFact g m s f a c
  fact_on {s = s} {f = f} {a = a} r e = subst (λ (y : List Word). IsShortFact g m s f a y) e r

  some_sound : (s : Bool) (w : List ℕ) (n : ℕ) (ts : List Word) → OnRead (λ fs b. AreSomeFacts g m s w fs ts b) (list_of w (short_fact g m s) n ts)
  some_sound s w zero ts = tt
  some_sound s w (suc n) ts =
      let Q : Says (List Fact) = λ fs b. AreSomeFacts g m s w fs ts b in
      after_on (ShortFact s ts) Q (short_fact g m s ts) _ (short_fact_sound s ts) (λ f r h.
      if_on Q (starts w r) _ _
      (λ e. facts_last (fact_on h (starts_is w r e)))
      (λ e. if_on Q (starts (codes ",") r) _ _
      (λ c. behind_on (λ fs b. AreSomeFacts g m s w fs (drop 1 r) b) Q (f ∷ []) (list_of w (short_fact g m s) n (drop 1 r)) (some_sound s w n (drop 1 r)) (λ fs y k.
      facts_more (fact_on h (starts_is (codes ",") r c)) k))
      (λ c. tt)))

  pub facts_sound : (s : Bool) (w : List ℕ) (ts : List Word) → OnRead (λ fs b. AreFacts g m s w fs ts b) (facts g m s w ts)
  unfolding facts
  facts_sound s w ts =
      if_on (λ fs b. AreFacts g m s w fs ts b) (starts w ts) _ _
      (λ e. subst (λ (y : List Word). AreFacts g m s w [] y (drop 1 ts)) (sym (starts_is w ts e)) facts_none)
      (λ e. some (list_of w (short_fact g m s) (length ts) ts) (some_sound s w (length ts) ts))
    where
      some : (r : Read (List Fact)) → OnRead (λ fs b. AreSomeFacts g m s w fs ts b) r → OnRead (λ fs b. AreFacts g m s w fs ts b) r
      some None h = tt
      some (Some p) h = facts_some h

  pub short_is : (t : Tree) (a b : List Word) → short_term g m a ≡ Some (t, b) → IsShort g m t a b
  short_is t a b e = on_read (Short a) t b e (short_sound a)

  pub short_fact_is : (s : Bool) (f : Fact) (a b : List Word) → short_fact g m s a ≡ Some (f, b) → IsShortFact g m s f a b
  short_fact_is s f a b e = on_read (ShortFact s a) f b e (short_fact_sound s a)

  pub facts_are : (s : Bool) (w : List ℕ) (fs : List Fact) (a b : List Word) → facts g m s w a ≡ Some (fs, b) → AreFacts g m s w fs a b
  facts_are s w fs a b e = on_read (λ us y. AreFacts g m s w us a y) fs b e (facts_sound s w a)

  -- what follows a fact is shorter
  pub short_fact_shrinks : (s : Bool) → Shrinks (short_fact g m s)
  short_fact_shrinks s ws b f e = let is = short_fact_is s f ws b e in fact_shorter is.spelled

  -- nothing is read where nothing is left
  pub short_fact_nothing : (s : Bool) → short_fact g m s [] ≡ None
  unfolding after given short_fact
  short_fact_nothing s = refl
