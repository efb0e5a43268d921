-- Values at places, and their readers.
use Rattle.std.proofs.Common.{◌≡◌, ◌≤◌, ◌-◌, ℕ, true, false, List, length, drop, Some, None, refl, subst, arith}
use Rattle.std.specs.Prelude.{codes}
use Rattle.sap_terms.specs.Signature.{Sig}
use Rattle.sap_text.specs.declared.token.Token.{Token}
use Rattle.sap_grammar.specs.Words.{Word, starts, words_of}
use Rattle.sap_grammar.specs.declared.limits.Limits.{Limits}
use Rattle.sap_grammar.specs.Sizes.{IsSmall, AreSmall}
use Rattle.sap_grammar.specs.Places.{IsAt}
use Rattle.sap_grammar.specs.TermGrammar.{IsTerm}
use Rattle.sap_grammar.specs.FactGrammar.{IsFact}
use Rattle.sap_grammar.specs.Reading.{Reader}
use Rattle.sap_grammar.specs.TermReading.{short_term, short_fact}
use Rattle.sap_grammar.proofs.Short.{short_read, short_is, short_fact_read, short_fact_is}
use Rattle.sap_grammar.proofs.ReadingLaws.Tokens.{words-drop, length-words}
use Rattle.sap_grammar.proofs.ReadingLaws.Ends.{IsEnd, term_end, fact_end, place, one_number}

-- one value at one place, where the words there spell at most one
module _ {A : Type 0} (Spells : A → List Word → List Word → Type 0) (Small : A → Type 0) where
  pub one_at : ((v x : A) (a b c : List Word) → Spells v a b → Spells x a c → starts (codes "(") b ≡ false → starts (codes "(") c ≡ false → (v ≡ x) × (b ≡ c))
      → (ws : List Word) (at e k : ℕ) (v x : A) → IsAt Spells Small ws at v e → IsAt Spells Small ws at x k → (v ≡ x) × (e ≡ k)
  one_at one ws at e k v x r s =
      let same = one v x (drop at ws) (drop e ws) (drop k ws) r.spelled s.spelled r.ends s.ends in
      (same.0, one_number ws e k r.inside s.inside same.1)

-- a reader of these values
pub record IsReader {A : Type 0} (Spells : A → List Word → List Word → Type 0) (Small : A → Type 0) (read : Reader A) : Type 0 where
  pub complete : (v : A) (a b : List Word) → Spells v a b → Small v → starts (codes "(") b ≡ false → read a ≡ Some (v, b)
  pub sound : (v : A) (a b : List Word) → read a ≡ Some (v, b) → Spells v a b
  pub small : (v : A) (a b : List Word) → read a ≡ Some (v, b) → Small v
  pub at_end : (v : A) (a b : List Word) → Spells v a b → IsEnd a b

-- what it says of the values at one place
module _ {A : Type 0} {Spells : A → List Word → List Word → Type 0} {Small : A → Type 0} {read : Reader A} (reader : IsReader Spells Small read) (z : List ℕ) (ts : List Token) (at : ℕ) where
  is_read : (v : A) (e : ℕ) → IsAt Spells Small (words_of z ts) at v e → read (words_of z (drop at ts)) ≡ Some (v, drop e (words_of z ts))
  is_read v e r = rw (words-drop z at ts) (reader.complete v (drop at (words_of z ts)) (drop e (words_of z ts)) r.spelled r.small r.ends)

  pub nothing_at : read (words_of z (drop at ts)) ≡ None → (v : A) (e : ℕ) → IsAt Spells Small (words_of z ts) at v e → ⊥
  nothing_at nothing v e r = let found = is_read v e r in cc

  module _ (x : A) (rest : List Token) (is : read (words_of z (drop at ts)) ≡ Some (x, words_of z rest)) where
    spelled_so : Spells x (words_of z (drop at ts)) (words_of z rest)
    spelled_so = reader.sound x (words_of z (drop at ts)) (words_of z rest) is

    there : (length rest ≤ length ts) × (words_of z rest ≡ drop (length ts - length rest) (words_of z ts))
    there = place z ts rest at (reader.at_end x (words_of z (drop at ts)) (words_of z rest) spelled_so)

    pub rest_within : length rest ≤ length ts
    rest_within = there.0

    pub no_other_at : starts (codes "(") (words_of z rest) ≡ true → (v : A) (e : ℕ) → IsAt Spells Small (words_of z ts) at v e → ⊥
    no_other_at opened v e r =
        let found = is_read v e r in
        let same : ◌≡◌ {A = A × List Word} (v, drop e (words_of z ts)) (x, words_of z rest) = cc in
        let ends : starts (codes "(") (words_of z rest) ≡ false = subst (λ (y : A × List Word). starts (codes "(") y.1 ≡ false) same r.ends in
        absurd (cc (opened, ends))

    pub it_is_at : starts (codes "(") (words_of z rest) ≡ false → IsAt Spells Small (words_of z ts) at x (length ts - length rest)
    it_is_at ends = record {
      inside = omega (arith, length-words z ts);
      spelled = rw (← words-drop z at ts, ← there.1) spelled_so;
      small = reader.small x (words_of z (drop at ts)) (words_of z rest) is;
      ends = rw (← there.1) ends;
    }

pub term_reader : (g : Sig) (m : Limits) → IsReader (IsTerm g) (IsSmall m) (short_term g m)
term_reader g m = record {
  complete = λ t a b r small e. short_read g m t a b (record { spelled = r; small = small }) e;
  sound = λ t a b e. let is = short_is g m t a b e in is.spelled;
  small = λ t a b e. let is = short_is g m t a b e in is.small;
  at_end = λ t a b r. term_end r;
}

pub fact_reader : (g : Sig) (m : Limits) → IsReader (IsFact g) (λ f. AreSmall m f.args) (short_fact g m true)
fact_reader g m = record {
  complete = λ f a b r small e. short_fact_read g m true f a b (record { spelled = r; small = small; sign = λ p. refl });
  sound = λ f a b e. let is = short_fact_is g m true f a b e in is.spelled;
  small = λ f a b e. let is = short_fact_is g m true f a b e in is.small;
  at_end = λ f a b r. fact_end r;
}
