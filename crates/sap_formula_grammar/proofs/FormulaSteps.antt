-- What reading formulas does at each depth and at each turn.
use Rattle.std.proofs.Common.{◌≡◌, ◌≤◌, ◌<◌, ◌-◌, ◌+◌, max, ℕ, zero, suc, List, drop, Option, Some, None, true, false, refl, sym, ap, ◌∙◌, arith}
use Rattle.std.specs.Prelude.{codes, if◌then◌else◌, nat_le, Result, Ok, Err, IfOk, IfSome}
use Rattle.std.specs.Borrow.{Bor}
use Rattle.sap_text.specs.declared.token.Token.{Token}
use Rattle.sap_terms.specs.Signature.{Sig}
use Rattle.sap_formula.specs.Form.{Form, implies, negation, every, exists}
use Rattle.sap_grammar.specs.declared.limits.Limits.{Limits}
use Rattle.sap_grammar.specs.Words.{Word, starts}
use Rattle.sap_grammar.specs.Reading.{Read, Reader, after}
use Rattle.sap_formula_grammar.specs.FormulaReading.{Levelled, atom, un, imp, un_at, imp_at, ors, formula, bodied, quantified, enclosed, alone, second, turns, last}
use Rattle.sap_formula_grammar.specs.declared.formula.build.Measured.{Measured}

pub un_zero : (g : Sig) (m : Limits) (ws : List Word) → un g m 0 ws ≡ None
unfolding un imp
un_zero g m ws = refl

pub imp_zero : (g : Sig) (m : Limits) (ws : List Word) → imp g m 0 ws ≡ None
unfolding un imp
imp_zero g m ws = refl

pub un_step : (g : Sig) (m : Limits) (d : ℕ) (ws : List Word) → 0 < d → un g m d ws ≡ un_at (atom g m) (un g m (d - 1)) (formula g m (d - 1)) ws
unfolding un imp
un_step g m zero ws lt = absurd (omega (arith, lt))
un_step g m (suc d) ws lt = let e : suc d - 1 ≡ d = omega arith in rw e refl

pub imp_step : (g : Sig) (m : Limits) (d : ℕ) (ws : List Word) → 0 < d → imp g m d ws ≡ imp_at (ors (un g m d) d) (imp g m (d - 1)) d ws
unfolding un imp
imp_step g m zero ws lt = absurd (omega (arith, lt))
imp_step g m (suc d) ws lt = let e : suc d - 1 ≡ d = omega arith in rw e refl

-- what stands first decides what is read
module _ (g : Sig) (m : Limits) (d : ℕ) (lt : 0 < d) (ws next : List Word) (e : next ≡ drop 1 ws) where
  pub un_negation : starts (codes "not") ws ≡ true → un g m d ws ≡ bodied (un g m (d - 1)) negation next
  un_negation n = un_step g m d ws lt ∙ rw (n, e) refl

  pub un_every : starts (codes "not") ws ≡ false → starts (codes "All") ws ≡ true → un g m d ws ≡ quantified (formula g m (d - 1)) every next
  un_every n a = un_step g m d ws lt ∙ rw (n, a, e) refl

  pub un_exists : starts (codes "not") ws ≡ false → starts (codes "All") ws ≡ false → starts (codes "Ex") ws ≡ true
      → un g m d ws ≡ quantified (formula g m (d - 1)) exists next
  un_exists n a x = un_step g m d ws lt ∙ rw (n, a, x, e) refl

  pub un_enclosed : starts (codes "not") ws ≡ false → starts (codes "All") ws ≡ false → starts (codes "Ex") ws ≡ false → starts (codes "(") ws ≡ true
      → un g m d ws ≡ enclosed (formula g m (d - 1)) next
  un_enclosed n a x o = un_step g m d ws lt ∙ rw (n, a, x, o, e) refl

pub un_alone : (g : Sig) (m : Limits) (d : ℕ) (ws : List Word) → 0 < d → starts (codes "not") ws ≡ false → starts (codes "All") ws ≡ false → starts (codes "Ex") ws ≡ false → starts (codes "(") ws ≡ false
    → un g m d ws ≡ alone (atom g m) ws
un_alone g m d ws lt n a x o = un_step g m d ws lt ∙ rw (n, a, x, o) refl

-- one part, or two with `==>` between them
module _ (g : Sig) (m : Limits) (d : ℕ) (lt : 0 < d) (ws : List Word) where
  pub imp_none : ors (un g m d) d ws ≡ None → imp g m d ws ≡ None
  unfolding after
  imp_none e = imp_step g m d ws lt ∙ ap (λ (o : Read Levelled). after o (λ f r. if starts (codes "==>") r then second (imp g m (d - 1)) d implies f (drop 1 r) else Some (f, r))) e

  behind_one : (f : Levelled) (r : List Word) → ors (un g m d) d ws ≡ Some (f, r)
      → imp g m d ws ≡ (if starts (codes "==>") r then second (imp g m (d - 1)) d implies f (drop 1 r) else Some (f, r))
  unfolding after
  behind_one f r e = imp_step g m d ws lt ∙ ap (λ (o : Read Levelled). after o (λ f r. if starts (codes "==>") r then second (imp g m (d - 1)) d implies f (drop 1 r) else Some (f, r))) e

  pub imp_one : (f : Levelled) (r : List Word) → ors (un g m d) d ws ≡ Some (f, r) → starts (codes "==>") r ≡ false → imp g m d ws ≡ Some (f, r)
  imp_one f r e s = behind_one f r e ∙ rw s refl

  pub imp_two : (f : Levelled) (r next : List Word) → ors (un g m d) d ws ≡ Some (f, r) → starts (codes "==>") r ≡ true → next ≡ drop 1 r
      → imp g m d ws ≡ second (imp g m (d - 1)) d implies f next
  imp_two f r next e s n = behind_one f r e ∙ rw (s, n) refl

module _ (part : Reader Levelled) (d : ℕ) (made : Form → Form → Form) (sign : List ℕ) where
  pub turn_none : (n : ℕ) (f : Levelled) (ws : List Word) → n ≤ 0 → starts sign ws ≡ true → turns part d made sign n f ws ≡ None
  turn_none zero f ws le e = rw e refl
  turn_none (suc n) f ws le e = absurd (omega (arith, le))

  pub turn_stops : (n : ℕ) (f : Levelled) (ws : List Word) → starts sign ws ≡ false → turns part d made sign n f ws ≡ Some (f, ws)
  turn_stops zero f ws e = rw e refl
  turn_stops (suc n) f ws e = rw e refl

  module _ (n : ℕ) (f : Levelled) (ws next : List Word) (lt : 0 < n) (e : starts sign ws ≡ true) (is : next ≡ drop 1 ws) where
    goes : (n : ℕ) → 0 < n → turns part d made sign n f ws ≡ after (second part d made f (drop 1 ws)) (turns part d made sign (n - 1))
    goes zero lt = absurd (omega (arith, lt))
    goes (suc n) lt = let same : suc n - 1 ≡ n = omega arith in rw (same, e) refl

    pub turn_on : (h : Levelled) (r : List Word) → second part d made f next ≡ Some (h, r) → turns part d made sign n f ws ≡ turns part d made sign (n - 1) h r
    unfolding after
    turn_on h r got = goes n lt ∙ ap (λ (o : Read Levelled). after o (turns part d made sign (n - 1))) (ap (second part d made f) (sym is) ∙ got)

    pub turn_ends : second part d made f next ≡ None → turns part d made sign n f ws ≡ None
    unfolding after
    turn_ends got = goes n lt ∙ ap (λ (o : Read Levelled). after o (turns part d made sign (n - 1))) (ap (second part d made f) (sym is) ∙ got)

-- one part, or two with `<=>` between them
pub iff_two : (g : Sig) (m : Limits) (d : ℕ) (ws : List Word) (f : Levelled) (r next : List Word) → imp g m d ws ≡ Some (f, r) → starts (codes "<=>") r ≡ true → next ≡ drop 1 r
    → formula g m d ws ≡ last (imp g m d) d f next
unfolding after
iff_two g m d ws f r next e s n = rw (e, s, n) refl

-- both sides, where they have together so many levels at most, and where they have more
module _ (part : Reader Levelled) (d : ℕ) (made : Form → Form → Form) (f h : Levelled) (ws r : List Word) (e : part ws ≡ Some (h, r)) where
  pub second_fits : nat_le (max f.1 h.1 + 1) d ≡ true → second part d made f ws ≡ Some ((made f.0 h.0, max f.1 h.1 + 1), r)
  unfolding after
  second_fits le = rw (e, le) refl

  pub second_over : nat_le (max f.1 h.1 + 1) d ≡ false → second part d made f ws ≡ None
  unfolding after
  second_over over = rw (e, over) refl

-- what is read has some levels, and no more than these
module _ {E : Type 0} (b : ℕ) where
  pub within_more : (a : ℕ) (r : Result (Option (Measured × Bor (List Token))) E) → a ≤ b
      → IfOk r (λ o. IfSome o (λ p. (1 ≤ p.0.levels) × (p.0.levels ≤ a))) → IfOk r (λ o. IfSome o (λ p. (1 ≤ p.0.levels) × (p.0.levels ≤ b)))
  within_more a (Ok None) le h = tt
  within_more a (Ok (Some p)) le h = (h.0, omega (arith, le, h.1))
  within_more a (Err x) le h = tt

  pub within_one : (r : Result (Option (Measured × Bor (List Token))) E) → 1 ≤ b
      → IfOk r (λ o. IfSome o (λ p. p.0.levels ≡ 1)) → IfOk r (λ o. IfSome o (λ p. (1 ≤ p.0.levels) × (p.0.levels ≤ b)))
  within_one (Ok None) le h = tt
  within_one (Ok (Some p)) le h = (omega (arith, h), omega (arith, le, h))
  within_one (Err x) le h = tt
