-- Formulas within the limits: what is read is spelled so, what is spelled so is read, and what the reader says of a place.
use Rattle.std.proofs.Common.{◌≡◌, ◌≤◌, ◌-◌, ℕ, List, drop, length, None, Some, refl, sym, subst, true, false, arith}
use Rattle.std.specs.Prelude.{codes}
use Rattle.sap_terms.specs.Signature.{Sig}
use Rattle.sap_text.specs.declared.token.Token.{Token}
use Rattle.sap_formula.specs.Form.{Form}
use Rattle.sap_grammar.specs.declared.limits.Limits.{Limits}
use Rattle.sap_grammar.specs.Reading.{Read, after}
use Rattle.sap_grammar.specs.TermLaws.{AreRead}
use Rattle.sap_grammar.specs.Words.{Word, starts, words_of}
use Rattle.sap_formula_grammar.specs.FormulaGrammar.{IsIff, IsShortFormula, EndsFormula, IsFormulaAt}
use Rattle.sap_formula_grammar.specs.FormulaReading.{Levelled, formula, short_formula}
use Rattle.sap_grammar.proofs.ReadingLaws.Ends.{one_number, place}
use Rattle.sap_grammar.proofs.ReadingLaws.OnRead.{OnRead, Says, after_on, on_read, starts_is}
use Rattle.sap_grammar.proofs.ReadingLaws.Tokens.{words-drop, length-words}
use Rattle.sap_formula_grammar.proofs.Ends.{iff_end}
use Rattle.sap_formula_grammar.proofs.Formulas.{formula_read, one_formula}
use Rattle.sap_formula_grammar.proofs.SoundFormulas.{Stands, AfterIff, formula_sound}

-- a quotation mark goes on with no formula
pub at_quote : (b : List Word) → starts (codes "\"") b ≡ true → EndsFormula b
at_quote b e = subst EndsFormula (sym (starts_is (codes "\"") b e)) (record { no_parenthesis = refl; no_and = refl; no_or = refl; no_imp = refl; no_iff = refl })

module _ (laws : AreRead) where
  -- from one place words spell at most one formula that a quotation mark follows
  pub one_formula_at : (m : Limits) (g : Sig) (ws : List Word) (at e k : ℕ) (f h : Form) → IsFormulaAt m g ws at f e → IsFormulaAt m g ws at h k → (f ≡ h) × (e ≡ k)
  one_formula_at m g ws at e k f h r s =
      let same = one_formula laws g r.short.reach s.short.reach r.short.levels s.short.levels f h (drop at ws) (drop e ws) (drop k ws) r.short.spelled s.short.spelled
      (at_quote (drop e ws) r.ends) (at_quote (drop k ws) s.ends) in
      (same.0, one_number ws e k r.inside s.inside same.2)

  pub short_formula_read : (g : Sig) (m : Limits) (f : Form) (a b : List Word) → IsShortFormula g m f a b → EndsFormula b → short_formula g m a ≡ Some (f, b)
  unfolding after short_formula
  short_formula_read g m f a b r ends = rw (formula_read laws g m r.spelled m.formula_levels r.few_levels r.small ends) refl

  short_sound : (g : Sig) (m : Limits) (a : List Word) → OnRead (λ f b. IsShortFormula g m f a b) (short_formula g m a)
  unfolding short_formula
  short_sound g m a =
      let Q : Says Form = λ f b. IsShortFormula g m f a b in
      after_on (Stands (IsIff g) AfterIff m.formula_levels m a) Q (formula g m m.formula_levels a) _ (formula_sound laws g m m.formula_levels a) (λ f b h. record {
        reach = h.0;
        levels = f.1;
        spelled = h.1;
        few_levels = h.3;
        small = h.4;
      })

  pub short_formula_is : (g : Sig) (m : Limits) (f : Form) (a b : List Word) → short_formula g m a ≡ Some (f, b) → IsShortFormula g m f a b
  short_formula_is g m f a b e = on_read (λ f b. IsShortFormula g m f a b) f b e (short_sound g m a)

-- what the reader is known to do
abbrev pub Complete : Type 0
Complete = (g : Sig) (m : Limits) (f : Form) (a b : List Word) → IsShortFormula g m f a b → EndsFormula b → short_formula g m a ≡ Some (f, b)

abbrev pub Sound : Type 0
Sound = (g : Sig) (m : Limits) (f : Form) (a b : List Word) → short_formula g m a ≡ Some (f, b) → IsShortFormula g m f a b

-- what it says of the formula at one place
module _ (complete : Complete) (m : Limits) (g : Sig) (z : List ℕ) (ts : List Token) (at : ℕ) where
  is_read : (f : Form) (e : ℕ) → IsFormulaAt m g (words_of z ts) at f e → short_formula g m (words_of z (drop at ts)) ≡ Some (f, drop e (words_of z ts))
  is_read f e r = rw (words-drop z at ts) (complete g m f (drop at (words_of z ts)) (drop e (words_of z ts)) r.short (at_quote (drop e (words_of z ts)) r.ends))

  pub no_formula_at : short_formula g m (words_of z (drop at ts)) ≡ None → (f : Form) (e : ℕ) → IsFormulaAt m g (words_of z ts) at f e → ⊥
  no_formula_at nothing f e r = let found = is_read f e r in cc

  module _ (sound : Sound) (f : Form) (rest : List Token) (is : short_formula g m (words_of z (drop at ts)) ≡ Some (f, words_of z rest)) where
    spelled_so : IsShortFormula g m f (words_of z (drop at ts)) (words_of z rest)
    spelled_so = sound g m f (words_of z (drop at ts)) (words_of z rest) is

    there : (length rest ≤ length ts) × (words_of z rest ≡ drop (length ts - length rest) (words_of z ts))
    there = place z ts rest at (iff_end spelled_so.spelled)

    pub formula_within : length rest ≤ length ts
    formula_within = there.0

    pub no_other_formula : starts (codes "\"") (words_of z rest) ≡ false → (h : Form) (e : ℕ) → IsFormulaAt m g (words_of z ts) at h e → ⊥
    no_other_formula bad h e r =
        let found = is_read h e r in
        let same : ◌≡◌ {A = Form × List Word} (h, drop e (words_of z ts)) (f, words_of z rest) = cc in
        let ends : starts (codes "\"") (words_of z rest) ≡ true = subst (λ (y : Form × List Word). starts (codes "\"") y.1 ≡ true) same r.ends in
        absurd (cc (bad, ends))

    pub formula_is_at : starts (codes "\"") (words_of z rest) ≡ true → IsFormulaAt m g (words_of z ts) at f (length ts - length rest)
    formula_is_at good = record {
      inside = omega (arith, length-words z ts);
      short = rw (← words-drop z at ts, ← there.1) spelled_so;
      ends = rw (← there.1) good;
    }
