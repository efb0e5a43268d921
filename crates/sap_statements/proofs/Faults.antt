-- The first restriction or lemma with a fault, those that have none, and turns of the loop over them.
use Rattle.std.proofs.Common.{◌≡◌, ◌≤◌, ℕ, ◌+◌, length, Bool, List, [], ◌∷◌, ◌++◌, append_assoc, drop, Some, inl, inr, refl, sym, ap, subst, ◌∙◌}
use Rattle.std.specs.Prelude.{◌⊎◌, slice_get}
use Rattle.std.proofs.lemmas.List.{drop_all}
use Rattle.std.proofs.lemmas.List.Elements.{All-nil, All-cons, All-head, All-tail}
use Rattle.sap_terms.proofs.PlainLaws.Lists.{drop_got}
use Rattle.sap_terms.specs.Signature.{Sig}
use Rattle.sap_formula.specs.Faults.{HasNoFault, IsFirstFault, told}
use Rattle.sap_formula.specs.Form.{RestrictionForm, LemmaForm}
use Rattle.sap_formula.specs.Laws.{OneFaultLaw, NoFaultLaw, SomeFaultLaw}
use Rattle.sap_formula.specs.declared.fault.FormulaFault.{FormulaFault}
use Rattle.sap_formula.specs.declared.fault.FormulaFlaw.{FormulaFlaw}
use Rattle.sap_statements.specs.Statements.{Statement, restriction, lemma, formula_of, name_of}
use Rattle.sap_statements.specs.Stated.{restrictions_of, lemmas_of, AreFaultless, IsFirstFaulty, this_one, later_one}

module _ (g : Sig) (r : Bool) where
  abbrev IsFree : Statement → Type 0
  IsFree s = HasNoFault g r (formula_of s)

  -- none has a fault, or there is a first
  abbrev IsJudged : List Statement → Type 0
  IsJudged ss = AreFaultless g r ss ⊎ ((x : List ℕ) × (f : FormulaFault) × IsFirstFaulty g r ss x f)

  pub faulty_or_not : SomeFaultLaw → (ss : List Statement) → IsJudged ss
  faulty_or_not some [] = inl (All-nil IsFree)
  faulty_or_not some (s ∷ ss) = by (some g r (formula_of s)) (faulty_or_not some ss)
    where
      by : IsFree s ⊎ ((w : FormulaFlaw) × (n : List ℕ) × IsFirstFault g r (formula_of s) w n) → IsJudged ss → IsJudged (s ∷ ss)
      by (inr f) o = inr (name_of s, told f.0 f.1, this_one f.2)
      by (inl h) (inl all) = inl (All-cons IsFree s ss h all)
      by (inl h) (inr f) = inr (f.0, f.1, later_one h f.2)

  module _ (one : OneFaultLaw) (none : NoFaultLaw) where
    pub one_faulty : (ss : List Statement) (x y : List ℕ) (f h : FormulaFault) → IsFirstFaulty g r ss x f → IsFirstFaulty g r ss y h → (x ≡ y) × (f ≡ h)
    one_faulty _ _ _ _ _ (this_one {s = s} {w = w} {n = n} p) (this_one {w = v} {n = m} q) =
        let same = one g r (formula_of s) w v n m p q in
        (refl, λ i. told (same.0 i) (same.1 i))
    one_faulty _ _ y _ h (this_one {s = s} {w = w} {n = n} p) (later_one k q) = absurd (none g r (formula_of s) w n p k)
    one_faulty _ x _ f _ (later_one {s = s} k p) (this_one {w = w} {n = n} q) = absurd (none g r (formula_of s) w n q k)
    one_faulty _ x y f h (later_one {ss = ss} k p) (later_one l q) = one_faulty ss x y f h p q

    pub never_both : (ss : List Statement) (x : List ℕ) (f : FormulaFault) → IsFirstFaulty g r ss x f → AreFaultless g r ss → ⊥
    never_both _ _ _ (this_one {s = s} {ss = ss} {w = w} {n = n} p) a = none g r (formula_of s) w n p (All-head IsFree s ss a)
    never_both _ x f (later_one {s = s} {ss = ss} k p) a = never_both ss x f p (All-tail IsFree s ss a)

restrictions_more : (s : Statement) (ss : List Statement) → restrictions_of (s ∷ []) ++ restrictions_of ss ≡ restrictions_of (s ∷ ss)
restrictions_more (restriction r) ss = refl
restrictions_more (lemma l) ss = refl

lemmas_more : (s : Statement) (ss : List Statement) → lemmas_of (s ∷ []) ++ lemmas_of ss ≡ lemmas_of (s ∷ ss)
lemmas_more (restriction r) ss = refl
lemmas_more (lemma l) ss = refl

-- the restrictions and lemmas before index k have no fault, and these are theirs
pub record AreCheckedUpTo (g : Sig) (r : Bool) (ss : List Statement) (k : ℕ) (rs : List RestrictionForm) (ls : List LemmaForm) : Type 0 where
  pub faultless : AreFaultless g r (drop k ss) → AreFaultless g r ss
  pub refused : (x : List ℕ) (f : FormulaFault) → IsFirstFaulty g r (drop k ss) x f → IsFirstFaulty g r ss x f
  pub restrictions : rs ++ restrictions_of (drop k ss) ≡ restrictions_of ss
  pub lemmas : ls ++ lemmas_of (drop k ss) ≡ lemmas_of ss

pub faultless_to_the_end : (g : Sig) (r : Bool) (ss : List Statement) (k : ℕ) (rs : List RestrictionForm) (ls : List LemmaForm) → length ss ≤ k → AreCheckedUpTo g r ss k rs ls → AreFaultless g r ss
faultless_to_the_end g r ss k rs ls le h = h.faultless (subst (AreFaultless g r) (sym (drop_all k ss le)) (All-nil (IsFree g r)))

module _ (g : Sig) (r : Bool) (ss : List Statement) (k : ℕ) (s : Statement) (rs : List RestrictionForm) (ls : List LemmaForm) (there : slice_get ss k ≡ Some s)
    (h : AreCheckedUpTo g r ss k rs ls) where
  one_less : drop k ss ≡ s ∷ drop (k + 1) ss
  one_less = drop_got ss k s there

  pub refused_here : (w : FormulaFlaw) (n : List ℕ) → IsFirstFault g r (formula_of s) w n → IsFirstFaulty g r ss (name_of s) (told w n)
  refused_here w n p =
      h.refused (name_of s) (told w n) (subst (λ (xs : List Statement). IsFirstFaulty g r xs (name_of s) (told w n)) (sym one_less) (this_one p))

  pub checked_here : (more : List RestrictionForm) (also : List LemmaForm) → HasNoFault g r (formula_of s) → more ≡ rs ++ restrictions_of (s ∷ []) → also ≡ ls ++ lemmas_of (s ∷ [])
      → AreCheckedUpTo g r ss (k + 1) more also
  checked_here more also free of_rs of_ls = record {
    faultless = λ a. h.faultless (subst (AreFaultless g r) (sym one_less) (All-cons (IsFree g r) s (drop (k + 1) ss) free a));
    refused = λ x f p. h.refused x f (subst (λ (xs : List Statement). IsFirstFaulty g r xs x f) (sym one_less) (later_one free p));
    restrictions =
        ap (λ z. z ++ restrictions_of (drop (k + 1) ss)) of_rs ∙ append_assoc rs (restrictions_of (s ∷ [])) (restrictions_of (drop (k + 1) ss))
        ∙ ap (λ z. rs ++ z) (restrictions_more s (drop (k + 1) ss)) ∙ ap (λ xs. rs ++ restrictions_of xs) (sym one_less) ∙ h.restrictions;
    lemmas =
        ap (λ z. z ++ lemmas_of (drop (k + 1) ss)) of_ls ∙ append_assoc ls (lemmas_of (s ∷ [])) (lemmas_of (drop (k + 1) ss)) ∙ ap (λ z. ls ++ z) (lemmas_more s (drop (k + 1) ss))
        ∙ ap (λ xs. ls ++ lemmas_of xs) (sym one_less) ∙ h.lemmas;
  }
