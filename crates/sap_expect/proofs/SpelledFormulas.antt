-- Formulas that follow the table are spelled by the grammar, with their levels.
use Rattle.std.proofs.Common.{◌≡◌, ◌≤◌, ℕ, List, [], ◌∷◌, None}
use Rattle.sap_terms.specs.Signature.{Sig}
use Rattle.sap_formula.specs.Form.{Form}
use Rattle.sap_grammar.specs.Words.{Word}
use Rattle.sap_formula_grammar.specs.FormulaGrammar.{IsIff, IsSmallForm, Reach}
use Rattle.sap_draft.specs.declared.limits.TheConstants.{FILE_LIMITS}
use Rattle.sap_expect.specs.declared.wanted.Limit.{Limit}
use Rattle.sap_expect.specs.declared.wanted.Part.{Part}
use Rattle.sap_expect.specs.declared.wanted.Part.TheVariants.{Application, Atom, Binders, Conjunction, Disjunction, Ended, Equivalence, Fact, Facts, Formula, Implication, LowerAtom, MoreBinders, MoreConjunction, MoreDisjunction, MoreEquivalence, MoreFacts, MoreImplication, MoreParts, MoreShown, MoreTerms, Pair, Shown, Term, Terms, Time, Times, Truth, UpperAtom}
use Rattle.sap_expect.specs.FileTable.{Open, Reads, otherwise, part, row, rows}
use Rattle.sap_expect.specs.Letters.{AreLettered, IsLettered}
use Rattle.sap_expect.proofs.Meant.{AreOther, AreRow, Each, Meaning, Parted, parted, reads_of}
use Rattle.sap_expect.proofs.FormulaRows.{atom_row, binders_row, conjunction_other, disjunction_other, ended_other, ended_row, equivalence_other, formula_other, formula_row, implication_other, lower_row, more_binders_other, more_binders_row, more_conjunction_other, more_conjunction_row, more_disjunction_other, more_disjunction_row, more_equivalence_other, more_equivalence_row, more_implication_other, more_implication_row, of_formulas, time_row, times_row, truth_other, truth_row, upper_row}
use Rattle.sap_expect.proofs.SpelledTerms.{fact_others, fact_rows}

pub each_lettered : (M : Meaning) (ws : List Word) → AreLettered ws → Each M IsLettered ws
each_lettered M [] l = tt
each_lettered M (w ∷ ws) l = (l.0, each_lettered M ws l.1)

module _ (g : Sig) where
  pub formula_rows : (p : Part) (m n : ℕ) (w : Word) (a : List Word) (k : ℕ) (b : List Word) → IsLettered w → AreRow (of_formulas g) (rows p) m n w a k b → of_formulas g p m n (w ∷ a) k b
  formula_rows Formula m n w a k b l h = formula_row h
  formula_rows MoreConjunction m n w a k b l h = more_conjunction_row h
  formula_rows MoreDisjunction m n w a k b l h = more_disjunction_row h
  formula_rows MoreImplication m n w a k b l h = more_implication_row h
  formula_rows MoreEquivalence m n w a k b l h = more_equivalence_row h
  formula_rows Ended m n w a k b l h = ended_row g m n h
  formula_rows Conjunction m n w a k b l h = absurd h
  formula_rows Disjunction m n w a k b l h = absurd h
  formula_rows Implication m n w a k b l h = absurd h
  formula_rows Equivalence m n w a k b l h = absurd h
  formula_rows Truth m n w a k b l h = truth_row m n h
  formula_rows Atom m n w a k b l h = atom_row l h
  formula_rows UpperAtom m n w a k b l h = upper_row n h
  formula_rows LowerAtom m n w a k b l h = lower_row n h
  formula_rows Times m n w a k b l h = times_row m n h
  formula_rows Time m n w a k b l h = time_row g m n h
  formula_rows Binders m n w a k b l h = binders_row g m n h
  formula_rows MoreBinders m n w a k b l h = more_binders_row g m n h
  formula_rows Term m n w a k b l h = fact_rows g Term m n w a k b h
  formula_rows Application m n w a k b l h = fact_rows g Application m n w a k b h
  formula_rows Terms m n w a k b l h = fact_rows g Terms m n w a k b h
  formula_rows MoreTerms m n w a k b l h = fact_rows g MoreTerms m n w a k b h
  formula_rows Pair m n w a k b l h = fact_rows g Pair m n w a k b h
  formula_rows MoreParts m n w a k b l h = fact_rows g MoreParts m n w a k b h
  formula_rows Fact m n w a k b l h = fact_rows g Fact m n w a k b h
  formula_rows Facts m n w a k b l h = fact_rows g Facts m n w a k b h
  formula_rows MoreFacts m n w a k b l h = fact_rows g MoreFacts m n w a k b h
  formula_rows Shown m n w a k b l h = fact_rows g Shown m n w a k b h
  formula_rows MoreShown m n w a k b l h = fact_rows g MoreShown m n w a k b h
  formula_rows p m n w a k b l h = tt

  pub formula_others : (p : Part) (m n : ℕ) (w : Word) (a : List Word) (k : ℕ) (b : List Word) → IsLettered w → row p w ≡ None → AreOther (of_formulas g) (otherwise p) m n (w ∷ a) k b
      → of_formulas g p m n (w ∷ a) k b
  formula_others Formula m n w a k b l e h = formula_other e h
  formula_others Conjunction m n w a k b l e h = conjunction_other m n h
  formula_others MoreConjunction m n w a k b l e h = more_conjunction_other m n e h
  formula_others Disjunction m n w a k b l e h = disjunction_other m n h
  formula_others MoreDisjunction m n w a k b l e h = more_disjunction_other m n e h
  formula_others Implication m n w a k b l e h = implication_other m n h
  formula_others MoreImplication m n w a k b l e h = more_implication_other m n e h
  formula_others Equivalence m n w a k b l e h = equivalence_other m n h
  formula_others MoreEquivalence m n w a k b l e h = more_equivalence_other m n e h
  formula_others Ended m n w a k b l e h = ended_other g m n e h
  formula_others Truth m n w a k b l e h = truth_other m n e h
  formula_others MoreBinders m n w a k b l e h = more_binders_other g m n h
  formula_others Atom m n w a k b l e h = absurd h
  formula_others UpperAtom m n w a k b l e h = absurd h
  formula_others LowerAtom m n w a k b l e h = absurd h
  formula_others Times m n w a k b l e h = absurd h
  formula_others Time m n w a k b l e h = absurd h
  formula_others Binders m n w a k b l e h = absurd h
  formula_others Application m n w a k b l e h = fact_others g Application m n w a k b e h
  formula_others Terms m n w a k b l e h = fact_others g Terms m n w a k b e h
  formula_others Facts m n w a k b l e h = fact_others g Facts m n w a k b e h
  formula_others Term m n w a k b l e h = absurd h
  formula_others MoreTerms m n w a k b l e h = absurd h
  formula_others Pair m n w a k b l e h = absurd h
  formula_others MoreParts m n w a k b l e h = absurd h
  formula_others Fact m n w a k b l e h = absurd h
  formula_others MoreFacts m n w a k b l e h = absurd h
  formula_others Shown m n w a k b l e h = absurd h
  formula_others MoreShown m n w a k b l e h = absurd h
  formula_others p m n w a k b l e h = tt

  parts : (n : ℕ) (vs : List Open) (ws : List Word) → Reads n vs ws → AreLettered ws → Parted (of_formulas g) n vs ws
  parts n vs ws r l = parted (of_formulas g) IsLettered formula_rows formula_others r (each_lettered (of_formulas g) ws l)

  pub formula_spelled : (n m : ℕ) (l : Limit) (vs : List Open) (ws : List Word) → AreLettered ws → 1 ≤ m → Reads n ((part Equivalence l, m) ∷ vs) ws
      → (e : Reach) × (f : Form) × (k : ℕ) × (b : List Word) × IsIff g e f k ws b × IsSmallForm FILE_LIMITS f × (k ≤ m) × Reads k vs b
  formula_spelled n m l vs ws letters le r =
      let h = parts n ((part Equivalence l, m) ∷ vs) ws r letters in
      let s = h.1.2 le in
      (s.0.reach, s.0.form, h.1.0, h.1.1, s.0.is, s.0.small, s.1.1, reads_of (of_formulas g) h.1.0 vs h.1.1 h.1.3)
