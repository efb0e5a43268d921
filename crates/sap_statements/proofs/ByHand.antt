-- Words that are a formula or a lemma, and words that are none.
use Rattle.std.proofs.Common.{◌≡◌, ◌≤◌, ◌<◌, ◌+◌, ℕ, Bool, true, false, List, [], ◌∷◌, length, None, Some, refl, ap, arith}
use Rattle.std.proofs.lemmas.List.Elements.{All-nil, All-cons, All-head, All-tail}
use Rattle.std.specs.Prelude.{codes}
use Rattle.sap_terms.specs.Signature.{Sig, pairs_alone}
use Rattle.sap_terms.specs.Tree.{Tree}
use Rattle.sap_formula.specs.Form.{Form, truth, falsity, action, equal, same_time, earlier, negation, both, either, implies, equivalent, every, exists}
use Rattle.sap_formula.specs.declared.binder.Binder.{Binder}
use Rattle.sap_grammar.specs.declared.limits.Limits.{Limits}
use Rattle.sap_grammar.specs.Words.{Word, starts}
use Rattle.sap_grammar.specs.Reading.{Read, after, given, past}
use Rattle.sap_grammar.specs.Sizes.{IsSmall, AreSmall}
use Rattle.sap_grammar.specs.TermGrammar.{term_message}
use Rattle.sap_statements.specs.FormulaExamples.{closing, precedence_words, precedence_formula, left_words, left_formula, right_words, right_formula, body_words, body_formula, chain_words, enclosed_words, enclosed_formula, name_words, name_formula, truth_words, lemma_words, lemma_statement}
use Rattle.sap_formula_grammar.specs.FormulaGrammar.{IsTime, time_signed, time_plain, IsAtom, atom_true, atom_false, atom_action, atom_equal, atom_same, atom_earlier, IsBinder, binds_message, binds_fresh, binds_pub, binds_time, AreBinders, binders_last, binders_more, Reach, closed, reaching, IsUn, IsAnd, IsOr, IsImp, IsIff, un_atom, un_not, un_every, un_exists, un_parentheses, and_one, and_more, or_one, or_more, imp_one, imp_more, iff_one, iff_more, IsSmallForm, IsShortFormula}
use Rattle.sap_formula_grammar.specs.FormulaReading.{short_formula, un, imp}
use Rattle.sap_statements.specs.Statements.{IsStatement, is_lemma, with_attributes, attributes_more, attributes_last, is_reuse, is_use_induction, mode_exists}
use Rattle.sap_statements.specs.code.FormulaLaws.{FormulaLaws}
use Rattle.sap_grammar.proofs.ReadingLaws.Ends.{term_shorter, fact_shorter}

-- what follows a part of a formula is shorter
time_shorter : {i : List ℕ} {a b : List Word} → IsTime i a b → length b < length a
time_shorter time_signed = omega arith
time_shorter time_plain = omega arith

atom_shorter : {g : Sig} {f : Form} {a b : List Word} → IsAtom g f a b → length b < length a
atom_shorter (atom_true e) = omega arith
atom_shorter (atom_false e) = omega arith
atom_shorter (atom_action r p t) = omega (arith, fact_shorter r, time_shorter t)
atom_shorter (atom_equal plain r s) = omega (arith, term_shorter r, term_shorter s)
atom_shorter atom_same = omega arith
atom_shorter (atom_earlier plain r s) = omega (arith, time_shorter r, time_shorter s)

binder_shorter : {v : Binder} {a b : List Word} → IsBinder v a b → length b < length a
binder_shorter binds_message = omega arith
binder_shorter binds_fresh = omega arith
binder_shorter binds_pub = omega arith
binder_shorter binds_time = omega arith

binders_shorter : {vs : List Binder} {a b : List Word} → AreBinders vs a b → length b < length a
binders_shorter (binders_last r) = omega (arith, binder_shorter r)
binders_shorter (binders_more r s) = omega (arith, binder_shorter r, binders_shorter s)

-- Text has as many words as levels at least.
mutual
  un_levels : {g : Sig} {e : Reach} {f : Form} {n : ℕ} {a b : List Word} → IsUn g e f n a b → n + length b ≤ length a
  un_levels (un_atom r) = omega (arith, atom_shorter r)
  un_levels (un_not r) = omega (arith, un_levels r)
  un_levels (un_every r s) = omega (arith, binders_shorter r, iff_levels s)
  un_levels (un_exists r s) = omega (arith, binders_shorter r, iff_levels s)
  un_levels (un_parentheses r) = omega (arith, iff_levels r)

  and_levels : {g : Sig} {e : Reach} {f : Form} {n : ℕ} {a b : List Word} → IsAnd g e f n a b → n + length b ≤ length a
  and_levels (and_one r) = un_levels r
  and_levels (and_more r s) = omega (arith, and_levels r, un_levels s)

  or_levels : {g : Sig} {e : Reach} {f : Form} {n : ℕ} {a b : List Word} → IsOr g e f n a b → n + length b ≤ length a
  or_levels (or_one r) = and_levels r
  or_levels (or_more r s) = omega (arith, or_levels r, and_levels s)

  imp_levels : {g : Sig} {e : Reach} {f : Form} {n : ℕ} {a b : List Word} → IsImp g e f n a b → n + length b ≤ length a
  imp_levels (imp_one r) = or_levels r
  imp_levels (imp_more r s) = omega (arith, or_levels r, imp_levels s)

  iff_levels : {g : Sig} {e : Reach} {f : Form} {n : ℕ} {a b : List Word} → IsIff g e f n a b → n + length b ≤ length a
  iff_levels (iff_one r) = imp_levels r
  iff_levels (iff_more r s) = omega (arith, imp_levels r, imp_levels s)

-- `=` stands behind what was read
abbrev equals_behind : Read Form → Bool
equals_behind None = false
equals_behind (Some p) = starts (codes "=") p.1

-- limits with as many levels of formulas
abbrev wide : Limits → ℕ → Limits
wide m d = record { name_bytes = m.name_bytes; term_levels = m.term_levels; term_nodes = m.term_nodes; formula_levels = d }

-- what is small for the ones is for the others
module _ (m : Limits) (d : ℕ) where
  small_term : (t : Tree) → IsSmall m t → IsSmall (wide m d) t
  small_term t h = record { few_levels = h.few_levels; few_nodes = h.few_nodes }

  small_terms : (ts : List Tree) → AreSmall m ts → AreSmall (wide m d) ts
  small_terms [] h = All-nil (IsSmall (wide m d))
  small_terms (t ∷ ts) h = All-cons (IsSmall (wide m d)) t ts (small_term t (All-head (IsSmall m) t ts h)) (small_terms ts (All-tail (IsSmall m) t ts h))

  small_form : (f : Form) → IsSmallForm m f → IsSmallForm (wide m d) f
  small_form truth h = tt
  small_form falsity h = tt
  small_form (action f i) h = small_terms f.args h
  small_form (equal t u) h = (small_term t h.0, small_term u h.1)
  small_form (same_time i j) h = tt
  small_form (earlier i j) h = tt
  small_form (negation f) h = small_form f h
  small_form (both f k) h = (small_form f h.0, small_form k h.1)
  small_form (either f k) h = (small_form f h.0, small_form k h.1)
  small_form (implies f k) h = (small_form f h.0, small_form k h.1)
  small_form (equivalent f k) h = (small_form f h.0, small_form k h.1)
  small_form (every vs f) h = small_form f h
  small_form (exists vs f) h = small_form f h

-- what is short is read within as many levels as there are words
module _ (laws : FormulaLaws) (g : Sig) (m : Limits) (f : Form) where
  all_read : (a : List Word) (d : ℕ) → length a ≤ d → IsShortFormula g m f a closing → short_formula g (wide m d) a ≡ Some (f, closing)
  all_read a d le r =
      let wider : IsShortFormula g (wide m d) f a closing =
      record { reach = r.reach; levels = r.levels; spelled = r.spelled; few_levels = omega (arith, le, iff_levels r.spelled); small = small_form m d f r.small } in
      laws.read g (wide m d) f a closing wider (record { no_parenthesis = refl; no_and = refl; no_or = refl; no_imp = refl; no_iff = refl })

  pub chain_is_none : IsShortFormula g m f chain_words closing → ⊥
  unfolding short_formula un imp after given past
  chain_is_none r = let found = all_read chain_words 10 (omega arith) r in let none : ◌≡◌ {A = Read Form} None (Some (f, closing)) = found in absurd (cc)

  pub truth_is_none : IsShortFormula g m f truth_words closing → ⊥
  unfolding short_formula un imp after given past
  truth_is_none r = let clash : true ≡ false = ap equals_behind (all_read truth_words 4 (omega arith) r) in absurd (cc (clash))

atom : {g : Sig} {f : Form} {a b : List Word} → IsAtom g f a b → IsAnd g closed f 1 a b
atom r = and_one (un_atom r)

pub precedence_is : (g : Sig) → IsIff g closed precedence_formula 5 precedence_words closing
precedence_is g =
    iff_more (imp_more (or_more (or_one (and_more (atom (atom_true refl)) (un_atom (atom_false refl)))) (and_one (un_not (un_atom (atom_true refl)))))
    (imp_one (or_one (atom (atom_false refl))))) (imp_one (or_one (atom (atom_true refl))))

pub left_is : (g : Sig) → IsIff g closed left_formula 3 left_words closing
left_is g = iff_one (imp_one (or_one (and_more (and_more (atom (atom_true refl)) (un_atom (atom_false refl))) (un_atom (atom_true refl)))))

pub right_is : (g : Sig) → IsIff g closed right_formula 3 right_words closing
right_is g = iff_one (imp_more (or_one (atom (atom_true refl))) (imp_more (or_one (atom (atom_false refl))) (imp_one (or_one (atom (atom_true refl))))))

pub body_is : (g : Sig) → IsIff g reaching body_formula 3 body_words closing
body_is g =
    iff_one (imp_one (or_one (and_one (un_exists (binders_more binds_message (binders_last binds_time)) (iff_one (imp_one (or_one (and_more (atom atom_same) (un_atom (atom_false refl))))))))))

pub enclosed_is : (g : Sig) → IsIff g closed enclosed_formula 5 enclosed_words closing
enclosed_is g =
    iff_more (imp_one (or_one (and_one (un_parentheses (iff_one (imp_one (or_one (and_one (un_every (binders_last binds_time)
    (iff_more (imp_one (or_one (atom (atom_true refl)))) (imp_one (or_one (atom (atom_true refl)))))))))))))) (imp_one (or_one (atom (atom_true refl))))

pub name_is : IsIff pairs_alone closed name_formula 1 name_words closing
name_is = iff_one (imp_one (or_one (atom (atom_equal refl (term_message (λ e. absurd (cc (e)))) (term_message (λ e. absurd (cc (e))))))))

pub lemma_is : (g : Sig) (m : Limits) → 1 ≤ m.formula_levels → IsStatement g m lemma_statement lemma_words
lemma_is g m le =
    is_lemma (with_attributes (attributes_more is_reuse (attributes_last is_use_induction))) mode_exists
    (record { reach = closed; levels = 1; spelled = iff_one (imp_one (or_one (atom (atom_false refl)))); few_levels = le; small = tt })
