-- Rows of the table for formulas, backwards.
use Rattle.std.proofs.Common.{◌≡◌, ◌≤◌, ◌+◌, ◌-◌, ◌||◌, ℕ, Bool, true, false, inl, inr, List, [], ◌∷◌, Some, None, refl, arith}
use Rattle.std.specs.Prelude.{codes, max, if◌then◌else◌, not}
use Rattle.sap_terms.specs.Signature.{Sig}
use Rattle.sap_grammar.proofs.ReadingLaws.Limits.{le_of}
use Rattle.sap_grammar.specs.Words.{Word, is_lower, is_upper, mark, name, number, quoted, starts}
use Rattle.sap_grammar.specs.Reading.{as_name, is_name}
use Rattle.sap_grammar.specs.TermGrammar.{term_fresh, term_pub, term_quoted}
use Rattle.sap_formula_grammar.specs.FormulaGrammar.{IsAnd, IsIff, IsImp, IsOr, IsUn, atom_earlier, atom_same, binds_fresh, binds_message, binds_pub, binds_time, is_truth, time_plain, time_signed}
use Rattle.sap_draft.specs.declared.limits.TheConstants.{FILE_LIMITS}
use Rattle.sap_expect.specs.declared.wanted.Part.TheVariants.{Atom, Binders, Conjunction, Disjunction, Ended, Equivalence, Formula, Implication, LowerAtom, MoreBinders, MoreConjunction, MoreDisjunction, MoreEquivalence, MoreImplication, Time, Times, Truth, UpperAtom}
use Rattle.sap_expect.specs.FileTable.{Row, is_wanted, otherwise, row, row_among, rows}
use Rattle.sap_expect.specs.Letters.{IsLettered}
use Rattle.sap_expect.proofs.Meant.{AreOther, AreRow, Meaning, Same, first, is_any, is_capital, is_changed, is_named, is_quoted, is_sign, same}
use Rattle.sap_expect.proofs.MeantTerms.{IsBetween, name_term, symbol_term, tuple_term}
use Rattle.sap_expect.proofs.FactRows.{of_facts, small_args}
use Rattle.sap_expect.proofs.MeantFormulas.{AreMoreBinders, GoesOn, IsBehindLower, IsBehindTime, IsBehindTruth, IsBehindUpper, IsEnded, NoAnd, NoIff, NoImp, NoOr, Some as SomeForm, SomeAtom, SomeBinders, SomeTime, Whole, action_atom, and_alone, and_next, atom_of, binders_end, binders_next, binders_of, ended, equal_atom, every_of, exists_of, false_of, group_of, iff_alone, iff_next, imp_alone, imp_next, no_truth, not_of, one_and, one_or, or_alone, or_next, true_of, truth_alone, truth_fact, whole_of}

-- a truth value's name stands first
abbrev pub first_truth : List Word → Bool
first_truth [] = false
first_truth (w ∷ ws) = is_truth w

-- atoms are of no levels of formulas: here m are those of their terms
abbrev pub of_atoms : Sig → Meaning
of_atoms g Truth m n a k b = IsBehindTruth g a k b
of_atoms g Atom m n a k b = 1 ≤ m → m ≤ FILE_LIMITS.term_levels → first_truth a ≡ false → SomeAtom g a b
of_atoms g UpperAtom m n a k b = 1 ≤ m → m ≤ FILE_LIMITS.term_levels → IsBehindUpper g a b
of_atoms g LowerAtom m n a k b = 1 ≤ m → m ≤ FILE_LIMITS.term_levels → IsBehindLower g a b
of_atoms g Times m n a k b = IsBehindTime g a b
of_atoms g Time m n a k b = SomeTime a b
of_atoms g Binders m n a k b = SomeBinders a b
of_atoms g MoreBinders m n a k b = AreMoreBinders a b
of_atoms g p m n a k b = of_facts g p m n a k b

abbrev pub of_formulas : Sig → Meaning
of_formulas g Formula m n a k b = 1 ≤ m → SomeForm (IsUn g) a k b × IsBetween m k
of_formulas g Conjunction m n a k b = 1 ≤ m → Whole (IsAnd g) NoAnd m a k b
of_formulas g MoreConjunction m n a k b = IsBetween m n → GoesOn (IsAnd g) (IsAnd g) NoAnd m n a k b
of_formulas g Disjunction m n a k b = 1 ≤ m → Whole (IsOr g) NoOr m a k b
of_formulas g MoreDisjunction m n a k b = IsBetween m n → NoAnd a → GoesOn (IsOr g) (IsOr g) NoOr m n a k b
of_formulas g Implication m n a k b = 1 ≤ m → Whole (IsImp g) NoImp m a k b
of_formulas g MoreImplication m n a k b = IsBetween m n → NoOr a → GoesOn (IsOr g) (IsImp g) NoImp m n a k b
of_formulas g Equivalence m n a k b = 1 ≤ m → Whole (IsIff g) NoIff m a k b
of_formulas g MoreEquivalence m n a k b = IsBetween m n → NoImp a → GoesOn (IsImp g) (IsIff g) NoIff m n a k b
of_formulas g Ended m n a k b = NoImp a → IsEnded n a k b
of_formulas g p m n a k b = of_atoms g p m n a k b

-- none of the rows begins with the word
abbrev pub NoneBegin : List Row → Word → Type 0
NoneBegin [] w = Unit {0}
NoneBegin (r ∷ rs) w = (is_wanted r.0 w ≡ false) × NoneBegin rs w

pub none_begin : (rs : List Row) (w : Word) → row_among rs w ≡ None → NoneBegin rs w
none_begin [] w e = tt
none_begin (r ∷ rs) w e = by (is_wanted r.0 w) refl e (λ f. none_begin rs w f)
  where
    by : (t : Bool) → is_wanted r.0 w ≡ t → (if t then Some (r.1, r.2) else row_among rs w) ≡ None → (row_among rs w ≡ None → NoneBegin rs w) → NoneBegin (r ∷ rs) w
    by true q f k = absurd (cc (f))
    by false q f k = (q, k f)

no_or : (b c : Bool) → b ≡ false → c ≡ false → (b || c) ≡ false
no_or true c e f = e
no_or false c e f = f

pub is_no_truth : (w : Word) → is_name (codes "T") (as_name w) ≡ false → is_name (codes "F") (as_name w) ≡ false → is_truth w ≡ false
is_no_truth (mark x) e f = refl
is_no_truth (name x) e f = no_or _ _ e f
is_no_truth (number x) e f = refl
is_no_truth (quoted x) e f = refl

lower_of : (l u : Bool) → (l || u) ≡ true → u ≡ false → l ≡ true
lower_of true u e f = refl
lower_of false u e f = absurd (cc (e, f))

-- ends there
to_end : {g : Sig} (m : ℕ) {x : List Word} {n k : ℕ} {a b : List Word} → Same n a k b → SomeForm (IsUn g) x n a → IsBetween m n → SomeForm (IsUn g) x k b × IsBetween m k
to_end m same s i = (s, i)

imp_end : {g : Sig} {m i n k : ℕ} {x a b : List Word} → Same n a k b → GoesOn (IsOr g) (IsImp g) NoImp m i x n a → GoesOn (IsOr g) (IsImp g) NoImp m i x k b
imp_end same h = h

pub formula_row : {g : Sig} {m n : ℕ} {w : Word} {a : List Word} {k : ℕ} {b : List Word} → AreRow (of_formulas g) (rows Formula) m n w a k b → 1 ≤ m → SomeForm (IsUn g) (w ∷ a) k b × IsBetween m k
formula_row (inl (is_named, _, (_, _, h, same))) le = true_of le h
formula_row (inr (_, inl (is_named, _, (_, _, h, same)))) le = false_of le h
formula_row {m = m} (inr (_, inr (_, inl (is_sign, room, (_, _, h, (_, _, is_changed, e)))))) le =
    let two = le_of 2 m room in
    let s = h (omega (arith, two)) in
    let few = s.1.1 in
    to_end m e (not_of s.0) (omega arith, omega (arith, few, two))
formula_row {m = m} (inr (_, inr (_, inr (_, inl (is_sign, room, (_, _, v, (_, _, h, (_, _, is_changed, e)))))))) le =
    let two = le_of 2 m room in
    let s = h (omega (arith, two)) in
    let few = s.1.1 in
    to_end m e (every_of v.1 s) (omega arith, omega (arith, few, two))
formula_row {m = m} (inr (_, inr (_, inr (_, inr (_, inl (is_sign, room, (_, _, v, (_, _, h, (_, _, is_changed, e))))))))) le =
    let two = le_of 2 m room in
    let s = h (omega (arith, two)) in
    let few = s.1.1 in
    to_end m e (exists_of v.1 s) (omega arith, omega (arith, few, two))
formula_row {m = m} (inr (_, inr (_, inr (_, inr (_, inr (_, inl (is_sign, room, (_, _, h, (_, _, first is_sign, (_, _, is_changed, e)))))))))) le =
    let two = le_of 2 m room in
    let s = h (omega (arith, two)) in
    let few = s.1.1 in
    to_end m e (group_of s.0) (omega arith, omega (arith, few, two))
formula_row (inr (_, inr (_, inr (_, inr (_, inr (_, inr (_, h))))))) le = absurd h

pub formula_other : {g : Sig} {m n : ℕ} {w : Word} {a : List Word} {k : ℕ} {b : List Word} → row Formula w ≡ None → AreOther (of_formulas g) (otherwise Formula) m n (w ∷ a) k b → 1 ≤ m → SomeForm (IsUn g) (w ∷ a) k b × IsBetween m k
formula_other {w = w} e (_, (_, _, h, (_, _, is_changed, same))) le =
    let q = none_begin (rows Formula) w e in
    (atom_of (h (omega arith) (omega arith) (is_no_truth w q.0 q.1.0)), (omega arith, le))

pub conjunction_other : {g : Sig} (m n : ℕ) {w : Word} {a : List Word} {k : ℕ} {b : List Word} → AreOther (of_formulas g) (otherwise Conjunction) m n (w ∷ a) k b → 1 ≤ m → Whole (IsAnd g) NoAnd m (w ∷ a) k b
conjunction_other m n (_, (_, _, s, (_, _, h, same))) le =
    let f = s le in
    whole_of NoAnd (one_and f.0) (h f.1)

pub more_conjunction_row : {g : Sig} {m n : ℕ} {w : Word} {a : List Word} {k : ℕ} {b : List Word} → AreRow (of_formulas g) (rows MoreConjunction) m n w a k b → IsBetween m n → GoesOn (IsAnd g) (IsAnd g) NoAnd m n (w ∷ a) k b
more_conjunction_row {m = m} {n = n} (inl (is_sign, goes, (_, _, s, (_, _, is_changed, (_, _, h, same))))) i =
    let lt = le_of (n + 1) m goes in
    let f = s (omega (arith, i.0, lt)) in
    let few = f.1.1 in
    and_next f.0 (h (omega arith, omega (arith, few, lt)))
more_conjunction_row (inr (_, h)) i = absurd h

pub more_conjunction_other : {g : Sig} (m n : ℕ) {w : Word} {a : List Word} {k : ℕ} {b : List Word} → row MoreConjunction w ≡ None → AreOther (of_formulas g) (otherwise MoreConjunction) m n (w ∷ a) k b → IsBetween m n → GoesOn (IsAnd g) (IsAnd g) NoAnd m n (w ∷ a) k b
more_conjunction_other m n {w = w} e (_, same) i = and_alone i (none_begin (rows MoreConjunction) w e).0

pub disjunction_other : {g : Sig} (m n : ℕ) {w : Word} {a : List Word} {k : ℕ} {b : List Word} → AreOther (of_formulas g) (otherwise Disjunction) m n (w ∷ a) k b → 1 ≤ m → Whole (IsOr g) NoOr m (w ∷ a) k b
disjunction_other m n (_, (_, _, s, (_, _, h, same))) le =
    let f = s le in
    whole_of NoOr (one_or f.0) (h f.1 f.2)

pub more_disjunction_row : {g : Sig} {m n : ℕ} {w : Word} {a : List Word} {k : ℕ} {b : List Word} → AreRow (of_formulas g) (rows MoreDisjunction) m n w a k b → IsBetween m n → NoAnd (w ∷ a) → GoesOn (IsOr g) (IsOr g) NoOr m n (w ∷ a) k b
more_disjunction_row {m = m} {n = n} (inl (is_sign, goes, (_, _, s, (_, _, is_changed, (_, _, h, same))))) i free =
    let lt = le_of (n + 1) m goes in
    let f = s (omega (arith, i.0, lt)) in
    let few = f.1.1 in
    or_next f.0 (h (omega arith, omega (arith, few, lt)) f.2)
more_disjunction_row (inr (_, h)) i free = absurd h

pub more_disjunction_other : {g : Sig} (m n : ℕ) {w : Word} {a : List Word} {k : ℕ} {b : List Word} → row MoreDisjunction w ≡ None → AreOther (of_formulas g) (otherwise MoreDisjunction) m n (w ∷ a) k b → IsBetween m n → NoAnd (w ∷ a) → GoesOn (IsOr g) (IsOr g) NoOr m n (w ∷ a) k b
more_disjunction_other m n {w = w} e (_, same) i free = or_alone i (free, (none_begin (rows MoreDisjunction) w e).0)

pub implication_other : {g : Sig} (m n : ℕ) {w : Word} {a : List Word} {k : ℕ} {b : List Word} → AreOther (of_formulas g) (otherwise Implication) m n (w ∷ a) k b → 1 ≤ m → Whole (IsImp g) NoImp m (w ∷ a) k b
implication_other m n (_, (_, _, s, (_, _, h, same))) le =
    let f = s le in
    whole_of NoImp f.0 (h f.1 f.2)

pub more_implication_row : {g : Sig} {m n : ℕ} {w : Word} {a : List Word} {k : ℕ} {b : List Word} → AreRow (of_formulas g) (rows MoreImplication) m n w a k b → IsBetween m n → NoOr (w ∷ a) → GoesOn (IsOr g) (IsImp g) NoImp m n (w ∷ a) k b
more_implication_row {m = m} {n = n} (inl (is_sign, goes, (_, _, s, (_, _, is_changed, e)))) i free =
    let lt = le_of (n + 1) m goes in
    imp_end e (imp_next (s (omega (arith, i.0, lt))) lt)
more_implication_row (inr (_, h)) i free = absurd h

pub more_implication_other : {g : Sig} (m n : ℕ) {w : Word} {a : List Word} {k : ℕ} {b : List Word} → row MoreImplication w ≡ None → AreOther (of_formulas g) (otherwise MoreImplication) m n (w ∷ a) k b → IsBetween m n → NoOr (w ∷ a) → GoesOn (IsOr g) (IsImp g) NoImp m n (w ∷ a) k b
more_implication_other m n {w = w} e (_, same) i free = imp_alone i (free, (none_begin (rows MoreImplication) w e).0)

pub equivalence_other : {g : Sig} (m n : ℕ) {w : Word} {a : List Word} {k : ℕ} {b : List Word} → AreOther (of_formulas g) (otherwise Equivalence) m n (w ∷ a) k b → 1 ≤ m → Whole (IsIff g) NoIff m (w ∷ a) k b
equivalence_other m n (_, (_, _, s, (_, _, h, same))) le =
    let f = s le in
    whole_of NoIff f.0 (h f.1 f.2)

-- behind `<=>`
second_side : {g : Sig} {m n j : ℕ} {a b : List Word} {k : ℕ} {c : List Word} → Whole (IsImp g) NoImp (m - 1) a j b → n + 1 ≤ m → IsEnded (max n j + 1) b k c
    → GoesOn (IsImp g) (IsIff g) NoIff m n (mark (codes "<=>") ∷ a) k c
second_side f lt (ended free) = iff_next f free lt

pub more_equivalence_row : {g : Sig} {m n : ℕ} {w : Word} {a : List Word} {k : ℕ} {b : List Word} → AreRow (of_formulas g) (rows MoreEquivalence) m n w a k b → IsBetween m n → NoImp (w ∷ a) → GoesOn (IsImp g) (IsIff g) NoIff m n (w ∷ a) k b
more_equivalence_row {m = m} {n = n} (inl (is_sign, goes, (_, _, s, (_, _, is_changed, (_, _, h, same))))) i free =
    let lt = le_of (n + 1) m goes in
    let f = s (omega (arith, i.0, lt)) in
    second_side f lt (h f.2)
more_equivalence_row (inr (_, h)) i free = absurd h

pub more_equivalence_other : {g : Sig} (m n : ℕ) {w : Word} {a : List Word} {k : ℕ} {b : List Word} → row MoreEquivalence w ≡ None → AreOther (of_formulas g) (otherwise MoreEquivalence) m n (w ∷ a) k b → IsBetween m n → NoImp (w ∷ a) → GoesOn (IsImp g) (IsIff g) NoIff m n (w ∷ a) k b
more_equivalence_other m n {w = w} e (_, same) i free = iff_alone i (free, (none_begin (rows MoreEquivalence) w e).0)

pub ended_row : (g : Sig) (m n : ℕ) {w : Word} {a : List Word} {k : ℕ} {b : List Word} → AreRow (of_formulas g) (rows Ended) m n w a k b → NoImp (w ∷ a) → IsEnded n (w ∷ a) k b
ended_row g m n (inl (is_sign, never, same)) free = absurd (cc)
ended_row g m n (inr (_, h)) free = absurd h

pub ended_other : (g : Sig) (m n : ℕ) {w : Word} {a : List Word} {k : ℕ} {b : List Word} → row Ended w ≡ None → AreOther (of_formulas g) (otherwise Ended) m n (w ∷ a) k b → NoImp (w ∷ a) → IsEnded n (w ∷ a) k b
ended_other g m n {w = w} e (_, same) free = ended (free, (none_begin (rows Ended) w e).0)

pub truth_row : {g : Sig} (m n : ℕ) {w : Word} {a : List Word} {k : ℕ} {b : List Word} → AreRow (of_formulas g) (rows Truth) m n w a k b → IsBehindTruth g (w ∷ a) k b
truth_row m n (inl (is_sign, _, (_, _, s, (_, _, first is_sign, (_, _, t, (_, _, is_changed, same)))))) = truth_fact s.are (small_args s (omega arith)) t.1
truth_row m n (inr (_, h)) = absurd h

pub truth_other : {g : Sig} (m n : ℕ) {w : Word} {a : List Word} {k : ℕ} {b : List Word} → row Truth w ≡ None → AreOther (of_formulas g) (otherwise Truth) m n (w ∷ a) k b → IsBehindTruth g (w ∷ a) k b
truth_other m n {w = w} e (_, (_, _, is_changed, same)) = truth_alone (none_begin (rows Truth) w e).0

pub atom_row : {g : Sig} {m n : ℕ} {w : Word} {a : List Word} {k : ℕ} {b : List Word} → IsLettered w → AreRow (of_formulas g) (rows Atom) m n w a k b → 1 ≤ m → m ≤ FILE_LIMITS.term_levels → is_truth w ≡ false → SomeAtom g (w ∷ a) b
atom_row l (inl (is_capital {x = x} up, _, (_, _, h, same))) le few never = h le few x up never
atom_row l (inr (f, inl (is_any {x = x}, _, (_, _, h, same)))) le few never = h le few x (lower_of (is_lower x) (is_upper x) l f) never
atom_row l (inr (_, inr (_, inl (is_sign, _, (_, _, first is_any, (_, _, h, same)))))) le few never = h _
atom_row l (inr (_, inr (_, inr (_, inl (is_quoted, _, (_, _, first is_sign, (_, _, s, same))))))) le few never =
    equal_atom few few refl (record { tree = _; is = term_quoted; levels = refl; fits = (omega arith, le) }) (s le)
atom_row l (inr (_, inr (_, inr (_, inr (_, inl (is_sign, _, (_, _, first is_any, (_, _, first is_sign, (_, _, s, same))))))))) le few never =
    equal_atom few few refl (record { tree = _; is = term_fresh; levels = refl; fits = (omega arith, le) }) (s le)
atom_row l (inr (_, inr (_, inr (_, inr (_, inr (_, inl (is_sign, _, (_, _, first is_any, (_, _, first is_sign, (_, _, s, same)))))))))) le few never =
    equal_atom few few refl (record { tree = _; is = term_pub; levels = refl; fits = (omega arith, le) }) (s le)
atom_row {m = m} {a = a} l (inr (_, inr (_, inr (_, inr (_, inr (_, inr (_, inl (is_sign, room, (_, _, s, (_, _, h, (_, _, first is_sign, (_, _, q, same)))))))))))) le few never =
    let two = le_of 2 m room in
    let t = s (omega (arith, two)) in
    let less = t.fits.1 in
    equal_atom few few (no_truth (not (starts (codes "(") a)) false refl) (tuple_term t (h (t.fits.0, omega (arith, less, two)))) (q le)
atom_row l (inr (_, inr (_, inr (_, inr (_, inr (_, inr (_, inr (_, h)))))))) le few never = absurd h

pub upper_row : {g : Sig} {m : ℕ} (n : ℕ) {w : Word} {a : List Word} {k : ℕ} {b : List Word} → AreRow (of_formulas g) (rows UpperAtom) m n w a k b → 1 ≤ m → m ≤ FILE_LIMITS.term_levels → IsBehindUpper g (w ∷ a) b
upper_row n (inl (is_sign, _, (_, _, s, (_, _, first is_sign, (_, _, t, same))))) le few = λ x up never. action_atom few up s t.1
upper_row n (inr (_, inl (is_sign, _, (_, _, s, same)))) le few = λ x up never. equal_atom few few never (name_term x le) (s le)
upper_row n (inr (_, inr (_, inl (is_sign, _, (_, _, t, same))))) le few = λ x up never. (_, atom_earlier never time_plain t.1, tt)
upper_row n (inr (_, inr (_, inr (_, h)))) le few = absurd h

pub lower_row : {g : Sig} {m : ℕ} (n : ℕ) {w : Word} {a : List Word} {k : ℕ} {b : List Word} → AreRow (of_formulas g) (rows LowerAtom) m n w a k b → 1 ≤ m → m ≤ FILE_LIMITS.term_levels → IsBehindLower g (w ∷ a) b
lower_row n (inl (is_sign, _, (_, _, s, (_, _, first is_sign, (_, _, q, same))))) le few = λ x low never. equal_atom few few refl (symbol_term low le s) (q le)
lower_row n (inr (_, inl (is_sign, _, (_, _, s, same)))) le few = λ x low never. equal_atom few few never (name_term x le) (s le)
lower_row n (inr (_, inr (_, inl (is_sign, _, (_, _, t, same))))) le few = λ x low never. (_, atom_earlier never time_plain t.1, tt)
lower_row n (inr (_, inr (_, inr (_, h)))) le few = absurd h

pub times_row : {g : Sig} (m n : ℕ) {w : Word} {a : List Word} {k : ℕ} {b : List Word} → AreRow (of_formulas g) (rows Times) m n w a k b → IsBehindTime g (w ∷ a) b
times_row m n (inl (is_sign, _, (_, _, first is_sign, (_, _, first is_any, same)))) = λ i. (_, atom_same, tt)
times_row m n (inr (_, inl (is_sign, _, (_, _, t, same)))) = λ i. (_, atom_earlier refl time_signed t.1, tt)
times_row m n (inr (_, inr (_, h))) = absurd h

pub time_row : (g : Sig) (m n : ℕ) {w : Word} {a : List Word} {k : ℕ} {b : List Word} → AreRow (of_formulas g) (rows Time) m n w a k b → SomeTime (w ∷ a) b
time_row g m n (inl (is_any, _, same)) = (_, time_plain)
time_row g m n (inr (_, inl (is_sign, _, (_, _, first is_any, same)))) = (_, time_signed)
time_row g m n (inr (_, inr (_, h))) = absurd h

pub binders_row : (g : Sig) (m n : ℕ) {w : Word} {a : List Word} {k : ℕ} {b : List Word} → AreRow (of_formulas g) (rows Binders) m n w a k b → SomeBinders (w ∷ a) b
binders_row g m n (inl (is_any, _, (_, _, h, same))) = binders_of binds_message h
binders_row g m n (inr (_, inl (is_sign, _, (_, _, first is_any, (_, _, h, same))))) = binders_of binds_fresh h
binders_row g m n (inr (_, inr (_, inl (is_sign, _, (_, _, first is_any, (_, _, h, same)))))) = binders_of binds_pub h
binders_row g m n (inr (_, inr (_, inr (_, inl (is_sign, _, (_, _, first is_any, (_, _, h, same))))))) = binders_of binds_time h
binders_row g m n (inr (_, inr (_, inr (_, inr (_, h))))) = absurd h

pub more_binders_row : (g : Sig) (m n : ℕ) {w : Word} {a : List Word} {k : ℕ} {b : List Word} → AreRow (of_formulas g) (rows MoreBinders) m n w a k b → AreMoreBinders (w ∷ a) b
more_binders_row g m n (inl (is_sign, _, same)) = binders_end
more_binders_row g m n (inr (_, h)) = absurd h

pub more_binders_other : (g : Sig) (m n : ℕ) {w : Word} {a : List Word} {k : ℕ} {b : List Word} → AreOther (of_formulas g) (otherwise MoreBinders) m n (w ∷ a) k b → AreMoreBinders (w ∷ a) b
more_binders_other g m n (_, (_, _, s, same)) = binders_next s.1
