-- The words of a formula that can be printed spell it, and stand in front of any others.
use Rattle.std.proofs.Common.{◌≡◌, ◌≤◌, ◌<◌, max, ℕ, zero, suc, ◌+◌, Bool, true, false, List, [], ◌∷◌, ◌++◌, refl, ap, subst, ◌∙◌, arith, rules}
use Rattle.std.specs.Prelude.{codes, nat_lt, nat_le, ◌&&◌, not}
use Rattle.std.specs.Str.{bytes_eq}
use Rattle.sap_terms.specs.declared.var.Sort.{Sort}
use Rattle.sap_terms.specs.declared.var.Sort.TheVariants.{Msg, Fresh, Pub}
use Rattle.sap_terms.specs.Tree.{Tree, variable, public, fresh, apply, none, more}
use Rattle.sap_terms.specs.Signature.{Sig}
use Rattle.sap_formula.specs.Form.{Form, truth, falsity, action, equal, same_time, earlier, negation, both, either, implies, equivalent, every, exists}
use Rattle.sap_formula.specs.declared.binder.Binder.{Binder}
use Rattle.sap_formula.specs.declared.binder.Binder.TheVariants.{Message, Time}
use Rattle.sap_grammar.specs.Words.{Word, mark, name, starts}
use Rattle.sap_grammar.specs.TermGrammar.{sorted}
use Rattle.sap_grammar.specs.Printable.{IsTidy}
use Rattle.sap_grammar.specs.Printed.{ArePrinted}
use Rattle.sap_grammar.specs.PrintedWords.{Before, enclosed, variable_words, term_words, fact_words}
use Rattle.sap_formula_grammar.specs.FormulaGrammar.{is_truth_name, begins_truth, time_signed, time_plain, atom_true, atom_false, atom_action, atom_equal, atom_same, atom_earlier, IsBinder, binds_message, binds_fresh, binds_pub, binds_time, AreBinders, binders_last, binders_more, Reach, closed, reaching, IsUn, IsAnd, IsOr, IsImp, IsIff, un_atom, un_not, un_every, un_exists, un_parentheses, and_one, and_more, or_one, or_more, imp_one, imp_more, iff_one, iff_more}
use Rattle.sap_statements.specs.Printable.{is_written_as_truth, AreSome, IsTidyForm}
use Rattle.sap_formula_text.specs.FormulaText.{strength}
use Rattle.sap_theory.specs.FormulaLevels.{levels_in_place, text_levels}
use Rattle.sap_theory.proofs.FormulaWords.{binder_words, binders_words, placed_words, form_words}

-- Formulas.
binder_spelled : (v : Binder) (k : List Word) → IsBinder v (binder_words v k) k
binder_spelled (Message v) k = by_sort v.sort v.name
  where
    by_sort : (s : Sort) (x : List ℕ) → IsBinder (Message (record { name = x; sort = s })) (variable_words s x k) k
    by_sort Msg x = binds_message
    by_sort Fresh x = binds_fresh
    by_sort Pub x = binds_pub
binder_spelled (Time i) k = binds_time

binders_spelled : (vs : List Binder) → AreSome vs → (k : List Word) → AreBinders vs (binders_words vs (mark (codes ".") ∷ k)) k
binders_spelled [] h k = absurd h
binders_spelled (v ∷ []) h k = binders_last (binder_spelled v (mark (codes ".") ∷ k))
binders_spelled (v ∷ w ∷ vs) h k = binders_more (binder_spelled v _) (binders_spelled (w ∷ vs) tt k)

-- no truth value stands where a term does
never : (b : Bool) → (not b && false) ≡ false
never true = refl
never false = refl

never_both : (b c : Bool) → c ≡ false → (not b && c) ≡ false
never_both b c e = rw e (never b)

no_truth : (g : Sig) (t : Tree) → IsTidy g t → is_written_as_truth t ≡ false → (k : List Word) → begins_truth (term_words false t k) ≡ false
no_truth g (variable v) h e k = by_sort v.sort v.name e
  where
    by_sort : (s : Sort) (x : List ℕ) → is_written_as_truth (sorted s x) ≡ false → begins_truth (variable_words s x k) ≡ false
    by_sort Msg x e = never_both (starts (codes "(") k) (is_truth_name x) e
    by_sort Fresh x e = refl
    by_sort Pub x e = refl
no_truth g (public n) h e k = never (starts (codes "(") k)
no_truth g (fresh i) h e k = refl
no_truth g (apply f none) h e k = never_both (starts (codes "(") k) (is_truth_name f) e
no_truth g (apply f (more t none)) h e k = refl
no_truth g (apply f (more t (more u none))) h e k = by_pair (bytes_eq f (codes "pair")) refl
  where
    by_pair : (c : Bool) → bytes_eq f (codes "pair") ≡ c → begins_truth (term_words false (apply f (more t (more u none))) k) ≡ false
    by_pair true e = rw e (never (starts (codes "(") (term_words false t (mark (codes ",") ∷ term_words true u (mark (codes ">") ∷ k)))))
    by_pair false e = rw e refl
no_truth g (apply f (more t (more u (more w ts)))) h e k = refl

-- spelled in so many levels in a place that asks for so much strength
abbrev pub IsPlaced : Sig → ℕ → ℕ → Form → List Word → List Word → Type 0
IsPlaced g zero n f a b = (e : Reach) × IsIff g e f n a b
IsPlaced g (suc zero) n f a b = IsIff g closed f n a b
IsPlaced g (suc (suc zero)) n f a b = IsImp g closed f n a b
IsPlaced g (suc (suc (suc zero))) n f a b = IsOr g closed f n a b
IsPlaced g (suc (suc (suc (suc zero)))) n f a b = IsAnd g closed f n a b
IsPlaced g (suc (suc (suc (suc (suc s))))) n f a b = IsUn g closed f n a b

module _ (g : Sig) (n : ℕ) (f : Form) (a b : List Word) where
  weaker : (s : ℕ) → IsPlaced g (suc s) n f a b → IsPlaced g s n f a b
  weaker zero r = (closed, r)
  weaker (suc zero) r = iff_one r
  weaker (suc (suc zero)) r = imp_one r
  weaker (suc (suc (suc zero))) r = or_one r
  weaker (suc (suc (suc (suc zero)))) r = and_one r
  weaker (suc (suc (suc (suc (suc s))))) r = r

  lower : (s asked : ℕ) → asked ≤ s → IsPlaced g s n f a b → IsPlaced g asked n f a b
  lower zero asked le r = let same : 0 ≡ asked = omega (arith, le) in subst (λ (i : ℕ). IsPlaced g i n f a b) same r
  lower (suc s) asked le r = by_place (nat_le asked s) refl (λ le. lower s asked le (weaker s r))
    where
      le_of : (m n : ℕ) → nat_le m n ≡ true → m ≤ n
      le_of m n e = search rules

      more_of : (m n : ℕ) → nat_le m n ≡ false → n < m
      more_of m n e = search rules

      by_place : (c : Bool) → nat_le asked s ≡ c → (asked ≤ s → IsPlaced g asked n f a b) → IsPlaced g asked n f a b
      by_place true e next = next (le_of asked s e)
      by_place false e next = let same : suc s ≡ asked = omega (arith, le, more_of asked s e) in subst (λ (i : ℕ). IsPlaced g i n f a b) same r

-- in parentheses where its place asks for more strength than it has
placed_spelled : (g : Sig) (asked : ℕ) (f : Form) (n : ℕ) (words : List Word → List Word) → asked ≤ 6
    → ((k : List Word) → starts (codes "(") k ≡ false → IsPlaced g (strength f) n f (words k) k)
    → (k : List Word) → starts (codes "(") k ≡ false → IsPlaced g asked (levels_in_place asked f n) f (placed_words asked f words k) k
placed_spelled g asked f n words le bare k ends = by_strength (nat_lt (strength f) asked) refl
  where
    enclosing : IsPlaced g 0 n f (words (mark (codes ")") ∷ k)) (mark (codes ")") ∷ k) → IsPlaced g 6 (n + 1) f (mark (codes "(") ∷ words (mark (codes ")") ∷ k)) k
    enclosing r = un_parentheses r.1

    not_less : (m n : ℕ) → nat_lt m n ≡ false → n ≤ m
    not_less m n e = search rules

    by_strength : (c : Bool) → nat_lt (strength f) asked ≡ c → IsPlaced g asked (levels_in_place asked f n) f (placed_words asked f words k) k
    by_strength true e =
        rw e (lower g (n + 1) f _ k 6 asked le (enclosing (lower g n f _ _ (strength f) 0 (omega arith) (bare (mark (codes ")") ∷ k) refl))))
    by_strength false e = rw e (lower g n f _ k (strength f) asked (not_less (strength f) asked e) (bare k ends))

module _ (printed : ArePrinted) where
  pub form_spelled : (g : Sig) (f : Form) → IsTidyForm g f → (asked : ℕ) → asked ≤ 6 → (k : List Word) → starts (codes "(") k ≡ false → IsPlaced g asked (text_levels asked f) f (form_words asked f k) k
  form_spelled g truth h asked le = placed_spelled g asked truth 1 _ le (λ k e. un_atom (atom_true e))
  form_spelled g falsity h asked le = placed_spelled g asked falsity 1 _ le (λ k e. un_atom (atom_false e))
  form_spelled g (action f i) h asked le = placed_spelled g asked (action f i) 1 _ le (λ k e. un_atom (atom_action (printed.fact_spelled g f h.1 (mark (codes "@") ∷ name i ∷ k)) h.0 time_plain))
  form_spelled g (equal t u) h asked le =
      placed_spelled g asked (equal t u) 1 _ le (λ k e. un_atom (atom_equal (no_truth g t h.1 h.0 _) (printed.term_spelled g t h.1 (mark (codes "=") ∷ term_words false u k)) (printed.term_spelled g u h.2 k)))
  form_spelled g (same_time i j) h asked le = placed_spelled g asked (same_time i j) 1 _ le (λ k e. un_atom atom_same)
  form_spelled g (earlier i j) h asked le = placed_spelled g asked (earlier i j) 1 _ le (λ k e. un_atom (atom_earlier refl time_signed time_signed))
  form_spelled g (negation f) h asked le =
      placed_spelled g asked (negation f) (text_levels 6 f + 1) _ le (λ k e. un_not (form_spelled g f h 6 (omega arith) k e))
  form_spelled g (both f h) t asked le =
      placed_spelled g asked (both f h) (max (text_levels 4 f) (text_levels 5 h) + 1) _ le (λ k e. and_more (form_spelled g f t.0 4 (omega arith) (mark (codes "&") ∷ form_words 5 h k) refl) (form_spelled g h t.1 5 (omega arith) k e))
  form_spelled g (either f h) t asked le =
      placed_spelled g asked (either f h) (max (text_levels 3 f) (text_levels 4 h) + 1) _ le (λ k e. or_more (form_spelled g f t.0 3 (omega arith) (mark (codes "|") ∷ form_words 4 h k) refl) (form_spelled g h t.1 4 (omega arith) k e))
  form_spelled g (implies f h) t asked le =
      placed_spelled g asked (implies f h) (max (text_levels 3 f) (text_levels 2 h) + 1) _ le (λ k e. imp_more (form_spelled g f t.0 3 (omega arith) (mark (codes "==>") ∷ form_words 2 h k) refl) (form_spelled g h t.1 2 (omega arith) k e))
  form_spelled g (equivalent f h) t asked le =
      placed_spelled g asked (equivalent f h) (max (text_levels 2 f) (text_levels 2 h) + 1) _ le (λ k e. iff_more (form_spelled g f t.0 2 (omega arith) (mark (codes "<=>") ∷ form_words 2 h k) refl) (form_spelled g h t.1 2 (omega arith) k e))
  form_spelled g (every bs f) h asked le =
      placed_spelled g asked (every bs f) (text_levels 0 f + 1) _ le (λ k e.
      (reaching, iff_one (imp_one (or_one (and_one (un_every (binders_spelled bs h.0 (form_words 0 f k)) (form_spelled g f h.1 0 (omega arith) k e).1))))))
  form_spelled g (exists bs f) h asked le =
      placed_spelled g asked (exists bs f) (text_levels 0 f + 1) _ le (λ k e.
      (reaching, iff_one (imp_one (or_one (and_one (un_exists (binders_spelled bs h.0 (form_words 0 f k)) (form_spelled g f h.1 0 (omega arith) k e).1))))))

-- What is written before words stands in front of them, whatever they are.
abbrev pub IsFront : Before → Type 0
IsFront words = (k l : List Word) → words (k ++ l) ≡ words k ++ l

enclosed_front : (asked : Bool) (opening closing : List ℕ) (words : Before) → IsFront words → IsFront (enclosed asked opening closing words)
enclosed_front true opening closing words w k l = ap (λ (x : List Word). mark opening ∷ x) (w (mark closing ∷ k) l)
enclosed_front false opening closing words w k l = w k l

binder_front : (b : Binder) → IsFront (binder_words b)
binder_front (Message v) k l = by_sort v.sort v.name
  where
    by_sort : (s : Sort) (x : List ℕ) → variable_words s x (k ++ l) ≡ variable_words s x k ++ l
    by_sort Msg x = refl
    by_sort Fresh x = refl
    by_sort Pub x = refl
binder_front (Time i) k l = refl

binders_front : (bs : List Binder) → IsFront (binders_words bs)
binders_front [] k l = refl
binders_front (b ∷ bs) k l = ap (λ (x : List Word). binder_words b x) (binders_front bs k l) ∙ binder_front b (binders_words bs k) l

-- two with a mark between them
two_front : (v w : Before) (m : List ℕ) → IsFront v → IsFront w → IsFront (λ k. v (mark m ∷ w k))
two_front v w m a b k l = ap (λ (x : List Word). v (mark m ∷ x)) (b k l) ∙ a (mark m ∷ w k) l

quantified_front : (m : List ℕ) (bs : List Binder) (w : Before) → IsFront w → IsFront (λ k. mark m ∷ binders_words bs (mark (codes ".") ∷ w k))
quantified_front m bs w b k l = ap (λ (x : List Word). mark m ∷ x) (two_front (binders_words bs) w (codes ".") (binders_front bs) b k l)

module _ (printed : ArePrinted) where
  pub form_front : (asked : ℕ) (f : Form) → IsFront (form_words asked f)
  form_front asked truth = enclosed_front (nat_lt 6 asked) (codes "(") (codes ")") (λ k. name (codes "T") ∷ k) (λ k l. refl)
  form_front asked falsity = enclosed_front (nat_lt 6 asked) (codes "(") (codes ")") (λ k. name (codes "F") ∷ k) (λ k l. refl)
  form_front asked (action f i) =
      enclosed_front (nat_lt 6 asked) (codes "(") (codes ")") (λ k. fact_words f (mark (codes "@") ∷ name i ∷ k)) (λ k l. printed.fact_front f (mark (codes "@") ∷ name i ∷ k) l)
  form_front asked (equal t u) =
      enclosed_front (nat_lt 5 asked) (codes "(") (codes ")") (λ k. term_words false t (mark (codes "=") ∷ term_words false u k)) (two_front (term_words false t) (term_words false u) (codes "=") (printed.term_front t) (printed.term_front u))
  form_front asked (same_time i j) =
      enclosed_front (nat_lt 5 asked) (codes "(") (codes ")") (λ k. mark (codes "#") ∷ name i ∷ mark (codes "=") ∷ mark (codes "#") ∷ name j ∷ k) (λ k l. refl)
  form_front asked (earlier i j) =
      enclosed_front (nat_lt 5 asked) (codes "(") (codes ")") (λ k. mark (codes "#") ∷ name i ∷ mark (codes "<") ∷ mark (codes "#") ∷ name j ∷ k) (λ k l. refl)
  form_front asked (negation f) =
      enclosed_front (nat_lt 5 asked) (codes "(") (codes ")") (λ k. mark (codes "not") ∷ form_words 6 f k) (λ k l. ap (λ (x : List Word). mark (codes "not") ∷ x) (form_front 6 f k l))
  form_front asked (both f h) =
      enclosed_front (nat_lt 4 asked) (codes "(") (codes ")") (λ k. form_words 4 f (mark (codes "&") ∷ form_words 5 h k)) (two_front (form_words 4 f) (form_words 5 h) (codes "&") (form_front 4 f) (form_front 5 h))
  form_front asked (either f h) =
      enclosed_front (nat_lt 3 asked) (codes "(") (codes ")") (λ k. form_words 3 f (mark (codes "|") ∷ form_words 4 h k)) (two_front (form_words 3 f) (form_words 4 h) (codes "|") (form_front 3 f) (form_front 4 h))
  form_front asked (implies f h) =
      enclosed_front (nat_lt 2 asked) (codes "(") (codes ")") (λ k. form_words 3 f (mark (codes "==>") ∷ form_words 2 h k)) (two_front (form_words 3 f) (form_words 2 h) (codes "==>") (form_front 3 f) (form_front 2 h))
  form_front asked (equivalent f h) =
      enclosed_front (nat_lt 1 asked) (codes "(") (codes ")") (λ k. form_words 2 f (mark (codes "<=>") ∷ form_words 2 h k)) (two_front (form_words 2 f) (form_words 2 h) (codes "<=>") (form_front 2 f) (form_front 2 h))
  form_front asked (every bs f) =
      enclosed_front (nat_lt 0 asked) (codes "(") (codes ")") (λ k. mark (codes "All") ∷ binders_words bs (mark (codes ".") ∷ form_words 0 f k)) (quantified_front (codes "All") bs (form_words 0 f) (form_front 0 f))
  form_front asked (exists bs f) =
      enclosed_front (nat_lt 0 asked) (codes "(") (codes ")") (λ k. mark (codes "Ex") ∷ binders_words bs (mark (codes ".") ∷ form_words 0 f k)) (quantified_front (codes "Ex") bs (form_words 0 f) (form_front 0 f))
