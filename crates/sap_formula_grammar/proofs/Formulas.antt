-- What is spelled so is read: formulas.
use Rattle.std.proofs.Common.{◌≡◌, ◌≤◌, ◌<◌, max, ℕ, zero, suc, ◌+◌, Bool, true, false, List, [], ◌∷◌, length, None, Some, refl, sym, ap, ◌∙◌, arith}
use Rattle.std.specs.Prelude.{codes, ⊤, ◌||◌, nat_le, ◌&&◌}
use Rattle.std.specs.Str.{bytes_eq}
use Rattle.std.proofs.lemmas.List.Elements.{All-nil, All-cons}
use Rattle.sap_terms.specs.declared.fact.Fact.{Fact}
use Rattle.sap_terms.specs.Tree.{Tree, level_count, trees_of, trees_levels}
use Rattle.sap_terms.specs.Signature.{Sig}
use Rattle.sap_formula.specs.Form.{Form, truth, falsity, action, equal, same_time, earlier, negation, both, either, implies, equivalent, every, exists}
use Rattle.sap_formula.specs.declared.binder.Binder.{Binder}
use Rattle.sap_grammar.specs.declared.limits.Limits.{Limits}
use Rattle.sap_grammar.specs.Sizes.{IsSmall, AreSmall}
use Rattle.sap_grammar.specs.Words.{Word, mark, starts, is_lower, is_upper}
use Rattle.sap_grammar.specs.TermGrammar.{IsTerm, term_constant, term_fresh, term_message, term_pub, term_quoted, term_symbol, term_tuple}
use Rattle.sap_grammar.specs.FactGrammar.{IsFact, fact_levels, fact_linear, fact_persistent}
use Rattle.sap_grammar.specs.Reading.{Read, Reader, after, given, past}
use Rattle.sap_grammar.specs.TermReading.{short_term, short_fact}
use Rattle.sap_grammar.specs.TermLaws.{AreRead}
use Rattle.sap_formula_grammar.specs.FormulaGrammar.{begins_truth, IsTime, time_signed, time_plain, IsAtom, atom_true, atom_false, atom_action, atom_equal, atom_same, atom_earlier, IsBinder, binds_message, binds_fresh, binds_pub, binds_time, AreBinders, binders_last, binders_more, Reach, closed, reaching, IsUn, IsAnd, IsOr, IsImp, IsIff, un_atom, un_not, un_every, un_exists, un_parentheses, and_one, and_more, or_one, or_more, imp_one, imp_more, iff_one, iff_more, IsSmallForm, EndsFormula}
use Rattle.sap_formula_grammar.specs.FormulaReading.{time, placed, equation, atom, binder, binders, Levelled, turns, chain, ors, un, imp, formula}
use Rattle.sap_grammar.proofs.ReadingLaws.Ends.{shorter}
use Rattle.sap_grammar.proofs.ReadingLaws.Limits.{fits, le_of}
use Rattle.sap_formula_grammar.proofs.Ends.{un_end, and_end, binder_end, binders_end}

-- a small letter is no capital
pub no_capital : (f : List ℕ) → is_lower f ≡ true → is_upper f ≡ false
no_capital [] e = refl
no_capital (b ∷ rest) e = go (nat_le 97 b) (nat_le b 122) (nat_le 65 b) (nat_le b 90) refl refl e
  where
    go : (p q r s : Bool) → nat_le 97 b ≡ p → nat_le b 90 ≡ s → (p && q) ≡ true → (r && s) ≡ false
    go false q r s e f h = absurd (cc (h))
    go true q false s e f h = refl
    go true q true false e f h = refl
    go true q true true e f h = absurd (omega (arith, le_of 97 b e, le_of b 90 f))

neither : (a b : Bool) → (a || b) ≡ false → (a ≡ false) × (b ≡ false)
neither false b e = (refl, e)
neither true b e = absurd (cc (e))

time_read : {i : List ℕ} {a b : List Word} → IsTime i a b → time a ≡ Some (i, b)
unfolding after given
time_read time_signed = refl
time_read time_plain = refl

-- a term before `=` begins an equation
equation_begins : {g : Sig} (m : Limits) {t : Tree} {a b : List Word} → IsTerm g t a (mark (codes "=") ∷ b) → begins_truth a ≡ false → atom g m a ≡ equation g m a
equation_begins m (term_constant {x = x} is) f = let n = neither (bytes_eq x (codes "T")) (bytes_eq x (codes "F")) f in rw (n.0, n.1) refl
equation_begins m (term_message {x = x} is) f = let n = neither (bytes_eq x (codes "T")) (bytes_eq x (codes "F")) f in rw (n.0, n.1) refl
equation_begins m term_fresh f = refl
equation_begins m term_pub f = refl
equation_begins m term_quoted f = refl
equation_begins m (term_symbol {f = x} low r) f = rw (no_capital x low) refl
equation_begins m (term_tuple r s) f = refl

-- a fact without `!` begins an action
placed_begins : {g : Sig} (m : Limits) {f : Fact} {a b : List Word} → IsFact g f a b → f.persistent ≡ false → atom g m a ≡ placed g m a
placed_begins m (fact_linear up r) p = rw up refl
placed_begins m (fact_persistent up r) p = absurd (cc (p))

-- none of the words that a quantifier, a negation or parentheses begin with
record BeginsAtom (a : List Word) : Type 0 where
  no_not : starts (codes "not") a ≡ false
  no_all : starts (codes "All") a ≡ false
  no_ex : starts (codes "Ex") a ≡ false
  no_parenthesis : starts (codes "(") a ≡ false

term_first : {g : Sig} {t : Tree} {a b : List Word} → IsTerm g t a b → BeginsAtom a
term_first (term_constant is) = record { no_not = refl; no_all = refl; no_ex = refl; no_parenthesis = refl }
term_first (term_message is) = record { no_not = refl; no_all = refl; no_ex = refl; no_parenthesis = refl }
term_first term_fresh = record { no_not = refl; no_all = refl; no_ex = refl; no_parenthesis = refl }
term_first term_pub = record { no_not = refl; no_all = refl; no_ex = refl; no_parenthesis = refl }
term_first term_quoted = record { no_not = refl; no_all = refl; no_ex = refl; no_parenthesis = refl }
term_first (term_symbol low r) = record { no_not = refl; no_all = refl; no_ex = refl; no_parenthesis = refl }
term_first (term_tuple r s) = record { no_not = refl; no_all = refl; no_ex = refl; no_parenthesis = refl }

fact_first : {g : Sig} {f : Fact} {a b : List Word} → IsFact g f a b → BeginsAtom a
fact_first (fact_linear up r) = record { no_not = refl; no_all = refl; no_ex = refl; no_parenthesis = refl }
fact_first (fact_persistent up r) = record { no_not = refl; no_all = refl; no_ex = refl; no_parenthesis = refl }

time_first : {i : List ℕ} {a b : List Word} → IsTime i a b → BeginsAtom a
time_first time_signed = record { no_not = refl; no_all = refl; no_ex = refl; no_parenthesis = refl }
time_first time_plain = record { no_not = refl; no_all = refl; no_ex = refl; no_parenthesis = refl }

atom_first : {g : Sig} {f : Form} {a b : List Word} → IsAtom g f a b → BeginsAtom a
atom_first (atom_true e) = record { no_not = refl; no_all = refl; no_ex = refl; no_parenthesis = refl }
atom_first (atom_false e) = record { no_not = refl; no_all = refl; no_ex = refl; no_parenthesis = refl }
atom_first (atom_action r p t) = fact_first r
atom_first (atom_equal plain r s) = term_first r
atom_first atom_same = record { no_not = refl; no_all = refl; no_ex = refl; no_parenthesis = refl }
atom_first (atom_earlier plain r s) = time_first r

binder_read : {v : Binder} {a b : List Word} → IsBinder v a b → binder a ≡ Some (v, b)
unfolding after given
binder_read binds_message = refl
binder_read binds_fresh = refl
binder_read binds_pub = refl
binder_read binds_time = refl

binder_first : {v : Binder} {a b : List Word} → IsBinder v a b → starts (codes ".") a ≡ false
binder_first binds_message = refl
binder_first binds_fresh = refl
binder_first binds_pub = refl
binder_first binds_time = refl

binders_first : {vs : List Binder} {a b : List Word} → AreBinders vs a b → starts (codes ".") a ≡ false
binders_first (binders_last r) = binder_first r
binders_first (binders_more r s) = binder_first r

binders_read : {vs : List Binder} {a b : List Word} → AreBinders vs a b → (n : ℕ) → length a ≤ n → binders n a ≡ Some (vs, b)
unfolding after
binders_read r zero le = absurd (omega (arith, le, shorter (binders_end r)))
binders_read (binders_last r) (suc n) le = rw (binder_read r) refl
binders_read (binders_more r s) (suc n) le =
    rw (binder_read r, binders_first s, binders_read s n (omega (arith, le, shorter (binder_end r)))) refl

-- what may follow a part that ends so
abbrev pub NoSign : Reach → List Word → Type 0
NoSign closed b = ⊤
NoSign reaching b = (starts (codes "&") b ≡ false) × (starts (codes "|") b ≡ false) × (starts (codes "==>") b ≡ false) × (starts (codes "<=>") b ≡ false)

pub record After (e : Reach) (b : List Word) : Type 0 where
  no_parenthesis : starts (codes "(") b ≡ false
  no_sign : NoSign e b

inner : (e : Reach) {b : List Word} → After reaching b → After e b
inner closed f = record { no_parenthesis = f.no_parenthesis; no_sign = tt }
inner reaching f = f

at_close : (e : Reach) (b : List Word) → After e (mark (codes ")") ∷ b)
at_close closed b = record { no_parenthesis = refl; no_sign = tt }
at_close reaching b = record { no_parenthesis = refl; no_sign = (refl, refl, refl, refl) }

ending : (e : Reach) {b : List Word} → EndsFormula b → After e b
ending closed f = record { no_parenthesis = f.no_parenthesis; no_sign = tt }
ending reaching f = record { no_parenthesis = f.no_parenthesis; no_sign = (f.no_and, f.no_or, f.no_imp, f.no_iff) }

module _ (part : Reader Levelled) (d : ℕ) (made : Form → Form → Form) (sign : List ℕ) where
  stops : (n : ℕ) (f : Levelled) (b : List Word) → starts sign b ≡ false → turns part d made sign n f b ≡ Some (f, b)
  stops zero f b e = rw e refl
  stops (suc n) f b e = rw e refl

  turn : (k : ℕ) (f h : Levelled) (b c : List Word) → starts sign (mark sign ∷ b) ≡ true → length (mark sign ∷ b) ≤ k → part b ≡ Some (h, c)
      → length c < length b → max f.1 h.1 + 1 ≤ d
      → (j : ℕ) × (length c ≤ j) × (turns part d made sign k f (mark sign ∷ b) ≡ turns part d made sign j (made f.0 h.0, max f.1 h.1 + 1) c)
  unfolding after
  turn zero f h b c s le e short fit = absurd (omega (arith, le))
  turn (suc k) f h b c s le e short fit = (k, omega (arith, le, short), rw (s, e, fits (max f.1 h.1 + 1) d fit) refl)

  done : (x : Read Levelled) (f : Levelled) (b : List Word) → (k : ℕ) × (length b ≤ k) × (x ≡ turns part d made sign k f b) → starts sign b ≡ false → x ≡ Some (f, b)
  done x f b loop e = loop.2 ∙ stops loop.0 f b e

un_some : {g : Sig} {e : Reach} {f : Form} {n : ℕ} {a b : List Word} → IsUn g e f n a b → 1 ≤ n
un_some (un_atom r) = omega arith
un_some (un_not r) = omega arith
un_some (un_every r s) = omega arith
un_some (un_exists r s) = omega arith
un_some (un_parentheses r) = omega arith

and_some : {g : Sig} {e : Reach} {f : Form} {n : ℕ} {a b : List Word} → IsAnd g e f n a b → 1 ≤ n
and_some (and_one r) = un_some r
and_some (and_more r s) = omega arith

or_some : {g : Sig} {e : Reach} {f : Form} {n : ℕ} {a b : List Word} → IsOr g e f n a b → 1 ≤ n
or_some (or_one r) = and_some r
or_some (or_more r s) = omega arith

imp_some : {g : Sig} {e : Reach} {f : Form} {n : ℕ} {a b : List Word} → IsImp g e f n a b → 1 ≤ n
imp_some (imp_one r) = or_some r
imp_some (imp_more r s) = omega arith

module _ (laws : AreRead) (g : Sig) (m : Limits) where
  short_read : {t : Tree} {a b : List Word} → IsTerm g t a b → IsSmall m t → starts (codes "(") b ≡ false → short_term g m a ≡ Some (t, b)
  short_read {t = t} {a = a} {b = b} r small follows = laws.term_read g m t a b (record { spelled = r; small = small }) follows

  fact_read : {f : Fact} {a b : List Word} → IsFact g f a b → AreSmall m f.args → f.persistent ≡ false → short_fact g m false a ≡ Some (f, b)
  fact_read {f = f} {a = a} {b = b} r small p = laws.fact_read g m false f a b (record { spelled = r; small = small; sign = λ e. sym p ∙ e })

  placed_read : {f : Fact} {i : List ℕ} {a b c : List Word} → IsFact g f a (mark (codes "@") ∷ b) → AreSmall m f.args → f.persistent ≡ false → IsTime i b c
      → placed g m a ≡ Some (action f i, c)
  unfolding after given past
  placed_read r small p t = rw (fact_read r small p, time_read t) refl

  atom_read : {f : Form} {a b : List Word} → IsAtom g f a b → IsSmallForm m f → starts (codes "(") b ≡ false → atom g m a ≡ Some (f, b)
  unfolding after given past
  atom_read (atom_true e) small follows = rw e refl
  atom_read (atom_false e) small follows = rw e refl
  atom_read (atom_action r p t) small follows = placed_begins m r p ∙ placed_read r small p t
  atom_read (atom_equal plain r s) small follows = equation_begins m r plain ∙ rw (short_read r small.0 refl, short_read s small.1 follows) refl
  atom_read atom_same small follows = refl
  atom_read (atom_earlier plain time_signed t) small follows = rw (time_read t) refl
  atom_read (atom_earlier plain (time_plain {i = x}) t) small follows =
      let n = neither (bytes_eq x (codes "T")) (bytes_eq x (codes "F")) plain in rw (n.0, n.1, time_read t) refl

  mutual
    unfolding un imp after past

    un_read : {e : Reach} {f : Form} {n : ℕ} {a b : List Word} → IsUn g e f n a b → (d : ℕ) → n ≤ d → IsSmallForm m f → After e b
        → un g m d a ≡ Some ((f, n), b)
    un_read r zero le small w = absurd (omega (arith, le, un_some r))
    un_read (un_atom {f = f} {a = a} {b = b} r) (suc d) le small w =
        let h = atom_first r in rw (h.no_not, h.no_all, h.no_ex, h.no_parenthesis, atom_read r small w.no_parenthesis) refl
    un_read (un_not r) (suc d) le small w = rw (un_read r d (omega (arith, le)) small w) refl
    un_read (un_every {e = e} {a = a} r s) (suc d) le small w =
        rw (binders_read r (length a) (omega arith), iff_read s d (omega (arith, le)) small (inner e w) w.no_sign.0 w.no_sign.1 w.no_sign.2 w.no_sign.3) refl
    un_read (un_exists {e = e} {a = a} r s) (suc d) le small w =
        rw (binders_read r (length a) (omega arith), iff_read s d (omega (arith, le)) small (inner e w) w.no_sign.0 w.no_sign.1 w.no_sign.2 w.no_sign.3) refl
    un_read (un_parentheses {e = e} {b = b} r) (suc d) le small w = rw (iff_read r d (omega (arith, le)) small (at_close e b) refl refl refl refl) refl

    and_loop : {e : Reach} {f : Form} {n : ℕ} {a b : List Word} → IsAnd g e f n a b → (d : ℕ) → n ≤ d → IsSmallForm m f → After e b
        → (k : ℕ) × (length b ≤ k) × (chain (un g m d) d both (codes "&") a ≡ turns (un g m d) d both (codes "&") k (f, n) b)
    and_loop (and_one {a = a} r) d le small w = (length a, omega (arith, shorter (un_end r)), rw (un_read r d le small w) refl)
    and_loop (and_more {f = f} {h = h} {n = n} {k = k} {b = b} {c = c} r s) d le small w =
        let left = and_loop r d (omega (arith, le)) small.0 (record { no_parenthesis = refl; no_sign = tt }) in
        let next = turn (un g m d) d both (codes "&") left.0 (f, n) (h, k) b c refl left.1 (un_read s d (omega (arith, le)) small.1 w) (shorter (un_end s)) le in
        (next.0, next.1, left.2 ∙ next.2)

    or_loop : {e : Reach} {f : Form} {n : ℕ} {a b : List Word} → IsOr g e f n a b → (d : ℕ) → n ≤ d → IsSmallForm m f → After e b → starts (codes "&") b ≡ false
        → (k : ℕ) × (length b ≤ k) × (ors (un g m d) d a ≡ turns (chain (un g m d) d both (codes "&")) d either (codes "|") k (f, n) b)
    or_loop (or_one {f = f} {n = n} {a = a} {b = b} r) d le small w no_and =
        (length a, omega (arith, shorter (and_end r)), rw (done (un g m d) d both (codes "&") (chain (un g m d) d both (codes "&") a) (f, n) b (and_loop r d le small w) no_and) refl)
    or_loop (or_more {f = f} {h = h} {n = n} {k = k} {b = b} {c = c} r s) d le small w no_and =
        let left = or_loop r d (omega (arith, le)) small.0 (record { no_parenthesis = refl; no_sign = tt }) refl in
        let next = turn (chain (un g m d) d both (codes "&")) d either (codes "|") left.0 (f, n) (h, k) b c refl left.1
        (done (un g m d) d both (codes "&") (chain (un g m d) d both (codes "&") b) (h, k) c (and_loop s d (omega (arith, le)) small.1 w) no_and)
        (shorter (and_end s)) le in
        (next.0, next.1, left.2 ∙ next.2)

    imp_read : {e : Reach} {f : Form} {n : ℕ} {a b : List Word} → IsImp g e f n a b → (d : ℕ) → n ≤ d → IsSmallForm m f → After e b
        → starts (codes "&") b ≡ false → starts (codes "|") b ≡ false → starts (codes "==>") b ≡ false → imp g m d a ≡ Some ((f, n), b)
    imp_read r zero le small w no_and no_or no_imp = absurd (omega (arith, le, imp_some r))
    imp_read (imp_one {f = f} {n = n} {a = a} {b = b} r) (suc d) le small w no_and no_or no_imp =
        rw (
          done (chain (un g m (suc d)) (suc d) both (codes "&")) (suc d) either (codes "|") (ors (un g m (suc d)) (suc d) a) (f, n) b
              (or_loop r (suc d) le small w no_and) no_or,
          no_imp,
        ) refl
    imp_read (imp_more {f = f} {n = n} {k = k} {a = a} {b = b} r s) (suc d) le small w no_and no_or no_imp =
        rw (
          done (chain (un g m (suc d)) (suc d) both (codes "&")) (suc d) either (codes "|") (ors (un g m (suc d)) (suc d) a) (f, n) (mark (codes "==>") ∷ b)
              (or_loop r (suc d) (omega (arith, le)) small.0 (record { no_parenthesis = refl; no_sign = tt }) refl) refl,
          imp_read s d (omega (arith, le)) small.1 w no_and no_or no_imp,
          fits (max n k + 1) (suc d) le,
        ) refl

    iff_read : {e : Reach} {f : Form} {n : ℕ} {a b : List Word} → IsIff g e f n a b → (d : ℕ) → n ≤ d → IsSmallForm m f → After e b
        → starts (codes "&") b ≡ false → starts (codes "|") b ≡ false → starts (codes "==>") b ≡ false → starts (codes "<=>") b ≡ false
        → formula g m d a ≡ Some ((f, n), b)
    iff_read (iff_one r) d le small w no_and no_or no_imp no_iff = rw (imp_read r d le small w no_and no_or no_imp, no_iff) refl
    iff_read (iff_more {n = n} {k = k} r s) d le small w no_and no_or no_imp no_iff =
        rw (
          imp_read r d (omega (arith, le)) small.0 (record { no_parenthesis = refl; no_sign = tt }) refl refl refl,
          imp_read s d (omega (arith, le)) small.1 w no_and no_or no_imp,
          fits (max n k + 1) d le,
          no_iff,
        ) refl

  -- a formula that is spelled is read, within its levels
  pub formula_read : {e : Reach} {f : Form} {n : ℕ} {a b : List Word} → IsIff g e f n a b → (d : ℕ) → n ≤ d → IsSmallForm m f → EndsFormula b
      → formula g m d a ≡ Some ((f, n), b)
  formula_read {e = e} r d le small w = iff_read r d le small (ending e w) w.no_and w.no_or w.no_imp w.no_iff

-- how deep the deepest of its terms is
abbrev deepest : Form → ℕ
deepest truth = 0
deepest falsity = 0
deepest (action f i) = fact_levels f
deepest (equal t u) = max (level_count t) (level_count u)
deepest (same_time i j) = 0
deepest (earlier i j) = 0
deepest (negation f) = deepest f
deepest (both f h) = max (deepest f) (deepest h)
deepest (either f h) = max (deepest f) (deepest h)
deepest (implies f h) = max (deepest f) (deepest h)
deepest (equivalent f h) = max (deepest f) (deepest h)
deepest (every vs f) = deepest f
deepest (exists vs f) = deepest f

-- limits of levels alone
abbrev within : ℕ → Limits
within k = record { name_bytes = 0; term_levels = k; term_nodes = None; formula_levels = 0 }

-- for each formula some limits are wide enough
module _ (k : ℕ) where
  small_list : (ts : List Tree) → trees_levels (trees_of ts) ≤ k → AreSmall (within k) ts
  small_list [] le = All-nil (IsSmall (within k))
  small_list (t ∷ ts) le = All-cons (IsSmall (within k)) t ts (record { few_levels = omega (arith, le); few_nodes = tt }) (small_list ts (omega (arith, le)))

  small_form : (f : Form) → deepest f ≤ k → IsSmallForm (within k) f
  small_form truth le = tt
  small_form falsity le = tt
  small_form (action f i) le = small_list f.args le
  small_form (equal t u) le = (record { few_levels = omega (arith, le); few_nodes = tt }, record { few_levels = omega (arith, le); few_nodes = tt })
  small_form (same_time i j) le = tt
  small_form (earlier i j) le = tt
  small_form (negation f) le = small_form f le
  small_form (both f h) le = (small_form f (omega (arith, le)), small_form h (omega (arith, le)))
  small_form (either f h) le = (small_form f (omega (arith, le)), small_form h (omega (arith, le)))
  small_form (implies f h) le = (small_form f (omega (arith, le)), small_form h (omega (arith, le)))
  small_form (equivalent f h) le = (small_form f (omega (arith, le)), small_form h (omega (arith, le)))
  small_form (every vs f) le = small_form f le
  small_form (exists vs f) le = small_form f le

-- from one place words spell at most one formula that nothing goes on with, in one number of levels, ending at one place
pub one_formula : AreRead → (g : Sig) (d e : Reach) (n k : ℕ) (f h : Form) (a b c : List Word) → IsIff g d f n a b → IsIff g e h k a c → EndsFormula b → EndsFormula c
    → (f ≡ h) × (n ≡ k) × (b ≡ c)
one_formula laws g d e n k f h a b c r s x y =
    let l = max n k in
    let w = max (deepest f) (deepest h) in
    let m = within w in
    let same : ◌≡◌ {A = Read Levelled} (Some ((f, n), b)) (Some ((h, k), c)) =
    sym (formula_read laws g m r l (omega arith) (small_form w f (omega arith)) x) ∙ formula_read laws g m s l (omega arith) (small_form w h (omega arith)) y in
    let both : ◌≡◌ {A = Levelled × List Word} ((f, n), b) ((h, k), c) = cc in
    (ap (λ x. x.0.0) both, ap (λ x. x.0.1) both, ap (λ x. x.1) both)
