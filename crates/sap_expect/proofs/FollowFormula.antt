-- The words of formulas follow the table, with their levels.
use Rattle.std.proofs.Common.{◌≡◌, ◌≤◌, ◌+◌, ℕ, Bool, true, false, List, [], ◌∷◌, ◌++◌, refl, sym, ◌∙◌, ap, arith}
use Rattle.std.specs.Prelude.{codes}
use Rattle.std.proofs.lemmas.Slice.Eq.{bytes_eq-Decides}
use Rattle.std.specs.Str.{bytes_eq}
use Rattle.std.proofs.lemmas.Bool.{or_parts}
use Rattle.sap_terms.specs.declared.fact.Fact.{Fact}
use Rattle.sap_terms.specs.Signature.{Sig}
use Rattle.sap_terms.specs.Tree.{Tree, level_count, trees_levels, trees_of}
use Rattle.sap_formula.specs.Form.{Form}
use Rattle.sap_formula.specs.declared.binder.Binder.{Binder}
use Rattle.sap_grammar.proofs.ReadingLaws.Limits.{fits}
use Rattle.sap_grammar.specs.Words.{Word, is_lower, is_upper, mark, name, quoted}
use Rattle.sap_grammar.specs.TermGrammar.{IsTerm, term_constant, term_fresh, term_message, term_pub, term_quoted, term_symbol, term_tuple}
use Rattle.sap_grammar.specs.FactGrammar.{IsFact, fact_linear, fact_persistent}
use Rattle.sap_formula_grammar.specs.FormulaGrammar.{AreBinders, IsAnd, IsAtom, IsBinder, IsIff, IsImp, IsOr, IsSmallForm, IsTime, IsUn, Reach, and_more, and_one, atom_action, atom_earlier, atom_equal, atom_false, atom_same, atom_true, begins_truth, binders_last, binders_more, binds_fresh, binds_message, binds_pub, binds_time, closed, iff_more, iff_one, imp_more, imp_one, or_more, or_one, reaching, time_plain, time_signed, un_atom, un_every, un_exists, un_not, un_parentheses}
use Rattle.sap_draft.specs.declared.limits.TheConstants.{FILE_LIMITS}
use Rattle.sap_expect.specs.declared.wanted.Change.TheVariants.{One}
use Rattle.sap_expect.specs.declared.wanted.Limit.{Limit}
use Rattle.sap_expect.specs.declared.wanted.Limit.TheVariants.{OfTerm, Same}
use Rattle.sap_expect.specs.declared.wanted.Part.TheVariants.{Application, Atom, Binders, Conjunction, Disjunction, Ended, Equivalence, Formula, Implication, LowerAtom, MoreBinders, MoreConjunction, MoreDisjunction, MoreEquivalence, MoreImplication, Term, Time, Truth, UpperAtom}
use Rattle.sap_expect.specs.FileTable.{Open, Reads, level, part}
use Rattle.sap_expect.proofs.OnRows.{NoRow, instead, on_level, on_nth, on_row, on_word}
use Rattle.sap_expect.proofs.FollowTerms.{args_follow, rest_follows, small_levels, term_follows, word_of, word_there}

-- no term and no truth value goes on with what stands next
pub record IsFree (ws : List Word) : Type 0 where
  pub no_terms : NoRow Application ws
  pub no_fact : NoRow Truth ws

-- nothing joins what stands next: not with `&`, `|`, `==>`, `<=>`
pub record Ends (ws : List Word) : Type 0 where
  pub no_and : NoRow MoreConjunction ws
  pub no_or : NoRow MoreDisjunction ws
  pub no_imp : NoRow MoreImplication ws
  pub no_iff : NoRow MoreEquivalence ws
  pub no_third : NoRow Ended ws

-- what may stand behind a formula; behind the body of a quantifier nothing that would go on with it
pub record Behind (e : Reach) (ws : List Word) : Type 0 where
  pub free : IsFree ws
  pub ends : e ≡ reaching → Ends ws

pub closed_behind : {ws : List Word} → IsFree ws → Behind closed ws
closed_behind f = record { free = f; ends = λ e. absurd (apart e) }
  where
    apart : closed ≡ reaching → ⊥
    apart e = absurd (cc)

-- a formula has a level
mutual
  pub un_level : {g : Sig} {e : Reach} {f : Form} {k : ℕ} {a b : List Word} → IsUn g e f k a b → 1 ≤ k
  un_level (un_atom s) = omega arith
  un_level (un_not s) = omega arith
  un_level (un_every v s) = omega arith
  un_level (un_exists v s) = omega arith
  un_level (un_parentheses s) = omega arith

  pub and_level : {g : Sig} {e : Reach} {f : Form} {k : ℕ} {a b : List Word} → IsAnd g e f k a b → 1 ≤ k
  and_level (and_one s) = un_level s
  and_level (and_more s q) = omega arith

  pub or_level : {g : Sig} {e : Reach} {f : Form} {k : ℕ} {a b : List Word} → IsOr g e f k a b → 1 ≤ k
  or_level (or_one s) = and_level s
  or_level (or_more s q) = omega arith

  pub imp_level : {g : Sig} {e : Reach} {f : Form} {k : ℕ} {a b : List Word} → IsImp g e f k a b → 1 ≤ k
  imp_level (imp_one s) = or_level s
  imp_level (imp_more s q) = omega arith

  pub iff_level : {g : Sig} {e : Reach} {f : Form} {k : ℕ} {a b : List Word} → IsIff g e f k a b → 1 ≤ k
  iff_level (iff_one s) = imp_level s
  iff_level (iff_more s q) = omega arith

not_upper : (x : List ℕ) → is_lower x ≡ true → is_upper x ≡ false
not_upper [] e = refl
not_upper (b ∷ x) e = grind arith

-- a name with a small letter first is no truth value's
not_truth : (x m : List ℕ) → is_lower x ≡ true → is_lower m ≡ false → bytes_eq x m ≡ false
not_truth x m e f = by (bytes_eq x m) refl
  where
    by : (b : Bool) → bytes_eq x m ≡ b → b ≡ false
    by false g = refl
    by true g =
        let same : x ≡ m = (bytes_eq-Decides x m).0 g in
        let both : true ≡ false = sym e ∙ (ap is_lower same ∙ f) in
        absurd (cc)

-- what begins an atom and is no name
pub data BeginsAtom : Word → Type 0 where
  by_hash : BeginsAtom (mark (codes "#"))
  by_fresh : BeginsAtom (mark (codes "~"))
  by_pub : BeginsAtom (mark (codes "$"))
  by_tuple : BeginsAtom (mark (codes "<"))
  by_quoted : {x : List ℕ} → BeginsAtom (quoted x)

-- the first of a kind of formulas, and what goes on with it
a_conjunction : {n m : ℕ} {l : Limit} {vs : List Open} {ws : List Word} → Reads n ((part Formula Same, m) ∷ (part MoreConjunction Same, m) ∷ vs) ws → Reads n ((part Conjunction l, m) ∷ vs) ws
a_conjunction {ws = []} h = absurd (word_there h)
a_conjunction {ws = w ∷ ws} h = instead (w ∷ ws) refl refl refl h

a_disjunction : {n m : ℕ} {l : Limit} {vs : List Open} {ws : List Word} → Reads n ((part Conjunction Same, m) ∷ (part MoreDisjunction Same, m) ∷ vs) ws → Reads n ((part Disjunction l, m) ∷ vs) ws
a_disjunction {ws = []} h = absurd (word_there h)
a_disjunction {ws = w ∷ ws} h = instead (w ∷ ws) refl refl refl h

an_implication : {n m : ℕ} {l : Limit} {vs : List Open} {ws : List Word} → Reads n ((part Disjunction Same, m) ∷ (part MoreImplication Same, m) ∷ vs) ws → Reads n ((part Implication l, m) ∷ vs) ws
an_implication {ws = []} h = absurd (word_there h)
an_implication {ws = w ∷ ws} h = instead (w ∷ ws) refl refl refl h

an_equivalence : {n m : ℕ} {l : Limit} {vs : List Open} {ws : List Word} → Reads n ((part Implication Same, m) ∷ (part MoreEquivalence Same, m) ∷ vs) ws → Reads n ((part Equivalence l, m) ∷ vs) ws
an_equivalence {ws = []} h = absurd (word_there h)
an_equivalence {ws = w ∷ ws} h = instead (w ∷ ws) refl refl refl h

module _ {n m : ℕ} {l : Limit} {vs : List Open} where
  -- a truth value's name, or a fact's that is spelled so
  true_row : {x : List ℕ} {ws : List Word} → bytes_eq x (codes "T") ≡ true → Reads n ((part Truth Same, m) ∷ vs) ws → Reads n ((part Formula l, m) ∷ vs) (name x ∷ ws)
  true_row e h = on_nth Formula 0 refl e refl h

  false_row : {x : List ℕ} {ws : List Word} → bytes_eq x (codes "T") ≡ false → bytes_eq x (codes "F") ≡ true → Reads n ((part Truth Same, m) ∷ vs) ws → Reads n ((part Formula l, m) ∷ vs) (name x ∷ ws)
  false_row e f h = on_nth Formula 1 (rw e refl) f refl h

  -- another name
  name_row : {x : List ℕ} {ws : List Word} → bytes_eq x (codes "T") ≡ false → bytes_eq x (codes "F") ≡ false
      → Reads n ((part Atom OfTerm, FILE_LIMITS.term_levels) ∷ (level One, n) ∷ vs) (name x ∷ ws) → Reads n ((part Formula l, m) ∷ vs) (name x ∷ ws)
  name_row {x = x} {ws = ws} e f h = instead (name x ∷ ws) refl refl (rw (e, f) refl) h

  atom_row : {w : Word} {ws : List Word} → BeginsAtom w → Reads n ((part Atom OfTerm, FILE_LIMITS.term_levels) ∷ (level One, n) ∷ vs) (w ∷ ws) → Reads n ((part Formula l, m) ∷ vs) (w ∷ ws)
  atom_row {w = w} {ws = ws} by_hash h = instead (w ∷ ws) refl refl refl h
  atom_row {w = w} {ws = ws} by_fresh h = instead (w ∷ ws) refl refl refl h
  atom_row {w = w} {ws = ws} by_pub h = instead (w ∷ ws) refl refl refl h
  atom_row {w = w} {ws = ws} by_tuple h = instead (w ∷ ws) refl refl refl h
  atom_row {w = w} {ws = ws} by_quoted h = instead (w ∷ ws) refl refl refl h

module _ (r : List Word) where
  time_follows : {i : List ℕ} {a b : List Word} {n m : ℕ} {l : Limit} {vs : List Open} → IsTime i a b → Reads n vs (b ++ r) → Reads n ((part Time l, m) ∷ vs) (a ++ r)
  time_follows time_signed h = on_row refl refl (on_word refl h)
  time_follows time_plain h = on_row refl refl h

  binder_follows : {v : Binder} {a b : List Word} {n m : ℕ} {l : Limit} {vs : List Open} → IsBinder v a b → Reads n ((part MoreBinders Same, m) ∷ vs) (b ++ r) → Reads n ((part Binders l, m) ∷ vs) (a ++ r)
  binder_follows binds_message h = on_row refl refl h
  binder_follows binds_fresh h = on_row refl refl (on_word refl h)
  binder_follows binds_pub h = on_row refl refl (on_word refl h)
  binder_follows binds_time h = on_row refl refl (on_word refl h)

  no_dot_of : {v : Binder} {a b : List Word} → IsBinder v a b → NoRow MoreBinders (a ++ r)
  no_dot_of binds_message = refl
  no_dot_of binds_fresh = refl
  no_dot_of binds_pub = refl
  no_dot_of binds_time = refl

  no_dot : {us : List Binder} {a b : List Word} → AreBinders us a b → NoRow MoreBinders (a ++ r)
  no_dot (binders_last s) = no_dot_of s
  no_dot (binders_more s q) = no_dot_of s

  binders_follow : {us : List Binder} {a b : List Word} {n m : ℕ} {l : Limit} {vs : List Open} → AreBinders us a b → Reads n vs (b ++ r) → Reads n ((part Binders l, m) ∷ vs) (a ++ r)
  binders_follow (binders_last s) h = binder_follows s (on_row refl refl h)
  binders_follow (binders_more {b = b} s q) h = binder_follows s (instead (b ++ r) refl refl (no_dot q) (binders_follow q h))

  -- a name that begins an atom, where the table has a row for what stands behind it in both cases
  named : (x : List ℕ) {n m : ℕ} {l : Limit} {vs : List Open} {ws : List Word} → Reads n ((part UpperAtom Same, m) ∷ vs) ws → Reads n ((part LowerAtom Same, m) ∷ vs) ws
      → Reads n ((part Atom l, m) ∷ vs) (name x ∷ ws)
  named x {n = n} {m = m} {l = l} {vs = vs} {ws = ws} h k = by (is_upper x) refl
    where
      by : (b : Bool) → is_upper x ≡ b → Reads n ((part Atom l, m) ∷ vs) (name x ∷ ws)
      by true e = on_nth Atom 0 refl e refl h
      by false e = on_nth Atom 1 (rw e refl) refl refl k

  -- a fact's name
  fact_named : (x : List ℕ) {n m : ℕ} {l : Limit} {vs : List Open} {ws : List Word} → is_upper x ≡ true → Reads n ((part Truth Same, m) ∷ vs) ws
      → Reads n ((part UpperAtom Same, FILE_LIMITS.term_levels) ∷ (level One, n) ∷ vs) ws → Reads n ((part Formula l, m) ∷ vs) (name x ∷ ws)
  fact_named x {n = n} {m = m} {l = l} {vs = vs} {ws = ws} up h k = by (bytes_eq x (codes "T")) refl (bytes_eq x (codes "F")) refl
    where
      by : (b : Bool) → bytes_eq x (codes "T") ≡ b → (c : Bool) → bytes_eq x (codes "F") ≡ c → Reads n ((part Formula l, m) ∷ vs) (name x ∷ ws)
      by true e c f = true_row e h
      by false e true f = false_row e f h
      by false e false f = name_row e f (on_nth Atom 0 refl up refl k)

  action_follows : {g : Sig} {f : Fact} {a b : List Word} {n m : ℕ} {l : Limit} {vs : List Open} → IsFact g f a (mark (codes "@") ∷ b) → f.persistent ≡ false
      → trees_levels (trees_of f.args) ≤ FILE_LIMITS.term_levels → ((k : ℕ) → Reads k ((part Time Same, m) ∷ (level One, n) ∷ vs) (b ++ r))
      → ((k : ℕ) → Reads k ((part Time Same, FILE_LIMITS.term_levels) ∷ (level One, n) ∷ vs) (b ++ r)) → Reads n ((part Formula l, m) ∷ vs) (a ++ r)
  action_follows (fact_linear {f = f} up q) never le h h' =
      fact_named f up (on_row refl refl (args_follow r q le (on_word refl (h _)))) (on_row refl refl (args_follow r q le (on_word refl (h' _))))
  action_follows (fact_persistent up q) never le h h' = absurd (cc)

  -- the left side of an equation
  left_follows : {g : Sig} {t : Tree} {a b : List Word} {n m : ℕ} {l : Limit} {vs : List Open} → IsTerm g t a (mark (codes "=") ∷ b) → begins_truth a ≡ false → level_count t ≤ FILE_LIMITS.term_levels
      → ((k : ℕ) → Reads k ((part Term Same, FILE_LIMITS.term_levels) ∷ (level One, n) ∷ vs) (b ++ r)) → Reads n ((part Formula l, m) ∷ vs) (a ++ r)
  left_follows (term_constant {x = x} is) never le h =
      let both = or_parts (bytes_eq x (codes "T")) (bytes_eq x (codes "F")) never in
      name_row both.0 both.1 (named x (on_row refl refl (h _)) (on_row refl refl (h _)))
  left_follows (term_message {x = x} free) never le h =
      let both = or_parts (bytes_eq x (codes "T")) (bytes_eq x (codes "F")) never in
      name_row both.0 both.1 (named x (on_row refl refl (h _)) (on_row refl refl (h _)))
  left_follows term_fresh never le h = atom_row by_fresh (on_row refl refl (on_word refl (on_word refl (h _))))
  left_follows term_pub never le h = atom_row by_pub (on_row refl refl (on_word refl (on_word refl (h _))))
  left_follows term_quoted never le h = atom_row by_quoted (on_row refl refl (on_word refl (h _)))
  left_follows (term_symbol {f = f} low q) never le h =
      name_row (not_truth f (codes "T") low refl) (not_truth f (codes "F") low refl)
      (on_nth Atom 1 (rw (not_upper f low) refl) refl refl (on_row refl refl (args_follow r q (omega (arith, le)) (on_word refl (h _)))))
  left_follows {b = b} (term_tuple p q) never le h =
      atom_row by_tuple (on_row refl refl (term_follows r p (omega (arith, le)) refl
      (on_row refl refl (rest_follows r q (omega (arith, le)) (on_level (mark (codes "=") ∷ (b ++ r)) tt (on_word refl (h _)))))))

  earlier_follows : {i : List ℕ} {a b : List Word} {n m : ℕ} {l : Limit} {vs : List Open} → IsTime i a (mark (codes "<") ∷ b) → begins_truth a ≡ false
      → Reads n ((part Time Same, FILE_LIMITS.term_levels) ∷ (level One, n) ∷ vs) (b ++ r) → Reads n ((part Formula l, m) ∷ vs) (a ++ r)
  earlier_follows time_signed never h = atom_row by_hash (on_row refl refl (on_word refl (on_row refl refl h)))
  earlier_follows (time_plain {i = i}) never h =
      let both = or_parts (bytes_eq i (codes "T")) (bytes_eq i (codes "F")) never in
      name_row both.0 both.1 (named i (on_row refl refl h) (on_row refl refl h))

  atom_follows : {g : Sig} {f : Form} {a b : List Word} {n m : ℕ} {l : Limit} {vs : List Open} → IsAtom g f a b → IsSmallForm FILE_LIMITS f → IsFree (b ++ r) → Reads 1 vs (b ++ r)
      → Reads n ((part Formula l, m) ∷ vs) (a ++ r)
  atom_follows (atom_true {a = a} never) small free h = true_row refl (instead (a ++ r) refl refl free.no_fact (on_level (a ++ r) (word_of Application (a ++ r) free.no_terms) h))
  atom_follows (atom_false {a = a} never) small free h = false_row refl refl (instead (a ++ r) refl refl free.no_fact (on_level (a ++ r) (word_of Application (a ++ r) free.no_terms) h))
  atom_follows (atom_action {f = f} {c = c} q never i) small free h =
      let there = word_of Application (c ++ r) free.no_terms in
      action_follows q never (small_levels f.args small) (λ k. time_follows i (on_level (c ++ r) there h)) (λ k. time_follows i (on_level (c ++ r) there h))
  atom_follows (atom_equal {c = c} never p q) small free h =
      left_follows p never small.0.few_levels (λ k. term_follows r q small.1.few_levels free.no_terms (on_level (c ++ r) (word_of Application (c ++ r) free.no_terms) h))
  atom_follows (atom_same {a = a}) small free h =
      atom_row by_hash (on_row refl refl (on_word refl (on_row refl refl (on_word refl (on_word refl (on_level (a ++ r) (word_of Application (a ++ r) free.no_terms) h))))))
  atom_follows (atom_earlier {c = c} never i j) small free h = earlier_follows i never (time_follows j (on_level (c ++ r) (word_of Application (c ++ r) free.no_terms) h))

  mutual
    un_follows : {g : Sig} {e : Reach} {f : Form} {k : ℕ} {a b : List Word} {n m : ℕ} {l : Limit} {vs : List Open} → IsUn g e f k a b → k ≤ m → IsSmallForm FILE_LIMITS f → Behind e (b ++ r)
        → Reads k vs (b ++ r) → Reads n ((part Formula l, m) ∷ vs) (a ++ r)
    un_follows (un_atom q) le small o h = atom_follows q small o.free h
    un_follows {b = b} {m = m} (un_not q) le small o h =
        let one = un_level q in
        on_row refl (fits 2 m (omega (arith, le, one))) (un_follows q (omega (arith, le)) small o (on_level (b ++ r) (word_of Application (b ++ r) o.free.no_terms) h))
    un_follows {b = b} {m = m} (un_every v q) le small o h =
        let one = iff_level q in
        on_row refl (fits 2 m (omega (arith, le, one))) (binders_follow v
        (iff_follows q (omega (arith, le)) small o.free (o.ends refl) (on_level (b ++ r) (word_of Application (b ++ r) o.free.no_terms) h)))
    un_follows {b = b} {m = m} (un_exists v q) le small o h =
        let one = iff_level q in
        on_row refl (fits 2 m (omega (arith, le, one))) (binders_follow v
        (iff_follows q (omega (arith, le)) small o.free (o.ends refl) (on_level (b ++ r) (word_of Application (b ++ r) o.free.no_terms) h)))
    un_follows {b = b} {m = m} (un_parentheses q) le small o h =
        let one = iff_level q in
        on_row refl (fits 2 m (omega (arith, le, one)))
        (iff_follows q (omega (arith, le)) small (record { no_terms = refl; no_fact = refl }) (record { no_and = refl; no_or = refl; no_imp = refl; no_iff = refl; no_third = refl })
        (on_word refl (on_level (b ++ r) (word_of Application (b ++ r) o.free.no_terms) h)))

    -- the first of those that `&` joins, and the others
    and_follows : {g : Sig} {e : Reach} {f : Form} {k : ℕ} {a b : List Word} {n m : ℕ} {vs : List Open} → IsAnd g e f k a b → k ≤ m → IsSmallForm FILE_LIMITS f → Behind e (b ++ r)
        → Reads k ((part MoreConjunction Same, m) ∷ vs) (b ++ r) → Reads n ((part Formula Same, m) ∷ (part MoreConjunction Same, m) ∷ vs) (a ++ r)
    and_follows (and_one q) le small o h = un_follows q le small o h
    and_follows {b = c} {m = m} (and_more {n = i} p q) le small o h =
        let one = un_level q in
        and_follows p (omega (arith, le)) small.0 (closed_behind (record { no_terms = refl; no_fact = refl }))
        (on_row refl (fits (i + 1) m (omega (arith, le))) (un_follows q (omega (arith, le)) small.1 o (on_level (c ++ r) (word_there h) h)))

    or_follows : {g : Sig} {e : Reach} {f : Form} {k : ℕ} {a b : List Word} {n m : ℕ} {vs : List Open} → IsOr g e f k a b → k ≤ m → IsSmallForm FILE_LIMITS f → Behind e (b ++ r)
        → NoRow MoreConjunction (b ++ r) → Reads k ((part MoreDisjunction Same, m) ∷ vs) (b ++ r) → Reads n ((part Conjunction Same, m) ∷ (part MoreDisjunction Same, m) ∷ vs) (a ++ r)
    or_follows {b = b} (or_one q) le small o not_and h = a_conjunction (and_follows q le small o (instead (b ++ r) refl refl not_and h))
    or_follows {b = c} {m = m} (or_more {n = i} p q) le small o not_and h =
        or_follows p (omega (arith, le)) small.0 (closed_behind (record { no_terms = refl; no_fact = refl })) refl
        (on_row refl (fits (i + 1) m (omega (arith, le))) (a_conjunction (and_follows q (omega (arith, le)) small.1 o (instead (c ++ r) refl refl not_and (on_level (c ++ r) (word_there h) h)))))

    imp_follows : {g : Sig} {e : Reach} {f : Form} {k : ℕ} {a b : List Word} {n m : ℕ} {l : Limit} {vs : List Open} → IsImp g e f k a b → k ≤ m → IsSmallForm FILE_LIMITS f → Behind e (b ++ r)
        → NoRow MoreConjunction (b ++ r) → NoRow MoreDisjunction (b ++ r) → NoRow MoreImplication (b ++ r) → Reads k vs (b ++ r) → Reads n ((part Implication l, m) ∷ vs) (a ++ r)
    imp_follows {b = b} (imp_one q) le small o not_and not_or not_imp h = an_implication (a_disjunction (or_follows q le small o not_and (instead (b ++ r) refl refl not_or (instead (b ++ r) refl refl not_imp h))))
    imp_follows {b = c} {m = m} (imp_more {n = i} {b = b} p q) le small o not_and not_or not_imp h =
        an_implication (a_disjunction (or_follows p (omega (arith, le)) small.0 (closed_behind (record { no_terms = refl; no_fact = refl })) refl
        (instead (mark (codes "==>") ∷ (b ++ r)) refl refl refl (on_row refl (fits (i + 1) m (omega (arith, le)))
        (imp_follows q (omega (arith, le)) small.1 o not_and not_or not_imp (on_level (c ++ r) (word_of Application (c ++ r) o.free.no_terms) h))))))

    -- a whole formula
    pub iff_follows : {g : Sig} {e : Reach} {f : Form} {k : ℕ} {a b : List Word} {n m : ℕ} {l : Limit} {vs : List Open} → IsIff g e f k a b → k ≤ m → IsSmallForm FILE_LIMITS f → IsFree (b ++ r) → Ends (b ++ r)
        → Reads k vs (b ++ r) → Reads n ((part Equivalence l, m) ∷ vs) (a ++ r)
    iff_follows {b = b} (iff_one q) le small free o h =
        an_equivalence (imp_follows q le small (record { free = free; ends = λ e. o }) o.no_and o.no_or o.no_imp (instead (b ++ r) refl refl o.no_iff h))
    iff_follows {b = c} {m = m} (iff_more {n = i} p q) le small free o h =
        an_equivalence (imp_follows p (omega (arith, le)) small.0 (closed_behind (record { no_terms = refl; no_fact = refl })) refl refl refl
        (on_row refl (fits (i + 1) m (omega (arith, le)))
        (imp_follows q (omega (arith, le)) small.1 (record { free = free; ends = λ e. o }) o.no_and o.no_or o.no_imp
        (on_level (c ++ r) (word_of Application (c ++ r) free.no_terms) (instead (c ++ r) refl refl o.no_third h)))))
