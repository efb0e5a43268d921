-- The walk comes to the word that the formula's derivation tells.
use Rattle.std.proofs.Common.{◌≡◌, ◌<◌, ◌^◌, ℕ, Option, zero, suc, false, List, [], ◌∷◌, ◌++◌, length, drop, Some, None, Ok, Err, refl, sym, ap, subst, ◌∙◌, arith}
use Rattle.std.specs.Prelude.{codes, slice_get}
use Rattle.std.proofs.lemmas.List.{append-nil}
use Rattle.sap_terms.specs.Signature.{Sig}
use Rattle.sap_terms.specs.Tree.{Tree, variable, public, fresh, apply, trees_of, node_count}
use Rattle.sap_terms.specs.declared.fact.Fact.{Fact}
use Rattle.sap_formula.specs.Form.{Form, truth, falsity, action, equal, same_time, earlier, negation, both, either, implies, equivalent, every, exists}
use Rattle.sap_formula.specs.declared.binder.Binder.{Binder}
use Rattle.sap_grammar.specs.Words.{Word, mark, name, starts}
use Rattle.sap_grammar.specs.TermGrammar.{IsTerm, IsList, IsArgs, term_constant, term_message, term_fresh, term_pub, term_quoted, term_symbol, term_tuple, list_last, list_more, args_none, args_some}
use Rattle.sap_grammar.specs.FactGrammar.{IsFact, fact_linear, fact_persistent}
use Rattle.sap_formula_grammar.specs.FormulaGrammar.{IsTime, time_signed, time_plain, IsAtom, atom_true, atom_false, atom_action, atom_equal, atom_same, atom_earlier, IsBinder, binds_message, binds_fresh, binds_pub, binds_time, AreBinders, binders_last, binders_more, Reach, IsUn, IsAnd, IsOr, IsImp, IsIff, un_atom, un_not, un_every, un_exists, un_parentheses, and_one, and_more, or_one, or_more, imp_one, imp_more, iff_one, iff_more}
use Rattle.sap_node_words.specs.NodeWords.{term_words, list_words, nodes, nodes_of}
use Rattle.sap_formula_words.specs.PartWords.{of_parts, term_part_words, args_part_words, fact_part_words, time_word, atom_part_words, binder_word, binder_words, un_words, and_words, or_words, imp_words, part_words}
use Rattle.sap_formula_words.specs.code.Walk.{Seek, Spot, at_word, in_term, Walk, onward, name_walk, past_words, placed, seek, term_walk, list_walk, args_walk, signed_walk, action_walk, equal_walk, times_walk, binders_walk, both_walk, form_walk, behind_term, behind_all, unsigned}
use Rattle.sap_formula_words.specs.code.NodeLaws.{NodeLaws}
use Rattle.sap_formula_words.proofs.Behind.{behind}
use Rattle.sap_formula_words.proofs.Seeking.{Finds, finds, nodes_count, seek_picks, not_found, node_found}
use Rattle.sap_formula_words.proofs.Steps.{all_end}

-- the word of what stands there
abbrev pub Tells : Spot → ℕ → Type 0
Tells (at_word n) m = n ≡ m
Tells (in_term t ws k) m = (g : Sig) × (b : List Word) × (q : IsTerm g t ws b) × (slice_get (term_part_words q) k ≡ Some m)

-- what a walk comes to where parts with these numbers are left, and these words behind them
abbrev pub Reaches : Walk → List ℕ → ℕ → List Word → Type 0
Reaches w [] k b = w ≡ Ok (k, b)
Reaches w (n ∷ ns) zero b = (s : Spot) × (w ≡ Err s) × Tells s n
Reaches w (n ∷ ns) (suc k) b = Reaches w ns k b

-- one walk behind another
then_reaches : (w : Walk) (ns ms : List ℕ) (k : ℕ) (b c : List Word) (go : ℕ → List Word → Walk) → Reaches w ns k b → ((j : ℕ) → Reaches (go j b) ms j c)
    → Reaches (onward w go) (ns ++ ms) k c
unfolding onward
then_reaches w [] ms k b c go h after = subst (λ v. Reaches (onward v go) ms k c) (sym h) (after k)
then_reaches w (n ∷ ns) ms zero b c go h after = (h.0, ap (λ v. onward v go) h.1, h.2)
then_reaches w (n ∷ ns) ms (suc k) b c go h after = then_reaches w ns ms k b c go h after

-- and on through words without parts
moved : (w : Walk) (ns : List ℕ) (k : ℕ) (b c : List Word) (go : ℕ → List Word → Walk) → Reaches w ns k b → ((j : ℕ) → go j b ≡ Ok (j, c)) → Reaches (onward w go) ns k c
unfolding onward
moved w [] k b c go h after = ap (λ v. onward v go) h ∙ after k
moved w (n ∷ ns) zero b c go h after = (h.0, ap (λ v. onward v go) h.1, h.2)
moved w (n ∷ ns) (suc k) b c go h after = moved w ns k b c go h after

name_reaches : (k : ℕ) (w : Word) (a : List Word) → Reaches (name_walk k (w ∷ a)) (suc (length a) ∷ []) k a
name_reaches zero w a = (at_word (suc (length a)), refl, refl)
name_reaches (suc k) w a = refl

time_reaches : {i : List ℕ} {a b : List Word} (r : IsTime i a b) (k : ℕ) → Reaches (signed_walk k a) (time_word r ∷ []) k b
time_reaches (time_signed {i = i} {a = a}) k = name_reaches k (name i) a
time_reaches (time_plain {i = i} {a = a}) k = name_reaches k (name i) a

binder_reaches : {v : Binder} {a b : List Word} (r : IsBinder v a b) (k : ℕ) → Reaches (name_walk k (unsigned a)) (binder_word r ∷ []) k b
binder_reaches (binds_message {x = x} {a = a}) k = name_reaches k (name x) a
binder_reaches (binds_fresh {x = x} {a = a}) k = name_reaches k (name x) a
binder_reaches (binds_pub {x = x} {a = a}) k = name_reaches k (name x) a
binder_reaches (binds_time {i = i} {a = a}) k = name_reaches k (name i) a

binders_reach : {vs : List Binder} {a b : List Word} (r : AreBinders vs a b) (k : ℕ) → Reaches (binders_walk vs k a) (binder_words r) k b
unfolding binders_walk
binders_reach (binders_last {a = a} {b = b} r) k =
    moved (name_walk k (unsigned a)) (binder_word r ∷ []) k (mark (codes ".") ∷ b) b (binders_walk []) (binder_reaches r k) (λ j. refl)
binders_reach (binders_more {vs = vs} {a = a} {b = b} {c = c} r s) k =
    then_reaches (name_walk k (unsigned a)) (binder_word r ∷ []) (binder_words s) k b c (binders_walk vs) (binder_reaches r k) (λ j. binders_reach s j)

-- two time variables with a mark between them
times_reach : {i j : List ℕ} {w : Word} {a b c : List Word} (r : IsTime i a (w ∷ b)) (s : IsTime j b c) (k : ℕ) → Reaches (times_walk k a) (time_word r ∷ time_word s ∷ []) k c
times_reach {w = w} {a = a} {b = b} {c = c} r s k =
    then_reaches (past_words 1 (signed_walk k a)) (time_word r ∷ []) (time_word s ∷ []) k b c signed_walk
    (moved (signed_walk k a) (time_word r ∷ []) k (w ∷ b) b (λ j us. Ok (j, drop 1 us)) (time_reaches r k) (λ j. refl)) (λ j. time_reaches s j)

-- numbers of nodes side by side
pub parts_append : (us vs : List Tree) (ns ms : List ℕ) → length us ≡ length ns → of_parts (us ++ vs) (ns ++ ms) ≡ of_parts us ns ++ of_parts vs ms
parts_append [] vs [] ms e = refl
parts_append [] vs (n ∷ ns) ms e = absurd (omega (arith, e))
parts_append (u ∷ us) vs [] ms e = absurd (omega (arith, e))
parts_append (variable v ∷ us) vs (n ∷ ns) ms e = ap (λ xs. n ∷ xs) (parts_append us vs ns ms (omega (arith, e)))
parts_append (public s ∷ us) vs (n ∷ ns) ms e = parts_append us vs ns ms (omega (arith, e))
parts_append (fresh i ∷ us) vs (n ∷ ns) ms e = parts_append us vs ns ms (omega (arith, e))
parts_append (apply f ts ∷ us) vs (n ∷ ns) ms e = ap (λ xs. n ∷ xs) (parts_append us vs ns ms (omega (arith, e)))

-- what seeking a part of a term finds, as a step of the walk
at_term : {g : Sig} {t : Tree} {ws b : List Word} (q : IsTerm g t ws b) (C : Type 0) (all xs : List ℕ) (k top : ℕ) (w : Seek) → Finds C all xs k w
    → slice_get xs k ≡ slice_get (term_part_words q) top → Reaches (placed t ws top w) xs k (behind_term ws)
at_term {t = t} {ws = ws} q C all [] k top w h same = ap (λ v. placed t ws top v) h.1
at_term {g = g} {t = t} {ws = ws} {b = b} q C all (x ∷ xs) zero top w h same = (in_term t ws top, ap (λ v. placed t ws top v) h.1, (g, b, q, sym same))
at_term q C all (x ∷ xs) (suc k) top w h same = at_term q C all xs k top w h same

term_first : {g : Sig} {t : Tree} {a b : List Word} → IsTerm g t a b → starts (codes "(") a ≡ false
term_first (term_constant is) = refl
term_first (term_message is) = refl
term_first term_fresh = refl
term_first term_pub = refl
term_first term_quoted = refl
term_first (term_symbol low r) = refl
term_first (term_tuple r s) = refl

-- parentheses before a formula change nothing
opened : (f : Form) (k : ℕ) (a : List Word) → form_walk f k (mark (codes "(") ∷ a) ≡ form_walk f k a
unfolding form_walk
opened truth k a = refl
opened falsity k a = refl
opened (action f i) k a = refl
opened (equal t u) k a = refl
opened (same_time i j) k a = refl
opened (earlier i j) k a = refl
opened (negation f) k a = refl
opened (both f h) k a = ap (λ w. onward (past_words 1 w) (form_walk h)) (opened f k a)
opened (either f h) k a = ap (λ w. onward (past_words 1 w) (form_walk h)) (opened f k a)
opened (implies f h) k a = ap (λ w. onward (past_words 1 w) (form_walk h)) (opened f k a)
opened (equivalent f h) k a = ap (λ w. onward (past_words 1 w) (form_walk h)) (opened f k a)
opened (every vs f) k a = refl
opened (exists vs f) k a = refl

-- the walks from each part on; where no parenthesis opens behind, the words behind are those without parentheses that close
abbrev pub Goes : (ℕ → Walk) → List ℕ → List Word → Type 0
Goes w ns b = (c : List Word) × ((k : ℕ) → Reaches (w k) ns k c) × (starts (codes "(") b ≡ false → c ≡ behind_all (codes ")") b)

-- two formulas with a mark between them
join : (f h : Form) (m : List ℕ) (a b c : List Word) (ns ms : List ℕ) → starts (codes "(") (mark m ∷ b) ≡ false → behind_all (codes ")") (mark m ∷ b) ≡ mark m ∷ b
    → Goes (λ k. form_walk f k a) ns (mark m ∷ b) → Goes (λ k. form_walk h k b) ms c → Goes (λ k. both_walk (form_walk f) (form_walk h) k a) (ns ++ ms) c
join f h m a b c ns ms follows ends x y = (
  y.0,
  λ k. then_reaches (past_words 1 (form_walk f k a)) ns ms k b y.0 (form_walk h)
      (moved (form_walk f k a) ns k x.0 b (λ j us. Ok (j, drop 1 us)) (x.1 k) (λ j. ap (λ (us : List Word). Ok (j, drop 1 us)) (x.2 follows ∙ ends))) y.1,
  y.2,
)

-- bound variables, and a formula
bound : (vs : List Binder) (f : Form) (a b c : List Word) (ns ms : List ℕ) → ((k : ℕ) → Reaches (binders_walk vs k a) ns k b) → Goes (λ k. form_walk f k b) ms c
    → Goes (λ k. onward (binders_walk vs k a) (form_walk f)) (ns ++ ms) c
bound vs f a b c ns ms x y = (y.0, λ k. then_reaches (binders_walk vs k a) ns ms k b y.0 (form_walk f) (x k) y.1, y.2)

module _ (laws : NodeLaws) where
  pub as_many : {g : Sig} {t : Tree} {a b : List Word} (r : IsTerm g t a b) → length (nodes t) ≡ length (term_words r)
  as_many {g} {t} {a} {b} r = nodes_count t ∙ sym (laws.counts g t a b r)

  term_reaches : {g : Sig} {t : Tree} {a b : List Word} (r : IsTerm g t a b) (k : ℕ) → Reaches (term_walk t k a) (term_part_words r) k (behind_term a)
  unfolding term_walk
  term_reaches {t = t} r k =
      at_term r ⊥ (term_words r) (term_part_words r) k k (seek t k 0)
      (subst (λ w. Finds ⊥ (term_words r) (term_part_words r) k w) (sym (seek_picks t k 0)) (finds ⊥ (term_words r) (nodes t) (term_words r) k 0 (as_many r) (λ c. absurd c))) refl

  -- and past the mark behind it
  past_term : {g : Sig} {t : Tree} {w : Word} {a b : List Word} (r : IsTerm g t a (w ∷ b)) (k : ℕ) → starts (codes "(") (w ∷ b) ≡ false
      → Reaches (past_words 1 (term_walk t k a)) (term_part_words r) k b
  past_term {t = t} {a = a} {b = b} r k follows =
      moved (term_walk t k a) (term_part_words r) k (behind_term a) b (λ j us. Ok (j, drop 1 us)) (term_reaches r k) (λ j. ap (λ (us : List Word). Ok (j, drop 1 us)) (behind r follows))

  list_reaches : {g : Sig} {ts : List Tree} {a b : List Word} (r : IsList g ts a b) (k : ℕ) → Reaches (list_walk ts k a) (of_parts (nodes_of (trees_of ts)) (list_words r)) k b
  unfolding list_walk
  list_reaches (list_last {t = t} {a = a} {b = b} r) k =
      subst (λ us. Reaches (onward (past_words 1 (term_walk t k a)) (list_walk [])) (of_parts us (term_words r)) k b) (sym (append-nil (nodes t)))
      (moved (past_words 1 (term_walk t k a)) (term_part_words r) k b b (list_walk []) (past_term r k refl) (λ j. refl))
  list_reaches (list_more {t = t} {ts = ts} {a = a} {b = b} {c = c} r s) k =
      subst (λ ns. Reaches (onward (past_words 1 (term_walk t k a)) (list_walk ts)) ns k c) (sym (parts_append (nodes t) (nodes_of (trees_of ts)) (term_words r) (list_words s) (as_many r)))
      (then_reaches (past_words 1 (term_walk t k a)) (term_part_words r) (of_parts (nodes_of (trees_of ts)) (list_words s)) k b c (list_walk ts) (past_term r k refl) (λ j. list_reaches s j))

  args_reach : {g : Sig} {ts : List Tree} {a b : List Word} (r : IsArgs g ts a b) (k : ℕ) → Reaches (args_walk ts k a) (args_part_words r) k b
  unfolding args_walk
  args_reach args_none k = refl
  args_reach (args_some (list_last r)) k = list_reaches (list_last r) k
  args_reach (args_some (list_more r s)) k = list_reaches (list_more r s) k

  action_reaches : {g : Sig} {f : Fact} {i : List ℕ} {a b c : List Word} (r : IsFact g f a (mark (codes "@") ∷ b)) → f.persistent ≡ false → (t : IsTime i b c) (k : ℕ)
      → Reaches (action_walk f.args k a) (fact_part_words r ++ time_word t ∷ []) k c
  action_reaches {b = b} {c = c} (fact_linear {f = f} {ts = ts} {a = a} up r) plain t k =
      let n = suc (suc (length a)) in
      let start = moved (name_walk k (name f ∷ mark (codes "(") ∷ a)) (n ∷ []) k (mark (codes "(") ∷ a) a (λ j us. Ok (j, drop 1 us)) (name_reaches k (name f) (mark (codes "(") ∷ a)) (λ j. refl) in
      let through = then_reaches (past_words 1 (name_walk k (name f ∷ mark (codes "(") ∷ a))) (n ∷ []) (args_part_words r) k a (mark (codes "@") ∷ b) (args_walk ts) start (λ j. args_reach r j) in
      let all = onward (past_words 1 (name_walk k (name f ∷ mark (codes "(") ∷ a))) (args_walk ts) in
      then_reaches (past_words 1 all) (n ∷ args_part_words r) (time_word t ∷ []) k b c signed_walk
      (moved all (n ∷ args_part_words r) k (mark (codes "@") ∷ b) b (λ j us. Ok (j, drop 1 us)) through (λ j. refl)) (λ j. time_reaches t j)
  action_reaches (fact_persistent up r) plain t k = absurd (cc (plain))

  equal_reaches : {g : Sig} {t u : Tree} {w : Word} {a b c : List Word} (r : IsTerm g t a (w ∷ b)) (s : IsTerm g u b c) (k : ℕ) → starts (codes "(") (w ∷ b) ≡ false
      → Reaches (equal_walk t u k a) (term_part_words r ++ term_part_words s) k (behind_term b)
  equal_reaches {t = t} {u = u} {a = a} {b = b} r s k follows =
      then_reaches (past_words 1 (term_walk t k a)) (term_part_words r) (term_part_words s) k b (behind_term b) (term_walk u) (past_term r k follows) (λ j. term_reaches s j)

  -- past the parentheses that close
  closed : (w : Walk) (ns : List ℕ) (k : ℕ) (b : List Word) → Reaches w ns k b → Reaches (onward w (λ j us. Ok (j, behind_all (codes ")") us))) ns k (behind_all (codes ")") b)
  closed w ns k b h = moved w ns k b (behind_all (codes ")") b) (λ j us. Ok (j, behind_all (codes ")") us)) h (λ j. refl)

  times_go : {i j : List ℕ} (a : List Word) (w : Word) (b c : List Word) (r : IsTime i a (w ∷ b)) (s : IsTime j b c)
      → Goes (λ k. onward (times_walk k a) (λ j us. Ok (j, behind_all (codes ")") us))) (time_word r ∷ time_word s ∷ []) c
  times_go a w b c r s = (behind_all (codes ")") c, λ k. closed (times_walk k a) (time_word r ∷ time_word s ∷ []) k c (times_reach r s k), λ follows. refl)

  atom_goes : {g : Sig} {f : Form} {a b : List Word} (r : IsAtom g f a b) → Goes (λ k. form_walk f k a) (atom_part_words r) b
  unfolding form_walk
  atom_goes (atom_true {a = a} e) = (behind_all (codes ")") a, λ k. refl, λ follows. refl)
  atom_goes (atom_false {a = a} e) = (behind_all (codes ")") a, λ k. refl, λ follows. refl)
  atom_goes (atom_action {c = c} (fact_linear {f = f} {ts = ts} {a = a} up r) p t) = (
    behind_all (codes ")") c,
    λ k. closed (action_walk ts k (name f ∷ mark (codes "(") ∷ a)) (fact_part_words (fact_linear {f = f} up r) ++ time_word t ∷ []) k c (action_reaches (fact_linear {f = f} up r) p t k),
    λ follows. refl,
  )
  atom_goes (atom_action (fact_persistent up r) p t) = absurd (cc (p))
  atom_goes (atom_equal {t = t} {u = u} {a = a} {b = b} plain r s) = (
    behind_all (codes ")") (behind_term b),
    λ k. subst (λ ws. Reaches (onward (equal_walk t u k ws) (λ j us. Ok (j, behind_all (codes ")") us))) (term_part_words r ++ term_part_words s) k (behind_all (codes ")") (behind_term b)))
        (sym (all_end (codes "(") a (term_first r))) (closed (equal_walk t u k a) (term_part_words r ++ term_part_words s) k (behind_term b) (equal_reaches r s k refl)),
    λ follows. ap (λ ws. behind_all (codes ")") ws) (behind s follows),
  )
  atom_goes (atom_same {i = i} {j = j} {a = a}) =
      times_go (mark (codes "#") ∷ name i ∷ mark (codes "=") ∷ mark (codes "#") ∷ name j ∷ a) (mark (codes "=")) (mark (codes "#") ∷ name j ∷ a) a (time_signed {i = i}) (time_signed {i = j})
  atom_goes (atom_earlier {b = b} {c = c} plain (time_signed {i = i}) s) = times_go (mark (codes "#") ∷ name i ∷ mark (codes "<") ∷ b) (mark (codes "<")) b c (time_signed {i = i}) s
  atom_goes (atom_earlier {b = b} {c = c} plain (time_plain {i = i}) s) = times_go (name i ∷ mark (codes "<") ∷ b) (mark (codes "<")) b c (time_plain {i = i}) s

  mutual
    unfolding form_walk

    un_goes : {g : Sig} {e : Reach} {f : Form} {n : ℕ} {a b : List Word} (r : IsUn g e f n a b) → Goes (λ k. form_walk f k a) (un_words r) b
    un_goes (un_atom r) = atom_goes r
    un_goes (un_not r) = un_goes r
    un_goes (un_every {vs = vs} {f = f} {a = a} {b = b} {c = c} r s) = bound vs f a b c (binder_words r) (part_words s) (λ k. binders_reach r k) (iff_goes s)
    un_goes (un_exists {vs = vs} {f = f} {a = a} {b = b} {c = c} r s) = bound vs f a b c (binder_words r) (part_words s) (λ k. binders_reach r k) (iff_goes s)
    un_goes (un_parentheses {f = f} {a = a} r) =
        let h = iff_goes r in
        (h.0, λ k. subst (λ w. Reaches w (part_words r) k h.0) (sym (opened f k a)) (h.1 k), λ follows. h.2 refl)

    and_goes : {g : Sig} {e : Reach} {f : Form} {n : ℕ} {a b : List Word} (r : IsAnd g e f n a b) → Goes (λ k. form_walk f k a) (and_words r) b
    and_goes (and_one r) = un_goes r
    and_goes (and_more {f = f} {h = h} {a = a} {b = b} {c = c} r s) = join f h (codes "&") a b c (and_words r) (un_words s) refl refl (and_goes r) (un_goes s)

    or_goes : {g : Sig} {e : Reach} {f : Form} {n : ℕ} {a b : List Word} (r : IsOr g e f n a b) → Goes (λ k. form_walk f k a) (or_words r) b
    or_goes (or_one r) = and_goes r
    or_goes (or_more {f = f} {h = h} {a = a} {b = b} {c = c} r s) = join f h (codes "|") a b c (or_words r) (and_words s) refl refl (or_goes r) (and_goes s)

    imp_goes : {g : Sig} {e : Reach} {f : Form} {n : ℕ} {a b : List Word} (r : IsImp g e f n a b) → Goes (λ k. form_walk f k a) (imp_words r) b
    imp_goes (imp_one r) = or_goes r
    imp_goes (imp_more {f = f} {h = h} {a = a} {b = b} {c = c} r s) = join f h (codes "==>") a b c (or_words r) (imp_words s) refl refl (or_goes r) (imp_goes s)

    pub iff_goes : {g : Sig} {e : Reach} {f : Form} {n : ℕ} {a b : List Word} (r : IsIff g e f n a b) → Goes (λ k. form_walk f k a) (part_words r) b
    iff_goes (iff_one r) = imp_goes r
    iff_goes (iff_more {f = f} {h = h} {a = a} {b = b} {c = c} r s) = join f h (codes "<=>") a b c (imp_words r) (imp_words s) refl refl (imp_goes r) (imp_goes s)

-- nothing is reached
pub none_reached : (w : Walk) (ns : List ℕ) (k : ℕ) (b : List Word) (p : ℕ × List Word) → Reaches w ns k b → w ≡ Ok p → slice_get ns k ≡ None
none_reached w [] k b p h e = refl
none_reached w (n ∷ ns) zero b p h e = absurd (let f = sym h.1 ∙ e in cc (f))
none_reached w (n ∷ ns) (suc k) b p h e = none_reached w ns k b p h e

-- a spot is
pub spot_reached : (w : Walk) (ns : List ℕ) (k : ℕ) (b : List Word) (s : Spot) → Reaches w ns k b → w ≡ Err s → (n : ℕ) × (slice_get ns k ≡ Some n) × Tells s n
spot_reached w [] k b s h e = absurd (let f = sym h ∙ e in cc (f))
spot_reached w (n ∷ ns) zero b s h e =
    let f = sym h.1 ∙ e in
    let same : h.0 ≡ s = cc (f) in (n, refl, subst (λ z. Tells z n) same h.2)
spot_reached w (n ∷ ns) (suc k) b s h e = spot_reached w ns k b s h e

module _ (laws : NodeLaws) where
  -- of a term: the part is this node, or there is none
  finds_parts : (C : Type 0) {g : Sig} {t : Tree} {a b : List Word} (r : IsTerm g t a b) (k : ℕ) → (C → node_count t < 2 ^ 64) → Finds C (term_words r) (term_part_words r) k (seek t k 0)
  finds_parts C {t = t} r k few =
      subst (λ w. Finds C (term_words r) (term_part_words r) k w) (sym (seek_picks t k 0))
      (finds C (term_words r) (nodes t) (term_words r) k 0 (as_many laws r) (λ c. (refl, omega (arith, few c, nodes_count t))))

  pub part_is_none : {g : Sig} {t : Tree} {a b : List Word} (r : IsTerm g t a b) (k : ℕ) (p : ℕ × ℕ) → seek t k 0 ≡ Ok p → slice_get (term_part_words r) k ≡ None
  part_is_none {t = t} r k p e = not_found ⊥ (term_words r) (term_part_words r) k p (seek t k 0) (finds_parts ⊥ r k (λ c. absurd c)) e

  pub part_is_node : {g : Sig} {t : Tree} {a b : List Word} (r : IsTerm g t a b) (k j : ℕ) → node_count t < 2 ^ 64 → seek t k 0 ≡ Err j → slice_get (term_part_words r) k ≡ slice_get (term_words r) j
  part_is_node {t = t} r k j few e = node_found (Unit {0}) tt (term_words r) (term_part_words r) k j (seek t k 0) (finds_parts (Unit {0}) r k (λ c. few)) e

  -- of a formula
  pub no_part : {g : Sig} {e : Reach} {f : Form} {n : ℕ} {a b : List Word} (r : IsIff g e f n a b) (k : ℕ) (p : ℕ × List Word) → form_walk f k a ≡ Ok p → slice_get (part_words r) k ≡ None
  no_part {f = f} {a = a} r k p e = let h = iff_goes laws r in none_reached (form_walk f k a) (part_words r) k h.0 p (h.1 k) e

  pub part_is_word : {g : Sig} {e : Reach} {f : Form} {n : ℕ} {a b : List Word} (r : IsIff g e f n a b) (k i : ℕ) → form_walk f k a ≡ Err (at_word i) → slice_get (part_words r) k ≡ Some i
  part_is_word {f = f} {a = a} r k i e =
      let h = iff_goes laws r in
      let found = spot_reached (form_walk f k a) (part_words r) k h.0 (at_word i) (h.1 k) e in
      found.1 ∙ ap Some (sym found.2)

  pub part_in_term : {g : Sig} {e : Reach} {f : Form} {n : ℕ} {a b : List Word} (r : IsIff g e f n a b) (k : ℕ) (t : Tree) (ws : List Word) (j : ℕ) → form_walk f k a ≡ Err (in_term t ws j)
      → (o : Option ℕ) → ((h : Sig) (c : List Word) (q : IsTerm h t ws c) → o ≡ slice_get (term_part_words q) j) → o ≡ slice_get (part_words r) k
  part_in_term {f = f} {a = a} r k t ws j e o answer =
      let h = iff_goes laws r in
      let found = spot_reached (form_walk f k a) (part_words r) k h.0 (in_term t ws j) (h.1 k) e in
      let there = found.2 in
      answer there.0 there.1 there.2 ∙ (there.3 ∙ sym found.1)
