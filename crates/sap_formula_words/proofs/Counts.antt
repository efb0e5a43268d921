-- As many numbers as parts, and each is that of a word of the formula.
use Rattle.std.proofs.Common.{◌≡◌, ◌<◌, ◌≤◌, ◌+◌, ℕ, suc, List, [], ◌∷◌, ◌++◌, length, map, refl, sym, ◌∙◌, arith}
use Rattle.std.specs.Prelude.{codes, All}
use Rattle.std.proofs.lemmas.List.{length-append, length-map}
use Rattle.std.proofs.lemmas.List.Elements.{All-nil, All-cons, All-append, All-weaker, All-head, All-tail}
use Rattle.sap_terms.specs.Signature.{Sig}
use Rattle.sap_terms.specs.Tree.{Tree, variable, public, fresh, apply, Trees, none, more, trees_of}
use Rattle.sap_terms.specs.declared.fact.Fact.{Fact}
use Rattle.sap_formula.specs.Form.{Form}
use Rattle.sap_formula.specs.Checked.{enter, premise}
use Rattle.sap_formula.specs.Parts.{term_parts, terms_parts, form_parts, bound, time}
use Rattle.sap_formula.specs.declared.binder.Binder.{Binder}
use Rattle.sap_grammar.specs.Words.{Word, mark}
use Rattle.sap_grammar.specs.TermGrammar.{IsTerm, IsArgs, term_symbol}
use Rattle.sap_grammar.specs.FactGrammar.{IsFact, fact_linear, fact_persistent}
use Rattle.sap_grammar.proofs.ReadingLaws.Ends.{term_shorter, fact_shorter}
use Rattle.sap_formula_grammar.specs.FormulaGrammar.{IsTime, time_signed, time_plain, IsAtom, atom_true, atom_false, atom_action, atom_equal, atom_same, atom_earlier, IsBinder, binds_message, binds_fresh, binds_pub, binds_time, AreBinders, binders_last, binders_more, Reach, IsUn, IsAnd, IsOr, IsImp, IsIff, un_atom, un_not, un_every, un_exists, un_parentheses, and_one, and_more, or_one, or_more, imp_one, imp_more, iff_one, iff_more}
use Rattle.sap_node_words.specs.NodeWords.{term_words, args_words, nodes, nodes_of}
use Rattle.sap_formula_words.specs.PartWords.{of_parts, term_part_words, args_part_words, fact_part_words, time_word, atom_part_words, binder_word, binder_words, un_words, and_words, or_words, imp_words, part_words}
use Rattle.sap_formula_words.specs.code.NodeLaws.{NodeLaws}
use Rattle.sap_formula_words.proofs.Seeking.{nodes_count, all_count}

-- how many of these nodes are parts
abbrev parts_among : List Tree → ℕ
parts_among [] = 0
parts_among (variable v ∷ us) = parts_among us + 1
parts_among (public s ∷ us) = parts_among us
parts_among (fresh i ∷ us) = parts_among us
parts_among (apply f ts ∷ us) = parts_among us + 1

among_append : (us vs : List Tree) → parts_among (us ++ vs) ≡ parts_among us + parts_among vs
among_append [] vs = omega arith
among_append (variable v ∷ us) vs = omega (arith, among_append us vs)
among_append (public s ∷ us) vs = omega (arith, among_append us vs)
among_append (fresh i ∷ us) vs = omega (arith, among_append us vs)
among_append (apply f ts ∷ us) vs = omega (arith, among_append us vs)

kept : (us : List Tree) (ns : List ℕ) → length us ≡ length ns → length (of_parts us ns) ≡ parts_among us
kept [] ns e = refl
kept (u ∷ us) [] e = absurd (omega (arith, e))
kept (variable v ∷ us) (n ∷ ns) e = omega (arith, kept us ns (omega (arith, e)))
kept (public s ∷ us) (n ∷ ns) e = kept us ns (omega (arith, e))
kept (fresh i ∷ us) (n ∷ ns) e = kept us ns (omega (arith, e))
kept (apply f ts ∷ us) (n ∷ ns) e = omega (arith, kept us ns (omega (arith, e)))

mutual
  among : (scope : List Binder) (t : Tree) → length (term_parts scope t) ≡ parts_among (nodes t)
  among scope (variable v) = refl
  among scope (public s) = refl
  among scope (fresh i) = refl
  among scope (apply f ts) = omega (arith, all_among scope ts)

  all_among : (scope : List Binder) (ts : Trees) → length (terms_parts scope ts) ≡ parts_among (nodes_of ts)
  all_among scope none = refl
  all_among scope (more t ts) =
      omega (arith, length-append (term_parts scope t) (terms_parts scope ts), among_append (nodes t) (nodes_of ts), among scope t, all_among scope ts)

-- a number of words between these
abbrev pub Between : ℕ → ℕ → ℕ → Type 0
Between low high n = (low < n) × (n ≤ high)

wider : (low high lower higher : ℕ) (ns : List ℕ) → lower ≤ low → high ≤ higher → All (Between low high) ns → All (Between lower higher) ns
wider low high lower higher ns l h all = All-weaker (Between low high) (Between lower higher) (λ n is. (omega (arith, l, is.0), omega (arith, h, is.1))) ns all

one_between : (low high n : ℕ) → low < n → n ≤ high → All (Between low high) (n ∷ [])
one_between low high n l h = All-cons (Between low high) n [] (l, h) (All-nil (Between low high))

-- numbers of words before a place, and numbers of words behind it
side_by_side : (low high next middle : ℕ) (ns ms : List ℕ) → low ≤ next → middle ≤ high → middle ≤ next → next < high → All (Between next high) ns → All (Between low middle) ms
    → All (Between low high) (ns ++ ms)
side_by_side low high next middle ns ms l t m n before behind =
    All-append (Between low high) ns ms (wider next high low high ns l (omega arith) before) (wider low middle low high ms (omega arith) t behind)

-- what is so of all numbers is so of those of parts
kept_all : (P : ℕ → Type 0) (us : List Tree) (ns : List ℕ) → All P ns → All P (of_parts us ns)
kept_all P [] ns h = All-nil P
kept_all P (u ∷ us) [] h = All-nil P
kept_all P (variable v ∷ us) (n ∷ ns) h = All-cons P n (of_parts us ns) (All-head P n ns h) (kept_all P us ns (All-tail P n ns h))
kept_all P (public s ∷ us) (n ∷ ns) h = kept_all P us ns (All-tail P n ns h)
kept_all P (fresh i ∷ us) (n ∷ ns) h = kept_all P us ns (All-tail P n ns h)
kept_all P (apply f ts ∷ us) (n ∷ ns) h = All-cons P n (of_parts us ns) (All-head P n ns h) (kept_all P us ns (All-tail P n ns h))

pub time_shorter : {i : List ℕ} {a b : List Word} → IsTime i a b → length b < length a
time_shorter time_signed = omega arith
time_shorter time_plain = omega arith

time_between : {i : List ℕ} {a b : List Word} (r : IsTime i a b) → All (Between (length b) (length a)) (time_word r ∷ [])
time_between time_signed = one_between _ _ _ (omega arith) (omega arith)
time_between time_plain = one_between _ _ _ (omega arith) (omega arith)

pub binder_shorter : {v : Binder} {a b : List Word} → IsBinder v a b → length b < length a
binder_shorter binds_message = omega arith
binder_shorter binds_fresh = omega arith
binder_shorter binds_pub = omega arith
binder_shorter binds_time = omega arith

binder_between : {v : Binder} {a b : List Word} (r : IsBinder v a b) → All (Between (length b) (length a)) (binder_word r ∷ [])
binder_between binds_message = one_between _ _ _ (omega arith) (omega arith)
binder_between binds_fresh = one_between _ _ _ (omega arith) (omega arith)
binder_between binds_pub = one_between _ _ _ (omega arith) (omega arith)
binder_between binds_time = one_between _ _ _ (omega arith) (omega arith)

binders_shorter : {vs : List Binder} {a b : List Word} → AreBinders vs a b → length b < length a
binders_shorter (binders_last r) = omega (arith, binder_shorter r)
binders_shorter (binders_more r s) = omega (arith, binder_shorter r, binders_shorter s)

binders_between : {vs : List Binder} {a b : List Word} (r : AreBinders vs a b) → All (Between (length b) (length a)) (binder_words r)
binders_between (binders_last {a = a} {b = b} r) = wider (suc (length b)) (length a) (length b) (length a) (binder_word r ∷ []) (omega arith) (omega arith) (binder_between r)
binders_between (binders_more {a = a} {b = b} {c = c} r s) =
    side_by_side (length c) (length a) (length b) (length b) (binder_word r ∷ []) (binder_words s) (omega (arith, binders_shorter s)) (omega (arith, binder_shorter r)) (omega arith) (binder_shorter r)
    (binder_between r) (binders_between s)

binders_count : {vs : List Binder} {a b : List Word} (r : AreBinders vs a b) → length (binder_words r) ≡ length vs
binders_count (binders_last r) = refl
binders_count (binders_more r s) = omega (arith, binders_count s)

atom_shorter : {g : Sig} {f : Form} {a b : List Word} → IsAtom g f a b → length b < length a
atom_shorter (atom_true e) = omega arith
atom_shorter (atom_false e) = omega arith
atom_shorter (atom_action r p t) = omega (arith, fact_shorter r, time_shorter t)
atom_shorter (atom_equal plain r s) = omega (arith, term_shorter r, term_shorter s)
atom_shorter atom_same = omega arith
atom_shorter (atom_earlier plain r s) = omega (arith, time_shorter r, time_shorter s)

mutual
  un_shorter : {g : Sig} {e : Reach} {f : Form} {n : ℕ} {a b : List Word} → IsUn g e f n a b → length b < length a
  un_shorter (un_atom r) = atom_shorter r
  un_shorter (un_not r) = omega (arith, un_shorter r)
  un_shorter (un_every r s) = omega (arith, binders_shorter r, iff_shorter s)
  un_shorter (un_exists r s) = omega (arith, binders_shorter r, iff_shorter s)
  un_shorter (un_parentheses r) = omega (arith, iff_shorter r)

  and_shorter : {g : Sig} {e : Reach} {f : Form} {n : ℕ} {a b : List Word} → IsAnd g e f n a b → length b < length a
  and_shorter (and_one r) = un_shorter r
  and_shorter (and_more r s) = omega (arith, and_shorter r, un_shorter s)

  or_shorter : {g : Sig} {e : Reach} {f : Form} {n : ℕ} {a b : List Word} → IsOr g e f n a b → length b < length a
  or_shorter (or_one r) = and_shorter r
  or_shorter (or_more r s) = omega (arith, or_shorter r, and_shorter s)

  imp_shorter : {g : Sig} {e : Reach} {f : Form} {n : ℕ} {a b : List Word} → IsImp g e f n a b → length b < length a
  imp_shorter (imp_one r) = or_shorter r
  imp_shorter (imp_more r s) = omega (arith, or_shorter r, imp_shorter s)

  pub iff_shorter : {g : Sig} {e : Reach} {f : Form} {n : ℕ} {a b : List Word} → IsIff g e f n a b → length b < length a
  iff_shorter (iff_one r) = imp_shorter r
  iff_shorter (iff_more r s) = omega (arith, imp_shorter r, imp_shorter s)

-- two parts with a mark between them
joined : (a b c : List Word) (m : Word) (ns ms : List ℕ) → length (m ∷ b) < length a → length c < length b → All (Between (length (m ∷ b)) (length a)) ns → All (Between (length c) (length b)) ms
    → All (Between (length c) (length a)) (ns ++ ms)
joined a b c m ns ms l r before behind =
    side_by_side (length c) (length a) (suc (length b)) (length b) ns ms (omega (arith, r)) (omega (arith, l)) (omega arith) (omega (arith, l)) before behind

module _ (laws : NodeLaws) where
  term_counts : (scope : List Binder) {g : Sig} {t : Tree} {a b : List Word} (r : IsTerm g t a b) → length (term_part_words r) ≡ length (term_parts scope t)
  term_counts scope {g} {t} {a} {b} r = kept (nodes t) (term_words r) (nodes_count t ∙ sym (laws.counts g t a b r)) ∙ sym (among scope t)

  args_counts : (scope : List Binder) {g : Sig} {ts : List Tree} {a b : List Word} (r : IsArgs g ts a b) → length (args_part_words r) ≡ length (terms_parts scope (trees_of ts))
  args_counts scope {g} {ts} {a} {b} r =
      let all = laws.counts g (apply (codes "f") (trees_of ts)) _ b (term_symbol {f = codes "f"} refl r) in
      kept (nodes_of (trees_of ts)) (args_words r) (omega (arith, all_count (trees_of ts), all)) ∙ sym (all_among scope (trees_of ts))

  atom_counts : (scope : List Binder) {g : Sig} {f : Form} {a b : List Word} (r : IsAtom g f a b) → length (atom_part_words r) ≡ length (form_parts scope f)
  atom_counts scope (atom_true e) = refl
  atom_counts scope (atom_false e) = refl
  atom_counts scope (atom_action {i = i} (fact_linear {ts = ts} up r) p t) =
      omega (arith, length-append (args_part_words r) (time_word t ∷ []), length-append (terms_parts scope (trees_of ts)) (time scope i ∷ []), args_counts scope r)
  atom_counts scope (atom_action (fact_persistent up r) p t) = absurd (cc (p))
  atom_counts scope (atom_equal {t = t} {u = u} plain r s) =
      omega (arith, length-append (term_part_words r) (term_part_words s), length-append (term_parts scope t) (term_parts scope u), term_counts scope r, term_counts scope s)
  atom_counts scope atom_same = refl
  atom_counts scope (atom_earlier plain r s) = refl

  two_count : (ns ms : List ℕ) {A : Type 0} (ps qs : List A) → length ns ≡ length ps → length ms ≡ length qs → length (ns ++ ms) ≡ length (ps ++ qs)
  two_count ns ms ps qs e f = omega (arith, length-append ns ms, length-append ps qs, e, f)

  mutual
    un_counts : (scope : List Binder) {g : Sig} {e : Reach} {f : Form} {n : ℕ} {a b : List Word} (r : IsUn g e f n a b) → length (un_words r) ≡ length (form_parts scope f)
    un_counts scope (un_atom r) = atom_counts scope r
    un_counts scope (un_not r) = un_counts scope r
    un_counts scope (un_every {vs = vs} {f = f} r s) =
        two_count (binder_words r) (part_words s) (map (bound (premise f)) vs) (form_parts (enter vs scope) f) (binders_count r ∙ sym (length-map vs (bound (premise f)))) (part_counts (enter vs scope) s)
    un_counts scope (un_exists {vs = vs} {f = f} r s) =
        two_count (binder_words r) (part_words s) (map (bound f) vs) (form_parts (enter vs scope) f) (binders_count r ∙ sym (length-map vs (bound f))) (part_counts (enter vs scope) s)
    un_counts scope (un_parentheses r) = part_counts scope r

    and_counts : (scope : List Binder) {g : Sig} {e : Reach} {f : Form} {n : ℕ} {a b : List Word} (r : IsAnd g e f n a b) → length (and_words r) ≡ length (form_parts scope f)
    and_counts scope (and_one r) = un_counts scope r
    and_counts scope (and_more {f = f} {h = h} r s) = two_count (and_words r) (un_words s) (form_parts scope f) (form_parts scope h) (and_counts scope r) (un_counts scope s)

    or_counts : (scope : List Binder) {g : Sig} {e : Reach} {f : Form} {n : ℕ} {a b : List Word} (r : IsOr g e f n a b) → length (or_words r) ≡ length (form_parts scope f)
    or_counts scope (or_one r) = and_counts scope r
    or_counts scope (or_more {f = f} {h = h} r s) = two_count (or_words r) (and_words s) (form_parts scope f) (form_parts scope h) (or_counts scope r) (and_counts scope s)

    imp_counts : (scope : List Binder) {g : Sig} {e : Reach} {f : Form} {n : ℕ} {a b : List Word} (r : IsImp g e f n a b) → length (imp_words r) ≡ length (form_parts scope f)
    imp_counts scope (imp_one r) = or_counts scope r
    imp_counts scope (imp_more {f = f} {h = h} r s) = two_count (or_words r) (imp_words s) (form_parts scope f) (form_parts scope h) (or_counts scope r) (imp_counts scope s)

    pub part_counts : (scope : List Binder) {g : Sig} {e : Reach} {f : Form} {n : ℕ} {a b : List Word} (r : IsIff g e f n a b) → length (part_words r) ≡ length (form_parts scope f)
    part_counts scope (iff_one r) = imp_counts scope r
    part_counts scope (iff_more {f = f} {h = h} r s) = two_count (imp_words r) (imp_words s) (form_parts scope f) (form_parts scope h) (imp_counts scope r) (imp_counts scope s)

  term_within : {g : Sig} {t : Tree} {a b : List Word} (r : IsTerm g t a b) → All (Between (length b) (length a)) (term_part_words r)
  term_within {g} {t} {a} {b} r = kept_all (Between (length b) (length a)) (nodes t) (term_words r) (laws.within g t a b r)

  args_within : {g : Sig} {ts : List Tree} {a b : List Word} (r : IsArgs g ts a b) → All (Between (length b) (suc (suc (length a)))) (suc (suc (length a)) ∷ args_part_words r)
  args_within {g} {ts} {a} {b} r =
      let P = Between (length b) (suc (suc (length a))) in
      let all = laws.within g (apply (codes "f") (trees_of ts)) _ b (term_symbol {f = codes "f"} refl r) in
      All-cons P (suc (suc (length a))) (args_part_words r) (All-head P (suc (suc (length a))) (args_words r) all)
      (kept_all P (nodes_of (trees_of ts)) (args_words r) (All-tail P (suc (suc (length a))) (args_words r) all))

  fact_within : {g : Sig} {f : Fact} {a b : List Word} (r : IsFact g f a b) → All (Between (length b) (length a)) (fact_part_words r)
  fact_within (fact_linear up r) = args_within r
  fact_within (fact_persistent {f = f} {a = a} {b = b} up r) =
      wider (length b) (suc (suc (length a))) (length b) (suc (suc (suc (length a)))) (fact_part_words (fact_persistent {f = f} up r)) (omega arith) (omega arith) (args_within r)

  atom_within : {g : Sig} {f : Form} {a b : List Word} (r : IsAtom g f a b) → All (Between (length b) (length a)) (atom_part_words r)
  atom_within (atom_true e) = All-nil (Between _ _)
  atom_within (atom_false e) = All-nil (Between _ _)
  atom_within (atom_action {a = a} {b = b} {c = c} r p t) = joined a b c (mark (codes "@")) (fact_part_words r) (time_word t ∷ []) (fact_shorter r) (time_shorter t) (fact_within r) (time_between t)
  atom_within (atom_equal {a = a} {b = b} {c = c} plain r s) =
      joined a b c (mark (codes "=")) (term_part_words r) (term_part_words s) (term_shorter r) (term_shorter s) (term_within r) (term_within s)
  atom_within (atom_same {a = a}) =
      All-cons (Between (length a) (suc (suc (suc (suc (suc (length a))))))) (suc (suc (suc (suc (length a))))) (suc (length a) ∷ []) (omega arith, omega arith) (one_between _ _ _ (omega arith) (omega arith))
  atom_within (atom_earlier {a = a} {b = b} {c = c} plain r s) =
      joined a b c (mark (codes "<")) (time_word r ∷ []) (time_word s ∷ []) (time_shorter r) (time_shorter s) (time_between r) (time_between s)

  -- behind one word more
  behind_word : (a b : List Word) (w : Word) (ns : List ℕ) → All (Between (length b) (length a)) ns → All (Between (length b) (length (w ∷ a))) ns
  behind_word a b w ns h = wider (length b) (length a) (length b) (suc (length a)) ns (omega arith) (omega arith) h

  -- bound variables, and a formula
  bound_within : (a b c : List Word) (w : Word) (ns ms : List ℕ) → length b < length a → length c < length b → All (Between (length b) (length a)) ns → All (Between (length c) (length b)) ms
      → All (Between (length c) (length (w ∷ a))) (ns ++ ms)
  bound_within a b c w ns ms l r before behind =
      behind_word a c w (ns ++ ms) (side_by_side (length c) (length a) (length b) (length b) ns ms (omega (arith, r)) (omega (arith, l)) (omega arith) l before behind)

  mutual
    un_within : {g : Sig} {e : Reach} {f : Form} {n : ℕ} {a b : List Word} (r : IsUn g e f n a b) → All (Between (length b) (length a)) (un_words r)
    un_within (un_atom r) = atom_within r
    un_within (un_not {a = a} {b = b} r) = behind_word a b (mark (codes "not")) (un_words r) (un_within r)
    un_within (un_every {a = a} {b = b} {c = c} r s) =
        bound_within a b c (mark (codes "All")) (binder_words r) (part_words s) (binders_shorter r) (iff_shorter s) (binders_between r) (part_within s)
    un_within (un_exists {a = a} {b = b} {c = c} r s) =
        bound_within a b c (mark (codes "Ex")) (binder_words r) (part_words s) (binders_shorter r) (iff_shorter s) (binders_between r) (part_within s)
    un_within (un_parentheses {a = a} {b = b} r) =
        wider (suc (length b)) (length a) (length b) (suc (length a)) (part_words r) (omega arith) (omega arith) (part_within r)

    and_within : {g : Sig} {e : Reach} {f : Form} {n : ℕ} {a b : List Word} (r : IsAnd g e f n a b) → All (Between (length b) (length a)) (and_words r)
    and_within (and_one r) = un_within r
    and_within (and_more {a = a} {b = b} {c = c} r s) = joined a b c (mark (codes "&")) (and_words r) (un_words s) (and_shorter r) (un_shorter s) (and_within r) (un_within s)

    or_within : {g : Sig} {e : Reach} {f : Form} {n : ℕ} {a b : List Word} (r : IsOr g e f n a b) → All (Between (length b) (length a)) (or_words r)
    or_within (or_one r) = and_within r
    or_within (or_more {a = a} {b = b} {c = c} r s) = joined a b c (mark (codes "|")) (or_words r) (and_words s) (or_shorter r) (and_shorter s) (or_within r) (and_within s)

    imp_within : {g : Sig} {e : Reach} {f : Form} {n : ℕ} {a b : List Word} (r : IsImp g e f n a b) → All (Between (length b) (length a)) (imp_words r)
    imp_within (imp_one r) = or_within r
    imp_within (imp_more {a = a} {b = b} {c = c} r s) = joined a b c (mark (codes "==>")) (or_words r) (imp_words s) (or_shorter r) (imp_shorter s) (or_within r) (imp_within s)

    pub part_within : {g : Sig} {e : Reach} {f : Form} {n : ℕ} {a b : List Word} (r : IsIff g e f n a b) → All (Between (length b) (length a)) (part_words r)
    part_within (iff_one r) = imp_within r
    part_within (iff_more {a = a} {b = b} {c = c} r s) = joined a b c (mark (codes "<=>")) (imp_words r) (imp_words s) (imp_shorter r) (imp_shorter s) (imp_within r) (imp_within s)
