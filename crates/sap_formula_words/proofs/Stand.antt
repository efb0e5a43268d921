-- Each number is that of the word at which its part stands.
use Rattle.std.proofs.Common.{◌≡◌, ◌≤◌, ◌-◌, ◌+◌, ℕ, suc, false, List, [], ◌∷◌, ◌++◌, length, drop, map, refl, sym, ap, subst, ◌∙◌, arith}
use Rattle.std.specs.Prelude.{codes, All}
use Rattle.std.specs.List.{AllZip}
use Rattle.std.proofs.lemmas.List.{append-nil, drop-drop, length-drop}
use Rattle.std.proofs.lemmas.List.Elements.{All-head, All-tail}
use Rattle.sap_terms.specs.Signature.{Sig}
use Rattle.sap_terms.specs.Tree.{Tree, Trees, variable, public, fresh, apply, none, more, trees_of, list_of}
use Rattle.sap_terms.specs.declared.fact.Fact.{Fact}
use Rattle.sap_terms.specs.declared.var.Var.{Var}
use Rattle.sap_formula.specs.Form.{Form, action}
use Rattle.sap_formula.specs.Checked.{enter, premise}
use Rattle.sap_formula.specs.Parts.{Part, symbol, fact_name, message, time, bound, term_parts, terms_parts, form_parts}
use Rattle.sap_formula.specs.declared.binder.Binder.{Binder}
use Rattle.sap_grammar.specs.Words.{Word, mark, name}
use Rattle.sap_grammar.specs.TermGrammar.{IsTerm, IsList, IsArgs, list_last, list_more, args_none, args_some}
use Rattle.sap_grammar.specs.FactGrammar.{IsFact, fact_linear, fact_persistent}
use Rattle.sap_grammar.proofs.ReadingLaws.Ends.{IsEnd, one_more, mark_end, end_end, then_end, term_end, fact_end}
use Rattle.sap_formula_grammar.specs.FormulaGrammar.{IsTime, time_signed, time_plain, IsAtom, atom_true, atom_false, atom_action, atom_equal, atom_same, atom_earlier, IsBinder, binds_message, binds_fresh, binds_pub, binds_time, AreBinders, binders_last, binders_more, Reach, IsUn, IsAnd, IsOr, IsImp, IsIff, un_atom, un_not, un_every, un_exists, un_parentheses, and_one, and_more, or_one, or_more, imp_one, imp_more, iff_one, iff_more}
use Rattle.sap_node_words.specs.NodeWords.{term_words, list_words, nodes, nodes_of, StandsAt, at_name, at_symbol, at_tuple, at_rest, last_words}
use Rattle.sap_formula_words.specs.PartWords.{of_parts, term_part_words, args_part_words, fact_part_words, time_word, atom_part_words, binder_word, binder_words, un_words, and_words, or_words, imp_words, part_words, IsPartAt, part_named, part_tuple, part_rest}
use Rattle.sap_formula_words.specs.code.NodeLaws.{NodeLaws}
use Rattle.sap_formula_words.proofs.Counts.{Between}
use Rattle.sap_formula_words.proofs.Reaches.{parts_append, as_many}

zip_append : {A B : Type 0} (R : A → B → Type 0) (xs us : List A) (ys vs : List B) → AllZip R xs ys → AllZip R us vs → AllZip R (xs ++ us) (ys ++ vs)
zip_append R [] us [] vs h k = k
zip_append R [] us (y ∷ ys) vs h k = absurd h
zip_append R (x ∷ xs) us [] vs h k = absurd h
zip_append R (x ∷ xs) us (y ∷ ys) vs h k = (h.0, zip_append R xs us ys vs h.1 k)

zip_weaker : {A B : Type 0} (R Q : A → B → Type 0) → ((x : A) (y : B) → R x y → Q x y) → (xs : List A) (ys : List B) → AllZip R xs ys → AllZip Q xs ys
zip_weaker R Q f [] [] h = tt
zip_weaker R Q f [] (y ∷ ys) h = absurd h
zip_weaker R Q f (x ∷ xs) [] h = absurd h
zip_weaker R Q f (x ∷ xs) (y ∷ ys) h = (f x y h.0, zip_weaker R Q f xs ys h.1)

-- a part stands at one of these words, from which so many are left
abbrev Here : Sig → List Word → Part → ℕ → Type 0
Here g a p n = (n ≤ length a) × IsPartAt g p (last_words n a)

abbrev AllHere : Sig → List Word → List Part → List ℕ → Type 0
AllHere g a ps ns = AllZip (Here g a) ps ns

all_words : (a : List Word) → last_words (length a) a ≡ a
all_words a = let e : length a - length a ≡ 0 = omega arith in rw e refl

-- at the first of them
alone : (g : Sig) (a : List Word) (p : Part) → IsPartAt g p a → AllHere g a (p ∷ []) (length a ∷ [])
alone g a p h = ((omega arith, subst (IsPartAt g p) (sym (all_words a)) h), tt)

-- at one that stands further on
later : (g : Sig) (a b : List Word) → IsEnd a b → (p : Part) (n : ℕ) → Here g b p n → Here g a p n
later g a b ends p n h =
    let long : length b ≡ length a - ends.0 = ap (λ (y : List Word). length y) ends.3 ∙ length-drop ends.0 a in
    let same : drop (length b - n) b ≡ drop (ends.0 + (length b - n)) a = ap (λ (y : List Word). drop (length b - n) y) ends.3 ∙ drop-drop (length b - n) ends.0 a in
    let at : ends.0 + (length b - n) ≡ length a - n = omega (arith, long, ends.2, h.0) in
    (omega (arith, long, h.0), subst (IsPartAt g p) (same ∙ ap (λ k. drop k a) at) h.1)

all_later : (g : Sig) (a b : List Word) → IsEnd a b → (ps : List Part) (ns : List ℕ) → AllHere g b ps ns → AllHere g a ps ns
all_later g a b ends ps ns h = zip_weaker (Here g b) (Here g a) (later g a b ends) ps ns h

next : {w : Word} {a : List Word} → IsEnd (w ∷ a) a
next = (1, omega arith, omega arith, refl)

-- parts, and others behind them
joined : (g : Sig) (a b : List Word) (ps qs : List Part) (ns ms : List ℕ) → IsEnd a b → AllHere g a ps ns → AllHere g b qs ms → AllHere g a (ps ++ qs) (ns ++ ms)
joined g a b ps qs ns ms ends h k = zip_append (Here g a) ps qs ns ms h (all_later g a b ends qs ms k)

-- the parts among nodes
abbrev node_parts : List Binder → List Tree → List Part
node_parts scope [] = []
node_parts scope (variable v ∷ us) = message scope v ∷ node_parts scope us
node_parts scope (public s ∷ us) = node_parts scope us
node_parts scope (fresh i ∷ us) = node_parts scope us
node_parts scope (apply f ts ∷ us) = symbol f (length (list_of ts)) ∷ node_parts scope us

node_append : (scope : List Binder) (us vs : List Tree) → node_parts scope (us ++ vs) ≡ node_parts scope us ++ node_parts scope vs
node_append scope [] vs = refl
node_append scope (variable v ∷ us) vs = ap (λ ps. message scope v ∷ ps) (node_append scope us vs)
node_append scope (public s ∷ us) vs = node_append scope us vs
node_append scope (fresh i ∷ us) vs = node_append scope us vs
node_append scope (apply f ts ∷ us) vs = ap (λ ps. symbol f (length (list_of ts)) ∷ ps) (node_append scope us vs)

mutual
  parts_are : (scope : List Binder) (t : Tree) → node_parts scope (nodes t) ≡ term_parts scope t
  parts_are scope (variable v) = refl
  parts_are scope (public s) = refl
  parts_are scope (fresh i) = refl
  parts_are scope (apply f ts) = ap (λ ps. symbol f (length (list_of ts)) ∷ ps) (all_are scope ts)

  all_are : (scope : List Binder) (ts : Trees) → node_parts scope (nodes_of ts) ≡ terms_parts scope ts
  all_are scope none = refl
  all_are scope (more t ts) =
      node_append scope (nodes t) (nodes_of ts) ∙ (ap (λ ps. ps ++ node_parts scope (nodes_of ts)) (parts_are scope t) ∙ ap (λ ps. term_parts scope t ++ ps) (all_are scope ts))

of_variable : {g : Sig} {scope : List Binder} {v : Var} {a : List Word} → StandsAt g (variable v) a → IsPartAt g (message scope v) a
of_variable at_name = part_named

of_symbol : {g : Sig} {f : List ℕ} {ts : Trees} {a : List Word} → StandsAt g (apply f ts) a → IsPartAt g (symbol f (length (list_of ts))) a
of_symbol (at_symbol r) = part_named
of_symbol (at_tuple r) = part_tuple
of_symbol (at_rest r s) = part_rest r s

nodes_stand : (g : Sig) (scope : List Binder) (low : ℕ) (a : List Word) (us : List Tree) (ns : List ℕ) → AllZip (λ u n. StandsAt g u (last_words n a)) us ns → All (Between low (length a)) ns
    → AllHere g a (node_parts scope us) (of_parts us ns)
nodes_stand g scope low a [] [] h all = tt
nodes_stand g scope low a [] (n ∷ ns) h all = absurd h
nodes_stand g scope low a (u ∷ us) [] h all = absurd h
nodes_stand g scope low a (variable v ∷ us) (n ∷ ns) h all =
    (((All-head (Between low (length a)) n ns all).1, of_variable h.0), nodes_stand g scope low a us ns h.1 (All-tail (Between low (length a)) n ns all))
nodes_stand g scope low a (public s ∷ us) (n ∷ ns) h all = nodes_stand g scope low a us ns h.1 (All-tail (Between low (length a)) n ns all)
nodes_stand g scope low a (fresh i ∷ us) (n ∷ ns) h all = nodes_stand g scope low a us ns h.1 (All-tail (Between low (length a)) n ns all)
nodes_stand g scope low a (apply f ts ∷ us) (n ∷ ns) h all =
    (((All-head (Between low (length a)) n ns all).1, of_symbol h.0), nodes_stand g scope low a us ns h.1 (All-tail (Between low (length a)) n ns all))

time_stands : (g : Sig) (scope : List Binder) {i : List ℕ} {a b : List Word} (r : IsTime i a b) → AllHere g a (time scope i ∷ []) (time_word r ∷ [])
time_stands g scope (time_signed {i = i} {a = a}) =
    all_later g (mark (codes "#") ∷ name i ∷ a) (name i ∷ a) next (time scope i ∷ []) (suc (length a) ∷ []) (alone g (name i ∷ a) (time scope i) part_named)
time_stands g scope (time_plain {i = i} {a = a}) = alone g (name i ∷ a) (time scope i) part_named

time_end : {i : List ℕ} {a b : List Word} → IsTime i a b → IsEnd a b
time_end time_signed = (2, omega arith, omega arith, refl)
time_end time_plain = (1, omega arith, omega arith, refl)

binder_stands : (g : Sig) (f : Form) {v : Binder} {a b : List Word} (r : IsBinder v a b) → AllHere g a (bound f v ∷ []) (binder_word r ∷ [])
binder_stands g f (binds_message {x = x} {a = a}) = alone g (name x ∷ a) _ part_named
binder_stands g f (binds_fresh {x = x} {a = a}) = all_later g (mark (codes "~") ∷ name x ∷ a) (name x ∷ a) next (_ ∷ []) (suc (length a) ∷ []) (alone g (name x ∷ a) _ part_named)
binder_stands g f (binds_pub {x = x} {a = a}) = all_later g (mark (codes "$") ∷ name x ∷ a) (name x ∷ a) next (_ ∷ []) (suc (length a) ∷ []) (alone g (name x ∷ a) _ part_named)
binder_stands g f (binds_time {i = i} {a = a}) = all_later g (mark (codes "#") ∷ name i ∷ a) (name i ∷ a) next (_ ∷ []) (suc (length a) ∷ []) (alone g (name i ∷ a) _ part_named)

binder_end : {v : Binder} {a b : List Word} → IsBinder v a b → IsEnd a b
binder_end binds_message = (1, omega arith, omega arith, refl)
binder_end binds_fresh = (2, omega arith, omega arith, refl)
binder_end binds_pub = (2, omega arith, omega arith, refl)
binder_end binds_time = (2, omega arith, omega arith, refl)

binders_end : {vs : List Binder} {a b : List Word} → AreBinders vs a b → IsEnd a b
binders_end (binders_last r) = mark_end (binder_end r)
binders_end (binders_more r s) = end_end (binder_end r) (binders_end s)

binders_stand : (g : Sig) (f : Form) {vs : List Binder} {a b : List Word} (r : AreBinders vs a b) → AllHere g a (map (bound f) vs) (binder_words r)
binders_stand g f (binders_last r) = binder_stands g f r
binders_stand g f (binders_more {v = v} {vs = vs} {a = a} {b = b} r s) =
    joined g a b (bound f v ∷ []) (map (bound f) vs) (binder_word r ∷ []) (binder_words s) (binder_end r) (binder_stands g f r) (binders_stand g f s)

atom_end : {g : Sig} {f : Form} {a b : List Word} → IsAtom g f a b → IsEnd a b
atom_end (atom_true e) = (1, omega arith, omega arith, refl)
atom_end (atom_false e) = (1, omega arith, omega arith, refl)
atom_end (atom_action r p t) = then_end (fact_end r) (time_end t)
atom_end (atom_equal plain r s) = then_end (term_end r) (term_end s)
atom_end atom_same = (5, omega arith, omega arith, refl)
atom_end (atom_earlier plain r s) = then_end (time_end r) (time_end s)

mutual
  un_end : {g : Sig} {e : Reach} {f : Form} {n : ℕ} {a b : List Word} → IsUn g e f n a b → IsEnd a b
  un_end (un_atom r) = atom_end r
  un_end (un_not r) = one_more (un_end r)
  un_end (un_every r s) = one_more (end_end (binders_end r) (iff_end s))
  un_end (un_exists r s) = one_more (end_end (binders_end r) (iff_end s))
  un_end (un_parentheses r) = one_more (mark_end (iff_end r))

  and_end : {g : Sig} {e : Reach} {f : Form} {n : ℕ} {a b : List Word} → IsAnd g e f n a b → IsEnd a b
  and_end (and_one r) = un_end r
  and_end (and_more r s) = then_end (and_end r) (un_end s)

  or_end : {g : Sig} {e : Reach} {f : Form} {n : ℕ} {a b : List Word} → IsOr g e f n a b → IsEnd a b
  or_end (or_one r) = and_end r
  or_end (or_more r s) = then_end (or_end r) (and_end s)

  imp_end : {g : Sig} {e : Reach} {f : Form} {n : ℕ} {a b : List Word} → IsImp g e f n a b → IsEnd a b
  imp_end (imp_one r) = or_end r
  imp_end (imp_more r s) = then_end (or_end r) (imp_end s)

  iff_end : {g : Sig} {e : Reach} {f : Form} {n : ℕ} {a b : List Word} → IsIff g e f n a b → IsEnd a b
  iff_end (iff_one r) = imp_end r
  iff_end (iff_more r s) = then_end (imp_end r) (imp_end s)

-- bound variables behind a word, and a formula
quantified : (g : Sig) (w : Word) (a b : List Word) (ps qs : List Part) (ns ms : List ℕ) → IsEnd a b → AllHere g a ps ns → AllHere g b qs ms → AllHere g (w ∷ a) (ps ++ qs) (ns ++ ms)
quantified g w a b ps qs ns ms ends h k = all_later g (w ∷ a) a next (ps ++ qs) (ns ++ ms) (joined g a b ps qs ns ms ends h k)

module _ (laws : NodeLaws) where
  term_stands : (scope : List Binder) {g : Sig} {t : Tree} {a b : List Word} (r : IsTerm g t a b) → AllHere g a (term_parts scope t) (term_part_words r)
  term_stands scope {g} {t} {a} {b} r =
      subst (λ ps. AllHere g a ps (term_part_words r)) (parts_are scope t) (nodes_stand g scope (length b) a (nodes t) (term_words r) (laws.words g t a b r) (laws.within g t a b r))

  list_stands : (scope : List Binder) {g : Sig} {ts : List Tree} {a b : List Word} (r : IsList g ts a b) → AllHere g a (terms_parts scope (trees_of ts)) (of_parts (nodes_of (trees_of ts)) (list_words r))
  list_stands scope {g = g} (list_last {t = t} {a = a} r) =
      subst (λ ps. AllHere g a ps (of_parts (nodes t ++ []) (term_words r))) (sym (append-nil (term_parts scope t)))
      (subst (λ us. AllHere g a (term_parts scope t) (of_parts us (term_words r))) (sym (append-nil (nodes t))) (term_stands scope r))
  list_stands scope {g = g} (list_more {t = t} {ts = ts} {a = a} {b = b} r s) =
      subst (λ ns. AllHere g a (term_parts scope t ++ terms_parts scope (trees_of ts)) ns) (sym (parts_append (nodes t) (nodes_of (trees_of ts)) (term_words r) (list_words s) (as_many laws r)))
      (joined g a b (term_parts scope t) (terms_parts scope (trees_of ts)) (term_part_words r) (of_parts (nodes_of (trees_of ts)) (list_words s)) (mark_end (term_end r)) (term_stands scope r) (list_stands scope s))

  args_stand : (scope : List Binder) {g : Sig} {ts : List Tree} {a b : List Word} (r : IsArgs g ts a b) → AllHere g a (terms_parts scope (trees_of ts)) (args_part_words r)
  args_stand scope args_none = tt
  args_stand scope (args_some r) = list_stands scope r

  action_stands : (scope : List Binder) {g : Sig} {f : Fact} {i : List ℕ} {a b c : List Word} (r : IsFact g f a (mark (codes "@") ∷ b)) → f.persistent ≡ false → (t : IsTime i b c)
      → AllHere g a (form_parts scope (action f i)) (fact_part_words r ++ time_word t ∷ [])
  action_stands scope {g = g} {i = i} {b = b} (fact_linear {f = f} {ts = ts} {a = a} up r) p t =
      let all = name f ∷ mark (codes "(") ∷ a in
      let head = alone g all (fact_name f) part_named in
      let args = all_later g all a (one_more next) (terms_parts scope (trees_of ts)) (args_part_words r) (args_stand scope r) in
      zip_append (Here g all) (fact_name f ∷ terms_parts scope (trees_of ts)) (time scope i ∷ []) (suc (suc (length a)) ∷ args_part_words r) (time_word t ∷ []) (head.0, args)
      (all_later g all b (mark_end (fact_end (fact_linear {f = f} up r))) (time scope i ∷ []) (time_word t ∷ []) (time_stands g scope t))
  action_stands scope (fact_persistent up r) p t = absurd (cc (p))

  atom_stands : (scope : List Binder) {g : Sig} {f : Form} {a b : List Word} (r : IsAtom g f a b) → AllHere g a (form_parts scope f) (atom_part_words r)
  atom_stands scope (atom_true e) = tt
  atom_stands scope (atom_false e) = tt
  atom_stands scope (atom_action r p t) = action_stands scope r p t
  atom_stands scope {g = g} (atom_equal {t = t} {u = u} {a = a} {b = b} plain r s) =
      joined g a b (term_parts scope t) (term_parts scope u) (term_part_words r) (term_part_words s) (mark_end (term_end r)) (term_stands scope r) (term_stands scope s)
  atom_stands scope {g = g} (atom_same {i = i} {j = j} {a = a}) =
      let behind = mark (codes "#") ∷ name j ∷ a in
      joined g (mark (codes "#") ∷ name i ∷ mark (codes "=") ∷ behind) behind (time scope i ∷ []) (time scope j ∷ []) (suc (suc (suc (suc (length a)))) ∷ []) (suc (length a) ∷ []) (one_more (one_more next))
      (time_stands g scope (time_signed {i = i} {a = mark (codes "=") ∷ behind})) (time_stands g scope (time_signed {i = j} {a = a}))
  atom_stands scope {g = g} (atom_earlier {i = i} {j = j} {a = a} {b = b} plain r s) =
      joined g a b (time scope i ∷ []) (time scope j ∷ []) (time_word r ∷ []) (time_word s ∷ []) (mark_end (time_end r)) (time_stands g scope r) (time_stands g scope s)

  mutual
    un_stands : (scope : List Binder) {g : Sig} {e : Reach} {f : Form} {n : ℕ} {a b : List Word} (r : IsUn g e f n a b) → AllHere g a (form_parts scope f) (un_words r)
    un_stands scope (un_atom r) = atom_stands scope r
    un_stands scope {g = g} (un_not {f = f} {a = a} r) = all_later g (mark (codes "not") ∷ a) a next (form_parts scope f) (un_words r) (un_stands scope r)
    un_stands scope {g = g} (un_every {vs = vs} {f = f} {a = a} {b = b} r s) =
        quantified g (mark (codes "All")) a b (map (bound (premise f)) vs) (form_parts (enter vs scope) f) (binder_words r) (part_words s) (binders_end r) (binders_stand g (premise f) r) (part_stands (enter vs scope) s)
    un_stands scope {g = g} (un_exists {vs = vs} {f = f} {a = a} {b = b} r s) =
        quantified g (mark (codes "Ex")) a b (map (bound f) vs) (form_parts (enter vs scope) f) (binder_words r) (part_words s) (binders_end r) (binders_stand g f r) (part_stands (enter vs scope) s)
    un_stands scope {g = g} (un_parentheses {f = f} {a = a} r) = all_later g (mark (codes "(") ∷ a) a next (form_parts scope f) (part_words r) (part_stands scope r)

    and_stands : (scope : List Binder) {g : Sig} {e : Reach} {f : Form} {n : ℕ} {a b : List Word} (r : IsAnd g e f n a b) → AllHere g a (form_parts scope f) (and_words r)
    and_stands scope (and_one r) = un_stands scope r
    and_stands scope {g = g} (and_more {f = f} {h = h} {a = a} {b = b} r s) =
        joined g a b (form_parts scope f) (form_parts scope h) (and_words r) (un_words s) (mark_end (and_end r)) (and_stands scope r) (un_stands scope s)

    or_stands : (scope : List Binder) {g : Sig} {e : Reach} {f : Form} {n : ℕ} {a b : List Word} (r : IsOr g e f n a b) → AllHere g a (form_parts scope f) (or_words r)
    or_stands scope (or_one r) = and_stands scope r
    or_stands scope {g = g} (or_more {f = f} {h = h} {a = a} {b = b} r s) =
        joined g a b (form_parts scope f) (form_parts scope h) (or_words r) (and_words s) (mark_end (or_end r)) (or_stands scope r) (and_stands scope s)

    imp_stands : (scope : List Binder) {g : Sig} {e : Reach} {f : Form} {n : ℕ} {a b : List Word} (r : IsImp g e f n a b) → AllHere g a (form_parts scope f) (imp_words r)
    imp_stands scope (imp_one r) = or_stands scope r
    imp_stands scope {g = g} (imp_more {f = f} {h = h} {a = a} {b = b} r s) =
        joined g a b (form_parts scope f) (form_parts scope h) (or_words r) (imp_words s) (mark_end (or_end r)) (or_stands scope r) (imp_stands scope s)

    part_stands : (scope : List Binder) {g : Sig} {e : Reach} {f : Form} {n : ℕ} {a b : List Word} (r : IsIff g e f n a b) → AllHere g a (form_parts scope f) (part_words r)
    part_stands scope (iff_one r) = imp_stands scope r
    part_stands scope {g = g} (iff_more {f = f} {h = h} {a = a} {b = b} r s) =
        joined g a b (form_parts scope f) (form_parts scope h) (imp_words r) (imp_words s) (mark_end (imp_end r)) (imp_stands scope r) (imp_stands scope s)

  pub stand : (scope : List Binder) {g : Sig} {e : Reach} {f : Form} {n : ℕ} {a b : List Word} (r : IsIff g e f n a b) → AllZip (λ p k. IsPartAt g p (last_words k a)) (form_parts scope f) (part_words r)
  stand scope {g = g} {f = f} {a = a} r = zip_weaker (Here g a) (λ p k. IsPartAt g p (last_words k a)) (λ p k h. h.1) (form_parts scope f) (part_words r) (part_stands scope r)
