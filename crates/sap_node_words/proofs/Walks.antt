-- The walk comes to the word that the term's derivation tells.
use Rattle.std.proofs.Common.{◌≡◌, ℕ, zero, suc, Bool, true, false, List, [], ◌∷◌, ◌++◌, length, drop, Some, Ok, Err, refl, sym, ap, subst, ◌∙◌}
use Rattle.std.specs.Prelude.{codes, slice_get, if◌then◌else◌}
use Rattle.sap_terms.specs.Signature.{Sig}
use Rattle.sap_terms.specs.Tree.{Tree, variable, public, fresh, apply, Trees, none, more, trees_of}
use Rattle.sap_grammar.specs.Words.{Word, mark, name, quoted, starts}
use Rattle.sap_grammar.specs.TermGrammar.{pair, IsTerm, IsRest, IsList, IsArgs, term_constant, term_message, term_fresh, term_pub, term_quoted, term_symbol, term_tuple, rest_last, rest_more, list_last, list_more, args_none, args_some}
use Rattle.sap_node_words.specs.NodeWords.{term_words, rest_words, list_words, args_words}
use Rattle.sap_node_words.specs.code.Walk.{Walk, onward, past_node, past_word, word_walk, is_parted, begins_parted, found, term_walk, args_walk, list_walk, parts_walk, rest_walk}
use Rattle.sap_node_words.proofs.Parts.{parted, whole}

-- what a walk through nodes with these numbers comes to, with the words behind
abbrev pub sought : List ℕ → ℕ → List Word → Walk
sought [] k b = Ok (k, b)
sought (n ∷ ns) zero b = Err n
sought (n ∷ ns) (suc k) b = sought ns k b

-- one walk behind another
pub then_sought : (ns ms : List ℕ) (k : ℕ) (b c : List Word) (go : ℕ → List Word → Walk) → ((j : ℕ) → go j b ≡ sought ms j c) → onward (sought ns k b) go ≡ sought (ns ++ ms) k c
unfolding onward
then_sought [] ms k b c go h = h k
then_sought (n ∷ ns) ms zero b c go h = refl
then_sought (n ∷ ns) ms (suc k) b c go h = then_sought ns ms k b c go h

alone : (ns : List ℕ) (k : ℕ) (b : List Word) → onward (sought ns k b) (list_walk none) ≡ sought ns k b
unfolding onward term_walk args_walk list_walk parts_walk rest_walk
alone [] k b = refl
alone (n ∷ ns) zero b = refl
alone (n ∷ ns) (suc k) b = alone ns k b

-- and past the word behind
pub past_sought : (ns : List ℕ) (k : ℕ) (w : Word) (b : List Word) → past_word (sought ns k (w ∷ b)) ≡ sought ns k b
unfolding onward
past_sought [] k w b = refl
past_sought (n ∷ ns) zero w b = refl
past_sought (n ∷ ns) (suc k) w b = past_sought ns k w b

-- a node, and a walk behind it
pub node_sought : (ns : List ℕ) (k : ℕ) (ws us c : List Word) (go : ℕ → List Word → Walk) → ((j : ℕ) → go j us ≡ sought ns j c) → onward (past_node k ws us) go ≡ sought (length ws ∷ ns) k c
unfolding onward
node_sought ns zero ws us c go h = refl
node_sought ns (suc k) ws us c go h = h k

leaf_sought : (k : ℕ) (ws us : List Word) → past_node k ws us ≡ sought (length ws ∷ []) k us
leaf_sought zero ws us = refl
leaf_sought (suc k) ws us = refl

-- a rest that is one term
rest_whole : (t : Tree) (k : ℕ) (ws : List Word) → begins_parted t (Some ws) ≡ false → rest_walk t k ws ≡ past_word (term_walk t k ws)
unfolding term_walk args_walk list_walk parts_walk rest_walk
rest_whole (variable v) k ws h = refl
rest_whole (public n) k ws h = refl
rest_whole (fresh n) k ws h = refl
rest_whole (apply f ts) k ws h = rw h refl

rest_parted : (t u : Tree) (k : ℕ) (ws : List Word) → is_parted (more t (more u none)) ws ≡ true
    → rest_walk (pair t u) k ws ≡ onward (past_node k ws ws) (parts_walk (more t (more u none)))
unfolding term_walk args_walk list_walk parts_walk rest_walk
rest_parted t u k ws h = rw h refl

-- some arguments are a list
args_list : {g : Sig} {ts : List Tree} {a b : List Word} (r : IsList g ts a b) (k : ℕ) → args_walk (trees_of ts) k a ≡ list_walk (trees_of ts) k a
unfolding term_walk args_walk list_walk parts_walk rest_walk
args_list (list_last r) k = refl
args_list (list_more r s) k = refl

-- a symbol on terms, a tuple, and two parts of one, where the walks through what stands in them come to these numbers
symbol_goes : (f : List ℕ) (ts : Trees) (a b : List Word) (ns : List ℕ) → ((j : ℕ) → args_walk ts j a ≡ sought ns j b) → (k : ℕ)
    → term_walk (apply f ts) k (name f ∷ mark (codes "(") ∷ a) ≡ sought (suc (suc (length a)) ∷ ns) k b
unfolding term_walk args_walk list_walk parts_walk rest_walk
symbol_goes f ts a b ns h k = node_sought ns k (name f ∷ mark (codes "(") ∷ a) a b (args_walk ts) h

tuple_goes : (t u : Tree) (a c : List Word) (ns : List ℕ) → ((j : ℕ) → parts_walk (more t (more u none)) j a ≡ sought ns j c) → (k : ℕ)
    → term_walk (pair t u) k (mark (codes "<") ∷ a) ≡ sought (suc (length a) ∷ ns) k c
unfolding term_walk args_walk list_walk parts_walk rest_walk
tuple_goes t u a c ns h k = node_sought ns k (mark (codes "<") ∷ a) a c (parts_walk (more t (more u none))) h

parts_go : (t u : Tree) (a b c : List Word) (ns ms : List ℕ) → ((k : ℕ) → term_walk t k a ≡ sought ns k (mark (codes ",") ∷ b)) → ((k : ℕ) → rest_walk u k b ≡ sought ms k c) → (k : ℕ)
    → parts_walk (more t (more u none)) k a ≡ sought (ns ++ ms) k c
unfolding term_walk args_walk list_walk parts_walk rest_walk
parts_go t u a b c ns ms first others k =
    rw (first k, past_sought ns k (mark (codes ",")) b) (then_sought ns ms k b c (rest_walk u) others)

more_go : (t : Tree) (ts : List Tree) (w : Word) (a b c : List Word) (ns ms : List ℕ) → ((k : ℕ) → term_walk t k a ≡ sought ns k (w ∷ b)) → ((k : ℕ) → list_walk (trees_of ts) k b ≡ sought ms k c)
    → (k : ℕ) → onward (past_word (term_walk t k a)) (list_walk (trees_of ts)) ≡ sought (ns ++ ms) k c
more_go t ts w a b c ns ms first others k = rw (first k, past_sought ns k w b) (then_sought ns ms k b c (list_walk (trees_of ts)) others)

last_goes : (t : Tree) (w : Word) (a b : List Word) (ns : List ℕ) → ((k : ℕ) → term_walk t k a ≡ sought ns k (w ∷ b)) → (k : ℕ) → onward (past_word (term_walk t k a)) (list_walk none) ≡ sought ns k b
last_goes t w a b ns first k = rw (first k, past_sought ns k w b) (alone ns k b)

mutual
  unfolding term_walk args_walk list_walk parts_walk rest_walk

  pub term_goes : {g : Sig} {t : Tree} {a b : List Word} (r : IsTerm g t a b) (k : ℕ) → starts (codes "(") b ≡ false → term_walk t k a ≡ sought (term_words r) k b
  term_goes (term_constant {x = x} {a = a} is) k follows = rw follows (leaf_sought k (name x ∷ a) a)
  term_goes (term_message {x = x} {a = a} is) k follows = leaf_sought k (name x ∷ a) a
  term_goes (term_fresh {x = x} {a = a}) k follows = leaf_sought k (name x ∷ a) a
  term_goes (term_pub {x = x} {a = a}) k follows = leaf_sought k (name x ∷ a) a
  term_goes (term_quoted {s = s} {a = a}) k follows = leaf_sought k (quoted s ∷ a) a
  term_goes (term_symbol {f = f} {ts = ts} {a = a} {b = b} low r) k follows = symbol_goes f (trees_of ts) a b (args_words r) (λ j. args_go r j) k
  term_goes (term_tuple {t = t} {u = u} {a = a} {b = b} {c = c} r s) k follows =
      tuple_goes t u a c (term_words r ++ rest_words s) (parts_go t u a b c (term_words r) (rest_words s) (λ j. term_goes r j refl) (λ j. rest_goes s j)) k

  rest_goes : {g : Sig} {t : Tree} {a b : List Word} (r : IsRest g t a b) (k : ℕ) → rest_walk t k a ≡ sought (rest_words r) k b
  rest_goes (rest_last {t = t} {a = a} {b = b} r) k =
      rest_whole t k a (whole r refl) ∙ (ap past_word (term_goes r k refl) ∙ past_sought (term_words r) k (mark (codes ">")) b)
  rest_goes (rest_more {t = t} {u = u} {a = a} {b = b} {c = c} r s) k =
      rest_parted t u k a (parted r refl (more u none))
      ∙ node_sought (term_words r ++ rest_words s) k a a c (parts_walk (more t (more u none)))
      (parts_go t u a b c (term_words r) (rest_words s) (λ j. term_goes r j refl) (λ j. rest_goes s j))

  list_goes : {g : Sig} {ts : List Tree} {a b : List Word} (r : IsList g ts a b) (k : ℕ) → list_walk (trees_of ts) k a ≡ sought (list_words r) k b
  list_goes (list_last {t = t} {a = a} {b = b} r) k = last_goes t (mark (codes ")")) a b (term_words r) (λ j. term_goes r j refl) k
  list_goes (list_more {t = t} {ts = ts} {a = a} {b = b} {c = c} r s) k =
      more_go t ts (mark (codes ",")) a b c (term_words r) (list_words s) (λ j. term_goes r j refl) (λ j. list_goes s j) k

  pub args_go : {g : Sig} {ts : List Tree} {a b : List Word} (r : IsArgs g ts a b) (k : ℕ) → args_walk (trees_of ts) k a ≡ sought (args_words r) k b
  args_go args_none k = refl
  args_go (args_some r) k = args_list r k ∙ list_goes r k

-- what is found is the number at the node's index
pub found_sought : (ns : List ℕ) (k : ℕ) (b : List Word) → found (sought ns k b) ≡ slice_get ns k
found_sought [] k b = refl
found_sought (n ∷ ns) zero b = refl
found_sought (n ∷ ns) (suc k) b = found_sought ns k b

-- a constant behind which a parenthesis opens looks like a symbol without arguments
constant_found : (f : List ℕ) (k : ℕ) (ws : List Word) → found (term_walk (apply f none) k (name f ∷ ws)) ≡ slice_get (suc (length ws) ∷ []) k
unfolding onward term_walk args_walk list_walk parts_walk rest_walk
constant_found f k ws = go (starts (codes "(") ws) k
  where
    go : (b : Bool) (k : ℕ) → found (if b then onward (past_node k (name f ∷ ws) (drop 1 ws)) (args_walk none) else word_walk k (name f ∷ ws)) ≡ slice_get (suc (length ws) ∷ []) k
    go true zero = refl
    go true (suc k) = refl
    go false zero = refl
    go false (suc k) = refl

-- whatever stands behind the term
pub term_found : {g : Sig} {t : Tree} {a b : List Word} (r : IsTerm g t a b) (k : ℕ) → found (term_walk t k a) ≡ slice_get (term_words r) k
unfolding term_walk args_walk list_walk parts_walk rest_walk
term_found (term_constant {x = x} {a = a} is) k = constant_found x k a
term_found (term_message {x = x} {a = a} is) k = ap found (leaf_sought k (name x ∷ a) a) ∙ found_sought (suc (length a) ∷ []) k a
term_found (term_fresh {x = x} {a = a}) k = ap found (leaf_sought k (name x ∷ a) a) ∙ found_sought (suc (length a) ∷ []) k a
term_found (term_pub {x = x} {a = a}) k = ap found (leaf_sought k (name x ∷ a) a) ∙ found_sought (suc (length a) ∷ []) k a
term_found (term_quoted {s = s} {a = a}) k = ap found (leaf_sought k (quoted s ∷ a) a) ∙ found_sought (suc (length a) ∷ []) k a
term_found (term_symbol {f = f} {ts = ts} {a = a} {b = b} low r) k =
    ap found (symbol_goes f (trees_of ts) a b (args_words r) (args_go r) k) ∙ found_sought (suc (suc (length a)) ∷ args_words r) k b
term_found (term_tuple {t = t} {u = u} {a = a} {b = b} {c = c} r s) k =
    ap found (tuple_goes t u a c (term_words r ++ rest_words s) (parts_go t u a b c (term_words r) (rest_words s) (λ j. term_goes r j refl) (rest_goes s)) k)
    ∙ found_sought (suc (length a) ∷ (term_words r ++ rest_words s)) k c

-- lists with the same items are the same
pub same_items : (ns ms : List ℕ) → ((k : ℕ) → slice_get ns k ≡ slice_get ms k) → ns ≡ ms
same_items [] [] h = refl
same_items [] (m ∷ ms) h = absurd (let e = h 0 in cc (e))
same_items (n ∷ ns) [] h = absurd (let e = h 0 in cc (e))
same_items (n ∷ ns) (m ∷ ms) h =
    let first = h 0 in
    let is : n ≡ m = cc (first) in
    let others = same_items ns ms (λ k. h (suc k)) in
    cc (is, others)

-- one term has the same numbers, however it is spelled
pub same_term : {g h : Sig} {t : Tree} {a b c : List Word} (r : IsTerm g t a b) (s : IsTerm h t a c) → term_words r ≡ term_words s
same_term r s = same_items (term_words r) (term_words s) (λ k. sym (term_found r k) ∙ term_found s k)

pub one_numbers : {g h : Sig} {t u : Tree} {a b c : List Word} (r : IsTerm g t a b) (s : IsTerm h u a c) → t ≡ u → term_words r ≡ term_words s
one_numbers {g} {h} {t} {u} {a} {b} {c} r s e =
    subst (λ z. (s : IsTerm h z a c) → term_words r ≡ term_words s) e (λ s. same_term r s) s
