-- Each number is that of the word at which its node stands.
use Rattle.std.proofs.Common.{◌≡◌, ◌≤◌, ◌-◌, ◌+◌, ℕ, suc, List, [], ◌∷◌, ◌++◌, length, drop, refl, sym, ap, subst, ◌∙◌, arith}
use Rattle.std.specs.Prelude.{codes}
use Rattle.std.specs.List.{AllZip}
use Rattle.std.proofs.lemmas.List.{append-nil, drop-drop, length-drop}
use Rattle.sap_terms.specs.declared.var.Sort.TheVariants.{Msg, Fresh, Pub}
use Rattle.sap_terms.specs.Signature.{Sig}
use Rattle.sap_terms.specs.Tree.{Tree, public, apply, none, trees_of}
use Rattle.sap_grammar.specs.Words.{Word, mark, name, quoted}
use Rattle.sap_grammar.specs.TermGrammar.{sorted, pair, IsTerm, IsRest, IsList, IsArgs, term_constant, term_message, term_fresh, term_pub, term_quoted, term_symbol, term_tuple, rest_last, rest_more, list_last, list_more, args_none, args_some}
use Rattle.sap_grammar.proofs.ReadingLaws.Ends.{IsEnd, one_more, mark_end, term_end}
use Rattle.sap_node_words.specs.NodeWords.{term_words, rest_words, list_words, args_words, nodes, nodes_of, StandsAt, at_name, at_public, at_symbol, at_tuple, at_rest, last_words}

zip_append : {A B : Type 0} (R : A → B → Type 0) (xs us : List A) (ys vs : List B) → AllZip R xs ys → AllZip R us vs → AllZip R (xs ++ us) (ys ++ vs)
zip_append R [] us [] vs h k = k
zip_append R [] us (y ∷ ys) vs h k = absurd h
zip_append R (x ∷ xs) us [] vs h k = absurd h
zip_append R (x ∷ xs) us (y ∷ ys) vs h k = (h.0, zip_append R xs us ys vs h.1 k)

zip_weaker : {A B : Type 0} (R Q : A → B → Type 0) → ((x : A) (y : B) → R x y → Q x y) → (xs : List A) (ys : List B) → AllZip R xs ys → AllZip Q xs ys
zip_weaker R Q f [] [] h = tt
zip_weaker R Q f [] (y ∷ ys) h = absurd h
zip_weaker R Q f (x ∷ xs) [] h = absurd h
zip_weaker R Q f (x ∷ xs) (y ∷ ys) h = (f x y h.0, zip_weaker R Q f xs ys h.1)

-- a node stands at one of these words, which so many words are left from
Here : Sig → List Word → Tree → ℕ → Type 0
Here g a u n = (n ≤ length a) × StandsAt g u (last_words n a)

AllHere : Sig → List Word → List Tree → List ℕ → Type 0
AllHere g a us ns = AllZip (Here g a) us ns

all_words : (a : List Word) → last_words (length a) a ≡ a
all_words a = let e : length a - length a ≡ 0 = omega arith in rw e refl

-- at the first of them
first : (g : Sig) (a : List Word) (u : Tree) → StandsAt g u a → Here g a u (length a)
unfolding Here
first g a u h = (omega arith, subst (StandsAt g u) (sym (all_words a)) h)

-- at one that stands further on
later : (g : Sig) (a b : List Word) → IsEnd a b → (u : Tree) (n : ℕ) → Here g b u n → Here g a u n
unfolding Here
later g a b ends u n h =
    let long : length b ≡ length a - ends.0 = ap (λ (y : List Word). length y) ends.3 ∙ length-drop ends.0 a in
    let same : drop (length b - n) b ≡ drop (ends.0 + (length b - n)) a = ap (λ (y : List Word). drop (length b - n) y) ends.3 ∙ drop-drop (length b - n) ends.0 a in
    let at : ends.0 + (length b - n) ≡ length a - n = omega (arith, long, ends.2, h.0) in
    (omega (arith, long, h.0), subst (StandsAt g u) (same ∙ ap (λ k. drop k a) at) h.1)

all_later : (g : Sig) (a b : List Word) → IsEnd a b → (us : List Tree) (ns : List ℕ) → AllHere g b us ns → AllHere g a us ns
unfolding AllHere
all_later g a b ends us ns h = zip_weaker (Here g b) (Here g a) (later g a b ends) us ns h

next : {w : Word} {a : List Word} → IsEnd (w ∷ a) a
next = (1, omega arith, omega arith, refl)

alone : (g : Sig) (a : List Word) (u : Tree) → StandsAt g u a → AllHere g a (u ∷ []) (length a ∷ [])
unfolding AllHere
alone g a u h = (first g a u h, tt)

-- a node, and others further on
before : (g : Sig) (a b : List Word) (u : Tree) (us : List Tree) (ns : List ℕ) → StandsAt g u a → IsEnd a b → AllHere g b us ns → AllHere g a (u ∷ us) (length a ∷ ns)
unfolding AllHere
before g a b u us ns h ends others = (first g a u h, all_later g a b ends us ns others)

-- nodes, and others behind a mark
joined : (g : Sig) (w : Word) (a b : List Word) (us vs : List Tree) (ns ms : List ℕ) → IsEnd a (w ∷ b) → AllHere g a us ns → AllHere g b vs ms → AllHere g a (us ++ vs) (ns ++ ms)
unfolding AllHere
joined g w a b us vs ns ms ends h k = zip_append (Here g a) us vs ns ms h (all_later g a b (mark_end ends) vs ms k)

-- the nodes of two terms are those of their list
two_nodes : (us vs : List Tree) → us ++ (vs ++ []) ≡ us ++ vs
two_nodes us vs = ap (λ ws. us ++ ws) (append-nil vs)

with_first : (g : Sig) (a : List Word) (u : Tree) (us : List Tree) (ns : List ℕ) → StandsAt g u a → AllHere g a us ns → AllHere g a (u ∷ us) (length a ∷ ns)
unfolding AllHere
with_first g a u us ns h others = (first g a u h, others)

nothing : (g : Sig) (a : List Word) → AllHere g a [] []
unfolding AllHere
nothing g a = tt

mutual
  term_stands : {g : Sig} {t : Tree} {a b : List Word} (r : IsTerm g t a b) → AllHere g a (nodes t) (term_words r)
  term_stands {g = g} (term_constant {x = x} {a = a} is) = alone g (name x ∷ a) (apply x none) (at_symbol (term_constant is))
  term_stands {g = g} (term_message {x = x} {a = a} is) = alone g (name x ∷ a) (sorted Msg x) at_name
  term_stands {g = g} (term_fresh {x = x} {a = a}) =
      all_later g (mark (codes "~") ∷ name x ∷ a) (name x ∷ a) next (sorted Fresh x ∷ []) (suc (length a) ∷ []) (alone g (name x ∷ a) (sorted Fresh x) at_name)
  term_stands {g = g} (term_pub {x = x} {a = a}) =
      all_later g (mark (codes "$") ∷ name x ∷ a) (name x ∷ a) next (sorted Pub x ∷ []) (suc (length a) ∷ []) (alone g (name x ∷ a) (sorted Pub x) at_name)
  term_stands {g = g} (term_quoted {s = s} {a = a}) = alone g (quoted s ∷ a) (public s) at_public
  term_stands {g = g} (term_symbol {f = f} {ts = ts} {a = a} low r) =
      before g (name f ∷ mark (codes "(") ∷ a) a (apply f (trees_of ts)) (nodes_of (trees_of ts)) (args_words r) (at_symbol (term_symbol low r)) (one_more next) (args_stand r)
  term_stands {g = g} (term_tuple {t = t} {u = u} {a = a} {b = b} r s) =
      subst (λ us. AllHere g (mark (codes "<") ∷ a) (pair t u ∷ us) (suc (length a) ∷ (term_words r ++ rest_words s))) (sym (two_nodes (nodes t) (nodes u)))
      (before g (mark (codes "<") ∷ a) a (pair t u) (nodes t ++ nodes u) (term_words r ++ rest_words s) (at_tuple (term_tuple r s)) next
      (joined g (mark (codes ",")) a b (nodes t) (nodes u) (term_words r) (rest_words s) (term_end r) (term_stands r) (rest_stands s)))

  rest_stands : {g : Sig} {t : Tree} {a b : List Word} (r : IsRest g t a b) → AllHere g a (nodes t) (rest_words r)
  rest_stands (rest_last r) = term_stands r
  rest_stands {g = g} (rest_more {t = t} {u = u} {a = a} {b = b} r s) =
      subst (λ us. AllHere g a (pair t u ∷ us) (length a ∷ (term_words r ++ rest_words s))) (sym (two_nodes (nodes t) (nodes u)))
      (with_first g a (pair t u) (nodes t ++ nodes u) (term_words r ++ rest_words s) (at_rest r s)
      (joined g (mark (codes ",")) a b (nodes t) (nodes u) (term_words r) (rest_words s) (term_end r) (term_stands r) (rest_stands s)))

  list_stands : {g : Sig} {ts : List Tree} {a b : List Word} (r : IsList g ts a b) → AllHere g a (nodes_of (trees_of ts)) (list_words r)
  list_stands {g = g} (list_last {t = t} {a = a} r) = subst (λ us. AllHere g a us (term_words r)) (sym (append-nil (nodes t))) (term_stands r)
  list_stands {g = g} (list_more {t = t} {ts = ts} {a = a} {b = b} r s) =
      joined g (mark (codes ",")) a b (nodes t) (nodes_of (trees_of ts)) (term_words r) (list_words s) (term_end r) (term_stands r) (list_stands s)

  args_stand : {g : Sig} {ts : List Tree} {a b : List Word} (r : IsArgs g ts a b) → AllHere g a (nodes_of (trees_of ts)) (args_words r)
  args_stand {g = g} (args_none {a = a}) = nothing g _
  args_stand (args_some r) = list_stands r

pub stands : {g : Sig} {t : Tree} {a b : List Word} (r : IsTerm g t a b) → AllZip (λ u n. StandsAt g u (last_words n a)) (nodes t) (term_words r)
unfolding AllHere Here
stands {g = g} {t = t} {a = a} r = zip_weaker (Here g a) (λ u n. StandsAt g u (last_words n a)) (λ u n h. h.1) (nodes t) (term_words r) (term_stands r)

pub arguments_stand : {g : Sig} {ts : List Tree} {a b : List Word} (r : IsArgs g ts a b) → AllZip (λ u n. StandsAt g u (last_words n a)) (nodes_of (trees_of ts)) (args_words r)
unfolding AllHere Here
arguments_stand {g = g} {ts = ts} {a = a} r = zip_weaker (Here g a) (λ u n. StandsAt g u (last_words n a)) (λ u n h. h.1) (nodes_of (trees_of ts)) (args_words r) (args_stand r)
