-- Seeking a part of a term comes to the node that it is.
use Rattle.std.proofs.Common.{◌≡◌, ◌<◌, ◌+◌, ◌^◌, ℕ, zero, suc, List, [], ◌∷◌, ◌++◌, length, drop, Some, None, Ok, Err, refl, sym, ap, ◌∙◌, arith}
use Rattle.std.specs.Prelude.{slice_get, min, ◌-◌}
use Rattle.std.proofs.lemmas.List.{drop-drop, length-append}
use Rattle.sap_terms.specs.Tree.{Tree, variable, public, fresh, apply, Trees, none, more, node_count, trees_count}
use Rattle.sap_node_words.specs.NodeWords.{nodes, nodes_of}
use Rattle.sap_formula_words.specs.PartWords.{of_parts}
use Rattle.sap_formula_words.specs.code.Walk.{Seek, go_on, next, past_part, past_other, seek, seek_all}

-- through nodes
abbrev pub pick : List Tree → ℕ → ℕ → Seek
pick [] k n = Ok (k, n)
pick (variable v ∷ us) k n = go_on (past_part k n) (pick us)
pick (public s ∷ us) k n = go_on (past_other k n) (pick us)
pick (fresh i ∷ us) k n = go_on (past_other k n) (pick us)
pick (apply f ts ∷ us) k n = go_on (past_part k n) (pick us)

part_append : (k n : ℕ) (f h : ℕ → ℕ → Seek) → ((i j : ℕ) → f i j ≡ h i j) → go_on (past_part k n) f ≡ go_on (past_part k n) h
unfolding go_on
part_append zero n f h e = refl
part_append (suc k) n f h e = e k (next n)

go_same : (w : Seek) (f h : ℕ → ℕ → Seek) → ((i j : ℕ) → f i j ≡ h i j) → go_on w f ≡ go_on w h
unfolding go_on
go_same (Err n) f h e = refl
go_same (Ok p) f h e = e p.0 p.1

go_go : (w : Seek) (f h : ℕ → ℕ → Seek) → go_on (go_on w f) h ≡ go_on w (λ i j. go_on (f i j) h)
unfolding go_on
go_go (Err n) f h = refl
go_go (Ok p) f h = refl

pick_append : (us vs : List Tree) (k n : ℕ) → pick (us ++ vs) k n ≡ go_on (pick us k n) (pick vs)
unfolding go_on
pick_append [] vs k n = refl
pick_append (variable v ∷ us) vs k n = go_same (past_part k n) (pick (us ++ vs)) (λ i j. go_on (pick us i j) (pick vs)) (pick_append us vs) ∙ sym (go_go (past_part k n) (pick us) (pick vs))
pick_append (public s ∷ us) vs k n = pick_append us vs k (next n)
pick_append (fresh i ∷ us) vs k n = pick_append us vs k (next n)
pick_append (apply f ts ∷ us) vs k n = go_same (past_part k n) (pick (us ++ vs)) (λ i j. go_on (pick us i j) (pick vs)) (pick_append us vs) ∙ sym (go_go (past_part k n) (pick us) (pick vs))

part_alone : (k n : ℕ) → past_part k n ≡ go_on (past_part k n) (pick [])
unfolding go_on
part_alone zero n = refl
part_alone (suc k) n = refl

mutual
  unfolding seek seek_all go_on

  pub seek_picks : (t : Tree) (k n : ℕ) → seek t k n ≡ pick (nodes t) k n
  seek_picks (variable v) k n = part_alone k n
  seek_picks (public s) k n = refl
  seek_picks (fresh i) k n = refl
  seek_picks (apply f ts) k n = go_same (past_part k n) (seek_all ts) (pick (nodes_of ts)) (all_picks ts)

  all_picks : (ts : Trees) (k n : ℕ) → seek_all ts k n ≡ pick (nodes_of ts) k n
  all_picks none k n = refl
  all_picks (more t ts) k n =
      ap (λ w. go_on w (seek_all ts)) (seek_picks t k n) ∙ (go_same (pick (nodes t) k n) (seek_all ts) (pick (nodes_of ts)) (all_picks ts) ∙ sym (pick_append (nodes t) (nodes_of ts) k n))

-- what a seek comes to where these are the numbers of parts that are left of all nodes' numbers; which node it is, where they are few
abbrev pub Finds : Type 0 → List ℕ → List ℕ → ℕ → Seek → Type 0
Finds C all [] k w = (m : ℕ) × (w ≡ Ok (k, m))
Finds C all (x ∷ xs) zero w = (j : ℕ) × (w ≡ Err j) × (C → slice_get all j ≡ Some x)
Finds C all (x ∷ xs) (suc k) w = Finds C all xs k w

-- the numbers from here on, and how many nodes are met
abbrev Left : List ℕ → List Tree → List ℕ → ℕ → Type 0
Left all us ns n = (drop n all ≡ ns) × (n + length us < 2 ^ 64)

got : (all : List ℕ) (n : ℕ) (y : ℕ) (ys : List ℕ) → drop n all ≡ y ∷ ys → slice_get all n ≡ Some y
got [] zero y ys e = absurd (cc (e))
got [] (suc n) y ys e = absurd (cc (e))
got (x ∷ all) zero y ys e = let same : x ≡ y = cc (e) in ap Some same
got (x ∷ all) (suc n) y ys e = got all n y ys e

later : (all : List ℕ) (u : Tree) (us : List Tree) (y : ℕ) (ns : List ℕ) (n : ℕ) → Left all (u ∷ us) (y ∷ ns) n → Left all us ns (next n)
later all u us y ns n h =
    let here : min (n + 1) (2 ^ 64 - 1) ≡ n + 1 = omega (arith, h.1) in
    (ap (λ m. drop m all) here ∙ (sym (drop-drop 1 n all) ∙ ap (λ (zs : List ℕ). drop 1 zs) h.0), omega (arith, h.1))

pub finds : (C : Type 0) (all : List ℕ) (us : List Tree) (ns : List ℕ) (k n : ℕ) → length us ≡ length ns → (C → Left all us ns n) → Finds C all (of_parts us ns) k (pick us k n)
unfolding go_on
finds C all [] ns k n e h = (n, refl)
finds C all (u ∷ us) [] k n e h = absurd (omega (arith, e))
finds C all (variable v ∷ us) (y ∷ ns) zero n e h = (n, refl, λ c. got all n y ns (h c).0)
finds C all (variable v ∷ us) (y ∷ ns) (suc k) n e h = finds C all us ns k (next n) (omega (arith, e)) (λ c. later all (variable v) us y ns n (h c))
finds C all (public s ∷ us) (y ∷ ns) k n e h = finds C all us ns k (next n) (omega (arith, e)) (λ c. later all (public s) us y ns n (h c))
finds C all (fresh i ∷ us) (y ∷ ns) k n e h = finds C all us ns k (next n) (omega (arith, e)) (λ c. later all (fresh i) us y ns n (h c))
finds C all (apply f ts ∷ us) (y ∷ ns) zero n e h = (n, refl, λ c. got all n y ns (h c).0)
finds C all (apply f ts ∷ us) (y ∷ ns) (suc k) n e h = finds C all us ns k (next n) (omega (arith, e)) (λ c. later all (apply f ts) us y ns n (h c))

-- as many nodes as are counted
mutual
  pub nodes_count : (t : Tree) → length (nodes t) ≡ node_count t
  nodes_count (variable v) = refl
  nodes_count (public s) = refl
  nodes_count (fresh i) = refl
  nodes_count (apply f ts) = omega (arith, all_count ts)

  pub all_count : (ts : Trees) → length (nodes_of ts) ≡ trees_count ts
  all_count none = refl
  all_count (more t ts) = omega (arith, length-append (nodes t) (nodes_of ts), nodes_count t, all_count ts)

-- nothing is found
pub not_found : (C : Type 0) (all xs : List ℕ) (k : ℕ) (p : ℕ × ℕ) (w : Seek) → Finds C all xs k w → w ≡ Ok p → slice_get xs k ≡ None
not_found C all [] k p w h e = refl
not_found C all (x ∷ xs) zero p w h e = absurd (let f = sym h.1 ∙ e in cc (f))
not_found C all (x ∷ xs) (suc k) p w h e = not_found C all xs k p w h e

-- a node is
pub node_found : (C : Type 0) → C → (all xs : List ℕ) (k j : ℕ) (w : Seek) → Finds C all xs k w → w ≡ Err j → slice_get xs k ≡ slice_get all j
node_found C c all [] k j w h e = absurd (let f = sym h.1 ∙ e in cc (f))
node_found C c all (x ∷ xs) zero j w h e =
    let f = sym h.1 ∙ e in
    let same : h.0 ≡ j = cc (f) in sym (h.2 c) ∙ ap (λ i. slice_get all i) same
node_found C c all (x ∷ xs) (suc k) j w h e = node_found C c all xs k j w h e
