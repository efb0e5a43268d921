-- Terms within the limits, and the test of it.
use Rattle.std.proofs.Common.{◌≡◌, ◌≤◌, ◌+◌, ℕ, zero, suc, Bool, true, false, List, [], ◌∷◌, take, add-one, Option, Some, None, refl, arith}
use Rattle.std.specs.Prelude.{nat_le, ◌&&◌, slice_get}
use Rattle.std.specs.List.{list_all}
use Rattle.std.proofs.lemmas.List.Elements.{All-nil, All-cons, All-head, All-tail}
use Rattle.sap_terms.specs.Tree.{Tree, trees_of, level_count, trees_levels, node_count}
use Rattle.sap_grammar.specs.declared.limits.Limits.{Limits}
use Rattle.sap_grammar.specs.Sizes.{AtMost, IsSmall, AreSmall, at_most, is_small, are_small}
use Rattle.sap_grammar.proofs.ReadingLaws.Limits.{fits, le_of}

and_left : (a b : Bool) → (a && b) ≡ true → a ≡ true
and_left true b e = refl
and_left false b e = absurd (cc (e))

and_right : (a b : Bool) → (a && b) ≡ true → b ≡ true
and_right true b e = e
and_right false b e = absurd (cc (e))

and_false : (b : Bool) → (b && false) ≡ false
and_false true = refl
and_false false = refl

few_is : (o : Option ℕ) (n : ℕ) → at_most o n ≡ true → AtMost o n
few_is None n e = tt
few_is (Some most) n e = le_of n most e

few_of : (o : Option ℕ) (n : ℕ) → AtMost o n → at_most o n ≡ true
few_of None n s = refl
few_of (Some most) n s = fits n most s

pub small_is : (m : Limits) (t : Tree) → is_small m t ≡ true → IsSmall m t
small_is m t e =
    let levels = nat_le (level_count t) m.term_levels in
    let nodes = at_most m.term_nodes (node_count t) in
    record { few_levels = le_of (level_count t) m.term_levels (and_left levels nodes e); few_nodes = few_is m.term_nodes (node_count t) (and_right levels nodes e) }

pub small_of : (m : Limits) (t : Tree) → IsSmall m t → is_small m t ≡ true
small_of m t s = rw (fits (level_count t) m.term_levels s.few_levels, few_of m.term_nodes (node_count t) s.few_nodes) refl

-- each of some terms
pub all_small_is : (m : Limits) (ts : List Tree) → are_small m ts ≡ true → AreSmall m ts
all_small_is m [] e = All-nil (IsSmall m)
all_small_is m (t ∷ ts) e =
    All-cons (IsSmall m) t ts (small_is m t (and_left (is_small m t) (are_small m ts) e)) (all_small_is m ts (and_right (is_small m t) (are_small m ts) e))

pub all_small_of : (m : Limits) (ts : List Tree) → AreSmall m ts → are_small m ts ≡ true
all_small_of m [] s = refl
all_small_of m (t ∷ ts) s = rw (small_of m t (All-head (IsSmall m) t ts s), all_small_of m ts (All-tail (IsSmall m) t ts s)) refl

-- terms within the limits are so deep together
pub deep_enough : (m : Limits) (ts : List Tree) → AreSmall m ts → trees_levels (trees_of ts) ≤ m.term_levels
deep_enough m [] s = omega arith
deep_enough m (t ∷ ts) s =
    let first = All-head (IsSmall m) t ts s in
    omega (arith, first.few_levels, deep_enough m ts (All-tail (IsSmall m) t ts s))

-- a test of one term more
pub all-take : (p : Tree → Bool) (ts : List Tree) (k : ℕ) (t : Tree) → slice_get ts k ≡ Some t → list_all p (take k ts) ≡ true → p t ≡ true → list_all p (take (k + 1) ts) ≡ true
all-take p ts k t e a h = rw add-one (go ts k e a)
  where
    go : (ts : List Tree) (k : ℕ) → slice_get ts k ≡ Some t → list_all p (take k ts) ≡ true → list_all p (take (suc k) ts) ≡ true
    go [] k e a = absurd (cc (e))
    go (u ∷ us) zero e a = let same : u ≡ t = cc in rw (same, h) refl
    go (u ∷ us) (suc k) e a = rw (and_left (p u) (list_all p (take k us)) a, go us k e (and_right (p u) (list_all p (take k us)) a)) refl

pub all-miss : (p : Tree → Bool) (ts : List Tree) (k : ℕ) (t : Tree) → slice_get ts k ≡ Some t → p t ≡ false → list_all p ts ≡ false
all-miss p [] k t e h = absurd (cc (e))
all-miss p (u ∷ us) zero t e h = let same : u ≡ t = cc in rw (same, h) refl
all-miss p (u ∷ us) (suc k) t e h = rw (all-miss p us k t e h) (and_false (p u))
