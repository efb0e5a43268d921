-- What is equal up to names is so from both sides.
use Rattle.std.proofs.Common.{◌≡◌, ℕ, List, [], ◌∷◌, refl, ap, ◌∙◌, subst}
use Rattle.sap_terms.specs.Tree.{Tree, Trees, trees_of}
use Rattle.sap_terms.specs.Variables.{is_known}
use Rattle.sap_terms.specs.declared.fact.Fact.{Fact}
use Rattle.sap_process.specs.Action.{Action}
use Rattle.sap_process.specs.Proc.{Proc}
use Rattle.sap_macro.specs.UpToNames.{Pair, pair_of, lefts, rights, HaveOneBinder, here, above, AreAlikeTerms, both_variable, both_public, both_fresh, both_apply, AreAlikeLists, both_none, both_more, AreAlikePatterns, old_name, new_name, one_public, one_fresh, one_symbol, AreAlikeRows, row_ends, row_goes_on, AreAlikeFacts, facts_end, facts_go_on, AreAlikeActions, both_new, both_out, both_send, both_input, both_receive, both_event, both_insert, both_delete, both_lock, both_unlock, both_embedded, AreAlike, both_nil, both_parallel, both_replicated, both_act, both_test, both_lookup}

-- the pairs from the other side
abbrev swapped : List Pair → List Pair
swapped [] = []
swapped (p ∷ ρ) = pair_of p.right p.left ∷ swapped ρ

lefts_are : (ρ : List Pair) → lefts (swapped ρ) ≡ rights ρ
lefts_are [] = refl
lefts_are (p ∷ ρ) = ap (λ ns. p.right ∷ ns) (lefts_are ρ)

rights_are : (ρ : List Pair) → rights (swapped ρ) ≡ lefts ρ
rights_are [] = refl
rights_are (p ∷ ρ) = ap (λ ns. p.left ∷ ns) (rights_are ρ)

names : (ρ : List Pair) (x y : List ℕ) → HaveOneBinder ρ x y → HaveOneBinder (swapped ρ) y x
names _ _ _ here = here
names _ x y (above {ρ = ρ} h k l) = above k h (names ρ x y l)

mutual
  terms : (ρ : List Pair) (t u : Tree) → AreAlikeTerms ρ t u → AreAlikeTerms (swapped ρ) u t
  terms ρ _ _ (both_variable {x = x} {y = y} h) = both_variable (names ρ x y h)
  terms ρ _ _ both_public = both_public
  terms ρ _ _ both_fresh = both_fresh
  terms ρ _ _ (both_apply {ts = ts} {us = us} h) = both_apply (lists ρ ts us h)

  lists : (ρ : List Pair) (ts us : Trees) → AreAlikeLists ρ ts us → AreAlikeLists (swapped ρ) us ts
  lists ρ _ _ both_none = both_none
  lists ρ _ _ (both_more {t = t} {u = u} {ts = ts} {us = us} h k) = both_more (terms ρ t u h) (lists ρ ts us k)

mutual
  patterns : (ρ ζ : List Pair) (t u : Tree) → AreAlikePatterns ρ t u ζ → AreAlikePatterns (swapped ρ) u t (swapped ζ)
  patterns _ _ _ _ (old_name {ρ = ρ} {x = x} {y = y} h) = old_name (names ρ x y h)
  patterns _ _ _ _ (new_name {ρ = ρ} {x = x} {y = y} h k) =
      new_name (ap (λ ns. is_known ns y) (lefts_are ρ) ∙ k) (ap (λ ns. is_known ns x) (rights_are ρ) ∙ h)
  patterns _ _ _ _ one_public = one_public
  patterns _ _ _ _ one_fresh = one_fresh
  patterns _ _ _ _ (one_symbol {ρ = ρ} {ξ = ζ} {ts = ts} {us = us} h) = one_symbol (rows ρ ζ ts us h)

  rows : (ρ ζ : List Pair) (ts us : Trees) → AreAlikeRows ρ ts us ζ → AreAlikeRows (swapped ρ) us ts (swapped ζ)
  rows _ _ _ _ row_ends = row_ends
  rows _ _ _ _ (row_goes_on {ρ = ρ} {ξ = ξ} {ζ = ζ} {t = t} {u = u} {ts = ts} {us = us} h k) = row_goes_on (patterns ρ ξ t u h) (rows ξ ζ ts us k)

facts : (ρ ζ : List Pair) (fs hs : List Fact) → AreAlikeFacts ρ fs hs ζ → AreAlikeFacts (swapped ρ) hs fs (swapped ζ)
facts _ _ _ _ facts_end = facts_end
facts _ _ _ _ (facts_go_on {ρ = ρ} {ξ = ξ} {ζ = ζ} {ts = ts} {us = us} {fs = fs} {hs = hs} h k) =
    facts_go_on (rows ρ ξ (trees_of ts) (trees_of us) h) (facts ξ ζ fs hs k)

actions : (ρ ζ : List Pair) (a b : Action) → AreAlikeActions ρ a b ζ → AreAlikeActions (swapped ρ) b a (swapped ζ)
actions _ _ _ _ both_new = both_new
actions _ _ _ _ (both_out {ρ = ρ} {t = t} {v = v} h) = both_out (terms ρ t v h)
actions _ _ _ _ (both_send {ρ = ρ} {t = t} {u = u} {v = v} {w = w} h k) = both_send (terms ρ t v h) (terms ρ u w k)
actions _ _ _ _ (both_input {ρ = ρ} {ξ = ζ} {t = t} {v = v} h) = both_input (patterns ρ ζ t v h)
actions _ _ _ _ (both_receive {ρ = ρ} {ξ = ζ} {t = t} {u = u} {v = v} {w = w} h k) = both_receive (terms ρ t v h) (patterns ρ ζ u w k)
actions _ _ _ _ (both_event {ρ = ρ} {ts = ts} {us = us} h) = both_event (lists ρ (trees_of ts) (trees_of us) h)
actions _ _ _ _ (both_insert {ρ = ρ} {t = t} {u = u} {v = v} {w = w} h k) = both_insert (terms ρ t v h) (terms ρ u w k)
actions _ _ _ _ (both_delete {ρ = ρ} {t = t} {v = v} h) = both_delete (terms ρ t v h)
actions _ _ _ _ (both_lock {ρ = ρ} {t = t} {v = v} h) = both_lock (terms ρ t v h)
actions _ _ _ _ (both_unlock {ρ = ρ} {t = t} {v = v} h) = both_unlock (terms ρ t v h)
actions _ _ _ _ (both_embedded {ρ = ρ} {ξ = ξ} {ζ = ζ} {η = η} {l = l} {e = e} {r = r} {k = k} {d = d} {q = q} h i j) =
    both_embedded (facts ρ ξ l k h) (facts ξ ζ e d i) (facts ζ η r q j)

pub other_side : (ρ : List Pair) (p q : Proc) → AreAlike ρ p q → AreAlike (swapped ρ) q p
other_side _ _ _ both_nil = both_nil
other_side _ _ _ (both_parallel {ρ = ρ} {p = p} {q = q} {a = a} {b = b} h k) = both_parallel (other_side ρ p a h) (other_side ρ q b k)
other_side _ _ _ (both_replicated {ρ = ρ} {p = p} {a = a} h) = both_replicated (other_side ρ p a h)
other_side _ _ _ (both_act {ρ = ρ} {ξ = ξ} {c = c} {d = d} {p = p} {a = a} h k) = both_act (actions ρ ξ c d h) (other_side ξ p a k)
other_side _ _ _ (both_test {ρ = ρ} {t = t} {u = u} {v = v} {w = w} {p = p} {q = q} {a = a} {b = b} h i j k) =
    both_test (terms ρ t v h) (terms ρ u w i) (other_side ρ p a j) (other_side ρ q b k)
other_side _ _ _ (both_lookup {ρ = ρ} {t = t} {v = v} {x = x} {y = y} {p = p} {q = q} {a = a} {b = b} h k l) =
    both_lookup (terms ρ t v h) (other_side (pair_of x y ∷ ρ) p a k) (other_side ρ q b l)

-- pairs that have the names of the other side are these
pub are_swapped : (ρ ξ : List Pair) → lefts ξ ≡ rights ρ → rights ξ ≡ lefts ρ → swapped ρ ≡ ξ
are_swapped [] [] h k = refl
are_swapped [] (q ∷ ξ) h k = cc
are_swapped (p ∷ ρ) [] h k = cc
are_swapped (p ∷ ρ) (q ∷ ξ) h k =
    let left : p.right ≡ q.left = cc in
    let right : p.left ≡ q.right = cc in
    let later : swapped ρ ≡ ξ = are_swapped ρ ξ (cc) (cc) in
    λ i. pair_of (left i) (right i) ∷ later i

pub with_other_pairs : (ρ ξ : List Pair) (p q : Proc) → lefts ξ ≡ rights ρ → rights ξ ≡ lefts ρ → AreAlike ρ p q → AreAlike ξ q p
with_other_pairs ρ ξ p q h k a = subst (λ z. AreAlike z q p) (are_swapped ρ ξ h k) (other_side ρ p q a)
