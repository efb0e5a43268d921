-- Equal up to names, one behind another.
use Rattle.std.proofs.Common.{◌≡◌, ℕ, true, List, [], ◌∷◌, refl, sym, ap, ◌∙◌, subst}
use Rattle.sap_terms.specs.Tree.{Tree, Trees, trees_of}
use Rattle.sap_terms.specs.Variables.{is_known}
use Rattle.sap_terms.specs.declared.fact.Fact.{Fact}
use Rattle.sap_process.specs.Action.{Action}
use Rattle.sap_process.specs.Proc.{Proc}
use Rattle.sap_terms.proofs.PlainLaws.Known.{clash, in_head, in_tail}
use Rattle.sap_macro.specs.UpToNames.{Pair, pair_of, lefts, rights, HaveOneBinder, here, above, AreAlikeTerms, both_variable, both_public, both_fresh, both_apply, AreAlikeLists, both_none, both_more, AreAlikePatterns, old_name, new_name, one_public, one_fresh, one_symbol, AreAlikeRows, row_ends, row_goes_on, AreAlikeFacts, facts_end, facts_go_on, AreAlikeActions, both_new, both_out, both_send, both_input, both_receive, both_event, both_insert, both_delete, both_lock, both_unlock, both_embedded, AreAlike, both_nil, both_parallel, both_replicated, both_act, both_test, both_lookup}

-- the first two lists of pairs, one behind the other
pub data AreJoined : List Pair → List Pair → List Pair → Type 0 where
  none_joined : AreJoined [] [] []
  one_joined : {x y w z : List ℕ} {ρ ξ ζ : List Pair} → y ≡ w → AreJoined ρ ξ ζ → AreJoined (pair_of x y ∷ ρ) (pair_of w z ∷ ξ) (pair_of x z ∷ ζ)

names : (ρ ξ ζ : List Pair) (x y z : List ℕ) → AreJoined ρ ξ ζ → HaveOneBinder ρ x y → HaveOneBinder ξ y z → HaveOneBinder ζ x z
names _ _ _ x y z none_joined h k = elim h [ ]
names _ _ _ x y z (one_joined e j) here here = here
names _ _ _ x y z (one_joined e j) here (above h k l) = absurd (h (sym e))
names _ _ _ x y z (one_joined e j) (above h k l) here = absurd (k e)
names _ _ _ x y z (one_joined {ρ = ρ} {ξ = ξ} {ζ = ζ} e j) (above h k l) (above m n o) = above h n (names ρ ξ ζ x y z j l o)

mutual
  terms : (ρ ξ ζ : List Pair) (t u w : Tree) → AreJoined ρ ξ ζ → AreAlikeTerms ρ t u → AreAlikeTerms ξ u w → AreAlikeTerms ζ t w
  terms ρ ξ ζ _ _ _ j (both_variable {x = x} {y = y} h) (both_variable {y = z} k) = both_variable (names ρ ξ ζ x y z j h k)
  terms ρ ξ ζ _ _ _ j both_public both_public = both_public
  terms ρ ξ ζ _ _ _ j both_fresh both_fresh = both_fresh
  terms ρ ξ ζ _ _ _ j (both_apply {ts = ts} {us = us} h) (both_apply {us = ws} k) = both_apply (lists ρ ξ ζ ts us ws j h k)

  lists : (ρ ξ ζ : List Pair) (ts us ws : Trees) → AreJoined ρ ξ ζ → AreAlikeLists ρ ts us → AreAlikeLists ξ us ws → AreAlikeLists ζ ts ws
  lists ρ ξ ζ _ _ _ j both_none both_none = both_none
  lists ρ ξ ζ _ _ _ j (both_more {t = t} {u = u} {ts = ts} {us = us} h k) (both_more {u = w} {us = ws} l m) =
      both_more (terms ρ ξ ζ t u w j h l) (lists ρ ξ ζ ts us ws j k m)

lefts_are : (ρ ξ ζ : List Pair) → AreJoined ρ ξ ζ → lefts ζ ≡ lefts ρ
lefts_are _ _ _ none_joined = refl
lefts_are _ _ _ (one_joined {x = x} {ρ = ρ} {ξ = ξ} {ζ = ζ} e j) = ap (λ ns. x ∷ ns) (lefts_are ρ ξ ζ j)

rights_are : (ρ ξ ζ : List Pair) → AreJoined ρ ξ ζ → rights ζ ≡ rights ξ
rights_are _ _ _ none_joined = refl
rights_are _ _ _ (one_joined {z = z} {ρ = ρ} {ξ = ξ} {ζ = ζ} e j) = ap (λ ns. z ∷ ns) (rights_are ρ ξ ζ j)

middle : (ρ ξ ζ : List Pair) → AreJoined ρ ξ ζ → rights ρ ≡ lefts ξ
middle _ _ _ none_joined = refl
middle _ _ _ (one_joined {ρ = ρ} {ξ = ξ} {ζ = ζ} e j) = λ i. e i ∷ middle ρ ξ ζ j i

in_lefts : (ρ : List Pair) (x y : List ℕ) → HaveOneBinder ρ x y → is_known (lefts ρ) x ≡ true
in_lefts _ x y (here {ρ = ρ}) = in_head x (lefts ρ)
in_lefts _ x y (above {a = a} {ρ = ρ} h k l) = in_tail x a (lefts ρ) (in_lefts ρ x y l)

in_rights : (ρ : List Pair) (x y : List ℕ) → HaveOneBinder ρ x y → is_known (rights ρ) y ≡ true
in_rights _ x y (here {ρ = ρ}) = in_head y (rights ρ)
in_rights _ x y (above {b = b} {ρ = ρ} h k l) = in_tail y b (rights ρ) (in_rights ρ x y l)

-- behind two steps
record Both (ρ ξ : List Pair) (Alike : List Pair → Type 0) : Type 0 where
  pub after : List Pair
  pub joined : AreJoined ρ ξ after
  pub alike : Alike after

mutual
  patterns : (ρ ξ ζ α β : List Pair) (t u w : Tree) → AreJoined ρ ξ ζ → AreAlikePatterns ρ t u α → AreAlikePatterns ξ u w β → Both α β (AreAlikePatterns ζ t w)
  patterns _ _ ζ _ _ _ _ _ j (old_name {ρ = ρ} {x = x} {y = y} h) (old_name {ρ = ξ} {y = z} k) = record { after = ζ; joined = j; alike = old_name (names ρ ξ ζ x y z j h k) }
  patterns _ _ ζ _ _ _ _ _ j (old_name {ρ = ρ} {x = x} {y = y} h) (new_name {ρ = ξ} k l) =
      absurd (clash (is_known (lefts ξ) y) (subst (λ ns. is_known ns y ≡ true) (middle ρ ξ ζ j) (in_rights ρ x y h)) k)
  patterns _ _ ζ _ _ _ _ _ j (new_name {ρ = ρ} {y = y} h k) (old_name {ρ = ξ} {y = z} l) =
      absurd (clash (is_known (rights ρ) y) (subst (λ ns. is_known ns y ≡ true) (sym (middle ρ ξ ζ j)) (in_lefts ξ y z l)) k)
  patterns _ _ ζ _ _ _ _ _ j (new_name {ρ = ρ} {x = x} {y = y} h k) (new_name {ρ = ξ} {y = z} l m) =
      record {
        after = pair_of x z ∷ ζ;
        joined = one_joined refl j;
        alike = new_name (ap (λ ns. is_known ns x) (lefts_are ρ ξ ζ j) ∙ h) (ap (λ ns. is_known ns z) (rights_are ρ ξ ζ j) ∙ m);
      }
  patterns _ _ ζ _ _ _ _ _ j one_public one_public = record { after = ζ; joined = j; alike = one_public }
  patterns _ _ ζ _ _ _ _ _ j one_fresh one_fresh = record { after = ζ; joined = j; alike = one_fresh }
  patterns _ _ ζ α β _ _ _ j (one_symbol {ρ = ρ} {ts = ts} {us = us} h) (one_symbol {ρ = ξ} {us = ws} k) =
      let r = rows ρ ξ ζ α β ts us ws j h k in record { after = r.after; joined = r.joined; alike = one_symbol r.alike }

  rows : (ρ ξ ζ α β : List Pair) (ts us ws : Trees) → AreJoined ρ ξ ζ → AreAlikeRows ρ ts us α → AreAlikeRows ξ us ws β → Both α β (AreAlikeRows ζ ts ws)
  rows _ _ ζ _ _ _ _ _ j row_ends row_ends = record { after = ζ; joined = j; alike = row_ends }
  rows _ _ ζ α β _ _ _ j (row_goes_on {ρ = ρ} {ξ = ε} {t = t} {u = u} {ts = ts} {us = us} h k) (row_goes_on {ρ = ξ} {ξ = θ} {u = w} {us = ws} l m) =
      let a = patterns ρ ξ ζ ε θ t u w j h l in
      let r = rows ε θ a.after α β ts us ws a.joined k m in
      record { after = r.after; joined = r.joined; alike = row_goes_on a.alike r.alike }

facts : (ρ ξ ζ α β : List Pair) (fs hs ks : List Fact) → AreJoined ρ ξ ζ → AreAlikeFacts ρ fs hs α → AreAlikeFacts ξ hs ks β → Both α β (AreAlikeFacts ζ fs ks)
facts _ _ ζ _ _ _ _ _ j facts_end facts_end = record { after = ζ; joined = j; alike = facts_end }
facts _ _ ζ α β _ _ _ j (facts_go_on {ρ = ρ} {ξ = ε} {ts = ts} {us = us} {fs = fs} {hs = hs} h k) (facts_go_on {ρ = ξ} {ξ = θ} {us = ws} {hs = ks} l m) =
    let a = rows ρ ξ ζ ε θ (trees_of ts) (trees_of us) (trees_of ws) j h l in
    let r = facts ε θ a.after α β fs hs ks a.joined k m in
    record { after = r.after; joined = r.joined; alike = facts_go_on a.alike r.alike }

actions : (ρ ξ ζ α β : List Pair) (a b c : Action) → AreJoined ρ ξ ζ → AreAlikeActions ρ a b α → AreAlikeActions ξ b c β → Both α β (AreAlikeActions ζ a c)
actions _ _ ζ _ _ _ _ _ j (both_new {x = x}) (both_new {y = z}) = record { after = pair_of x z ∷ ζ; joined = one_joined refl j; alike = both_new }
actions _ _ ζ _ _ _ _ _ j (both_out {ρ = ρ} {t = t} {v = v} h) (both_out {ρ = ξ} {v = x} k) = record { after = ζ; joined = j; alike = both_out (terms ρ ξ ζ t v x j h k) }
actions _ _ ζ _ _ _ _ _ j (both_send {ρ = ρ} {t = t} {u = u} {v = v} {w = w} h i) (both_send {ρ = ξ} {v = x} {w = y} k l) =
    record { after = ζ; joined = j; alike = both_send (terms ρ ξ ζ t v x j h k) (terms ρ ξ ζ u w y j i l) }
actions _ _ ζ α β _ _ _ j (both_input {ρ = ρ} {t = t} {v = v} h) (both_input {ρ = ξ} {v = x} k) =
    let r = patterns ρ ξ ζ α β t v x j h k in record { after = r.after; joined = r.joined; alike = both_input r.alike }
actions _ _ ζ α β _ _ _ j (both_receive {ρ = ρ} {t = t} {u = u} {v = v} {w = w} h i) (both_receive {ρ = ξ} {v = x} {w = y} k l) =
    let r = patterns ρ ξ ζ α β u w y j i l in record { after = r.after; joined = r.joined; alike = both_receive (terms ρ ξ ζ t v x j h k) r.alike }
actions _ _ ζ _ _ _ _ _ j (both_event {ρ = ρ} {ts = ts} {us = us} h) (both_event {ρ = ξ} {us = ws} k) =
    record { after = ζ; joined = j; alike = both_event (lists ρ ξ ζ (trees_of ts) (trees_of us) (trees_of ws) j h k) }
actions _ _ ζ _ _ _ _ _ j (both_insert {ρ = ρ} {t = t} {u = u} {v = v} {w = w} h i) (both_insert {ρ = ξ} {v = x} {w = y} k l) =
    record { after = ζ; joined = j; alike = both_insert (terms ρ ξ ζ t v x j h k) (terms ρ ξ ζ u w y j i l) }
actions _ _ ζ _ _ _ _ _ j (both_delete {ρ = ρ} {t = t} {v = v} h) (both_delete {ρ = ξ} {v = x} k) = record { after = ζ; joined = j; alike = both_delete (terms ρ ξ ζ t v x j h k) }
actions _ _ ζ _ _ _ _ _ j (both_lock {ρ = ρ} {t = t} {v = v} h) (both_lock {ρ = ξ} {v = x} k) = record { after = ζ; joined = j; alike = both_lock (terms ρ ξ ζ t v x j h k) }
actions _ _ ζ _ _ _ _ _ j (both_unlock {ρ = ρ} {t = t} {v = v} h) (both_unlock {ρ = ξ} {v = x} k) = record { after = ζ; joined = j; alike = both_unlock (terms ρ ξ ζ t v x j h k) }
actions _ _ ζ α β _ _ _ j (both_embedded {ρ = ρ} {ξ = ε} {ζ = θ} {l = l} {e = e} {r = r} {k = k} {d = d} {q = q} h i m) (both_embedded {ρ = ξ} {ξ = γ} {ζ = δ} {k = x} {d = y} {q = z} n o s) =
    let a = facts ρ ξ ζ ε γ l k x j h n in
    let b = facts ε γ a.after θ δ e d y a.joined i o in
    let c = facts θ δ b.after α β r q z b.joined m s in
    record { after = c.after; joined = c.joined; alike = both_embedded a.alike b.alike c.alike }

pub joined : (ρ ξ ζ : List Pair) (p q r : Proc) → AreJoined ρ ξ ζ → AreAlike ρ p q → AreAlike ξ q r → AreAlike ζ p r
joined ρ ξ ζ _ _ _ j both_nil both_nil = both_nil
joined ρ ξ ζ _ _ _ j (both_parallel {p = p} {q = q} {a = a} {b = b} h k) (both_parallel {a = c} {b = d} l m) =
    both_parallel (joined ρ ξ ζ p a c j h l) (joined ρ ξ ζ q b d j k m)
joined ρ ξ ζ _ _ _ j (both_replicated {p = p} {a = a} h) (both_replicated {a = c} l) = both_replicated (joined ρ ξ ζ p a c j h l)
joined ρ ξ ζ _ _ _ j (both_act {ξ = α} {c = x} {d = y} {p = p} {a = a} h k) (both_act {ξ = β} {d = z} {a = c} l m) =
    let r = actions ρ ξ ζ α β x y z j h l in both_act r.alike (joined α β r.after p a c r.joined k m)
joined ρ ξ ζ _ _ _ j (both_test {t = t} {u = u} {v = v} {w = w} {p = p} {q = q} {a = a} {b = b} h i k l) (both_test {v = x} {w = y} {a = c} {b = d} m n o s) =
    both_test (terms ρ ξ ζ t v x j h m) (terms ρ ξ ζ u w y j i n) (joined ρ ξ ζ p a c j k o) (joined ρ ξ ζ q b d j l s)
joined ρ ξ ζ _ _ _ j (both_lookup {t = t} {v = v} {x = x} {y = y} {p = p} {q = q} {a = a} {b = b} h k l) (both_lookup {v = w} {y = z} {a = c} {b = d} m n o) =
    both_lookup (terms ρ ξ ζ t v w j h m) (joined (pair_of x y ∷ ρ) (pair_of y z ∷ ξ) (pair_of x z ∷ ζ) p a c (one_joined refl j) k n) (joined ρ ξ ζ q b d j l o)

-- processes that are equal up to names to one process are equal up to names
pub one_behind_other : (p q r : Proc) → AreAlike [] p q → AreAlike [] q r → AreAlike [] p r
one_behind_other p q r h k = joined [] [] [] p q r none_joined h k

-- pairs with the left names of the first and the right names of the second are both joined, where they meet
are_joined : (ρ ξ ζ : List Pair) → rights ρ ≡ lefts ξ → lefts ζ ≡ lefts ρ → rights ζ ≡ rights ξ → AreJoined ρ ξ ζ
are_joined [] [] [] h k l = none_joined
are_joined [] [] (s ∷ ζ) h k l = absurd (cc)
are_joined [] (q ∷ ξ) ζ h k l = absurd (cc)
are_joined (p ∷ ρ) [] ζ h k l = absurd (cc)
are_joined (p ∷ ρ) (q ∷ ξ) [] h k l = absurd (cc)
are_joined (p ∷ ρ) (q ∷ ξ) (s ∷ ζ) h k l =
    let meet : p.right ≡ q.left = cc in
    let left : p.left ≡ s.left = cc in
    let right : q.right ≡ s.right = cc in
    let later : AreJoined ρ ξ ζ = are_joined ρ ξ ζ (cc) (cc) (cc) in
    subst (λ z. AreJoined (p ∷ ρ) (q ∷ ξ) (z ∷ ζ)) (λ i. pair_of (left i) (right i)) (one_joined meet later)

pub through_a_third : (ρ ξ ζ : List Pair) (p q r : Proc) → rights ρ ≡ lefts ξ → lefts ζ ≡ lefts ρ → rights ζ ≡ rights ξ → AreAlike ρ p q → AreAlike ξ q r → AreAlike ζ p r
through_a_third ρ ξ ζ p q r h k l a b = joined ρ ξ ζ p q r (are_joined ρ ξ ζ h k l) a b
