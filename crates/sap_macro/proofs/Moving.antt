-- What a step does to processes that are equal up to names: names that are bound above are replaced by ground terms, equal on
-- both sides.
use Rattle.std.proofs.Common.{◌≡◌, ℕ, false, List, [], ◌∷◌, ◌⊎◌, inl, inr, map, refl, sym, ap, ◌∙◌, subst}
use Rattle.std.specs.Prelude.{if◌then◌else◌}
use Rattle.std.specs.Str.{bytes_eq}
use Rattle.sap_terms.specs.Choice.{Choice, instance, instances}
use Rattle.sap_terms.specs.Ground.{IsGround, AreGround}
use Rattle.sap_terms.specs.Modulo.{instance_facts}
use Rattle.sap_terms.specs.Tree.{Tree, variable, public, fresh, apply, Trees, none, more, trees_of}
use Rattle.sap_terms.specs.Variables.{is_known}
use Rattle.sap_terms.specs.declared.fact.Fact.{Fact}
use Rattle.sap_terms.specs.declared.var.Sort.{Sort}
use Rattle.sap_process.specs.Action.{Action}
use Rattle.sap_process.specs.Instance.{action_instance, without, behind, process_instance}
use Rattle.sap_process.specs.Proc.{Proc}
use Rattle.sap_macro.specs.UpToNames.{named, Pair, pair_of, lefts, rights, HaveOneBinder, here, above, AreAlikeTerms, both_variable, both_public, both_fresh, both_apply, AreAlikeLists, both_none, both_more, AreAlikePatterns, old_name, new_name, one_public, one_fresh, one_symbol, AreAlikeRows, row_ends, row_goes_on, AreAlikeFacts, facts_end, facts_go_on, AreAlikeActions, both_new, both_out, both_send, both_input, both_receive, both_event, both_insert, both_delete, both_lock, both_unlock, both_embedded, AreAlike, both_nil, both_parallel, both_replicated, both_act, both_test, both_lookup}
use Rattle.sap_terms.proofs.PlainLaws.Known.{own_name, apart, not_in, out_of}

-- both names stay, or both stand for one ground term
abbrev pub IsMoved : List Pair → List ℕ → List ℕ → Sort → Tree → Tree → Type 0
IsMoved ξ x y s t u = (HaveOneBinder ξ x y × ((t ≡ variable (named x s)) × (u ≡ variable (named y s)))) ⊎ ((t ≡ u) × IsGround t)

-- what was bound above stays bound or is replaced by one ground term on both sides; other names stay
pub record Moves (ρ ξ : List Pair) (σ τ : Choice) : Type 0 where
  pub moved : (x y : List ℕ) (s : Sort) → HaveOneBinder ρ x y → IsMoved ξ x y s (σ (named x s)) (τ (named y s))
  pub left : (x : List ℕ) (s : Sort) → is_known (lefts ρ) x ≡ false → (is_known (lefts ξ) x ≡ false) × (σ (named x s) ≡ variable (named x s))
  pub right : (y : List ℕ) (s : Sort) → is_known (rights ρ) y ≡ false → (is_known (rights ξ) y ≡ false) × (τ (named y s) ≡ variable (named y s))

mutual
  pub ground_alike : (ρ : List Pair) (t : Tree) → IsGround t → AreAlikeTerms ρ t t
  ground_alike ρ (variable v) g = absurd g
  ground_alike ρ (public n) g = both_public
  ground_alike ρ (fresh k) g = both_fresh
  ground_alike ρ (apply f ts) g = both_apply (all_ground ρ ts g)

  pub all_ground : (ρ : List Pair) (ts : Trees) → AreGround ts → AreAlikeLists ρ ts ts
  all_ground ρ none g = both_none
  all_ground ρ (more t ts) g = both_more (ground_alike ρ t g.0) (all_ground ρ ts g.1)

-- a name with its term on both sides
moved_variable : (ξ : List Pair) (x y : List ℕ) (s : Sort) (t u : Tree) → IsMoved ξ x y s t u → AreAlikeTerms ξ t u
moved_variable ξ x y s t u (inl h) =
    subst (λ z. AreAlikeTerms ξ z u) (sym h.1.0) (subst (λ z. AreAlikeTerms ξ (variable (named x s)) z) (sym h.1.1) (both_variable h.0))
moved_variable ξ x y s t u (inr h) = subst (AreAlikeTerms ξ t) h.0 (ground_alike ξ t h.1)

mutual
  -- terms whose names are bound are patterns that bind nothing
  pub as_pattern : (ξ : List Pair) (t u : Tree) → AreAlikeTerms ξ t u → AreAlikePatterns ξ t u ξ
  as_pattern ξ _ _ (both_variable h) = old_name h
  as_pattern ξ _ _ both_public = one_public
  as_pattern ξ _ _ both_fresh = one_fresh
  as_pattern ξ _ _ (both_apply {ts = ts} {us = us} h) = one_symbol (as_row ξ ts us h)

  as_row : (ξ : List Pair) (ts us : Trees) → AreAlikeLists ξ ts us → AreAlikeRows ξ ts us ξ
  as_row ξ _ _ both_none = row_ends
  as_row ξ _ _ (both_more {t = t} {u = u} {ts = ts} {us = us} h k) = row_goes_on (as_pattern ξ t u h) (as_row ξ ts us k)

mutual
  terms_move : (ρ ξ : List Pair) (σ τ : Choice) → Moves ρ ξ σ τ → (t u : Tree) → AreAlikeTerms ρ t u → AreAlikeTerms ξ (instance σ t) (instance τ u)
  terms_move ρ ξ σ τ m _ _ (both_variable {x = x} {y = y} {s = s} h) = moved_variable ξ x y s (σ (named x s)) (τ (named y s)) (m.moved x y s h)
  terms_move ρ ξ σ τ m _ _ both_public = both_public
  terms_move ρ ξ σ τ m _ _ both_fresh = both_fresh
  terms_move ρ ξ σ τ m _ _ (both_apply {ts = ts} {us = us} h) = both_apply (lists_move ρ ξ σ τ m ts us h)

  lists_move : (ρ ξ : List Pair) (σ τ : Choice) → Moves ρ ξ σ τ → (ts us : Trees) → AreAlikeLists ρ ts us → AreAlikeLists ξ (instances σ ts) (instances τ us)
  lists_move ρ ξ σ τ m _ _ both_none = both_none
  lists_move ρ ξ σ τ m _ _ (both_more {t = t} {u = u} {ts = ts} {us = us} h k) = both_more (terms_move ρ ξ σ τ m t u h) (lists_move ρ ξ σ τ m ts us k)

raised : (ξ : List Pair) (x y a b : List ℕ) (s : Sort) (t u : Tree) → ¬ (x ≡ a) → ¬ (y ≡ b) → IsMoved ξ a b s t u → IsMoved (pair_of x y ∷ ξ) a b s t u
raised ξ x y a b s t u h k (inl l) = inl (above h k l.0, l.1)
raised ξ x y a b s t u h k (inr l) = inr l

-- one more name on each side, which both choices leave
own : (ρ ξ : List Pair) (σ τ : Choice) (x y : List ℕ) → ((s : Sort) → σ (named x s) ≡ variable (named x s)) → ((s : Sort) → τ (named y s) ≡ variable (named y s))
    → ((a b : List ℕ) (s : Sort) → ¬ (x ≡ a) → ¬ (y ≡ b) → HaveOneBinder ρ a b → IsMoved ξ a b s (σ (named a s)) (τ (named b s)))
    → (a b : List ℕ) (s : Sort) → HaveOneBinder (pair_of x y ∷ ρ) a b → IsMoved (pair_of x y ∷ ξ) a b s (σ (named a s)) (τ (named b s))
own ρ ξ σ τ _ _ h k m a b s here = inl (here, (h s, k s))
own ρ ξ σ τ _ _ h k m a b s (above {a = x} {b = y} i j l) = raised ξ x y a b s (σ (named a s)) (τ (named b s)) i j (m a b s i j l)

more_names : (ρ ξ : List Pair) (σ τ : Choice) (x y : List ℕ) → is_known (lefts ρ) x ≡ false → is_known (rights ρ) y ≡ false → Moves ρ ξ σ τ
    → Moves (pair_of x y ∷ ρ) (pair_of x y ∷ ξ) σ τ
more_names ρ ξ σ τ x y h k m = record {
  moved = own ρ ξ σ τ x y (λ s. (m.left x s h).1) (λ s. (m.right y s k).1) (λ a b s i j l. m.moved a b s l);
  left = λ a s n. let o = not_in a x (lefts ρ) n in (out_of a x (lefts ξ) o.0 (m.left a s o.1).0, (m.left a s o.1).1);
  right = λ b s n. let o = not_in b y (rights ρ) n in (out_of b y (rights ξ) o.0 (m.right b s o.1).0, (m.right b s o.1).1);
}

without_own : (σ : Choice) (x : List ℕ) (s t : Sort) → without σ (named x t) (named x s) ≡ variable (named x s)
without_own σ x s t = ap (λ b. if b then variable (named x s) else σ (named x s)) (own_name x)

without_other : (σ : Choice) (x a : List ℕ) (s t : Sort) → bytes_eq x a ≡ false → without σ (named x t) (named a s) ≡ σ (named a s)
without_other σ x a s t e = ap (λ b. if b then variable (named a s) else σ (named a s)) e

-- a binder hides its name from the choices
hidden : (ρ ξ : List Pair) (σ τ : Choice) (x y : List ℕ) (t : Sort) → Moves ρ ξ σ τ
    → Moves (pair_of x y ∷ ρ) (pair_of x y ∷ ξ) (without σ (named x t)) (without τ (named y t))
hidden ρ ξ σ τ x y t m = record {
  moved = own ρ ξ (without σ (named x t)) (without τ (named y t)) x y (λ s. without_own σ x s t) (λ s. without_own τ y s t)
      (λ a b s i j l. subst (λ z. IsMoved ξ a b s z (without τ (named y t) (named b s))) (sym (without_other σ x a s t (apart x a i)))
      (subst (IsMoved ξ a b s (σ (named a s))) (sym (without_other τ y b s t (apart y b j))) (m.moved a b s l)));
  left = λ a s n. let o = not_in a x (lefts ρ) n in (out_of a x (lefts ξ) o.0 (m.left a s o.1).0, without_other σ x a s t o.0 ∙ (m.left a s o.1).1);
  right = λ b s n. let o = not_in b y (rights ρ) n in (out_of b y (rights ξ) o.0 (m.right b s o.1).0, without_other τ y b s t o.0 ∙ (m.right b s o.1).1);
}

-- what is alike behind, where these choices replace what was bound
record Moved (σ τ : Choice) (ζ : List Pair) (Alike : List Pair → Type 0) : Type 0 where
  pub behind : List Pair
  pub alike : Alike behind
  pub moves : Moves ζ behind σ τ

mutual
  pattern_moves : (ρ ξ ζ : List Pair) (σ τ : Choice) (t u : Tree) → AreAlikePatterns ρ t u ζ → Moves ρ ξ σ τ
      → Moved σ τ ζ (AreAlikePatterns ξ (instance σ t) (instance τ u))
  pattern_moves _ ξ _ σ τ _ _ (old_name {ρ = ρ} {x = x} {y = y} {s = s} h) m =
      record { behind = ξ; alike = as_pattern ξ (σ (named x s)) (τ (named y s)) (moved_variable ξ x y s (σ (named x s)) (τ (named y s)) (m.moved x y s h)); moves = m }
  pattern_moves _ ξ _ σ τ _ _ (new_name {ρ = ρ} {x = x} {y = y} {s = s} h k) m =
      record {
        behind = pair_of x y ∷ ξ;
        alike = subst (λ t. AreAlikePatterns ξ t (τ (named y s)) (pair_of x y ∷ ξ)) (sym (m.left x s h).1)
            (subst (λ t. AreAlikePatterns ξ (variable (named x s)) t (pair_of x y ∷ ξ)) (sym (m.right y s k).1) (new_name (m.left x s h).0 (m.right y s k).0));
        moves = more_names ρ ξ σ τ x y h k m;
      }
  pattern_moves _ ξ _ σ τ _ _ one_public m = record { behind = ξ; alike = one_public; moves = m }
  pattern_moves _ ξ _ σ τ _ _ one_fresh m = record { behind = ξ; alike = one_fresh; moves = m }
  pattern_moves _ ξ _ σ τ _ _ (one_symbol {ρ = ρ} {ξ = ζ} {ts = ts} {us = us} h) m =
      let row = row_moves ρ ξ ζ σ τ ts us h m in record { behind = row.behind; alike = one_symbol row.alike; moves = row.moves }

  row_moves : (ρ ξ ζ : List Pair) (σ τ : Choice) (ts us : Trees) → AreAlikeRows ρ ts us ζ → Moves ρ ξ σ τ
      → Moved σ τ ζ (AreAlikeRows ξ (instances σ ts) (instances τ us))
  row_moves _ ξ _ σ τ _ _ row_ends m = record { behind = ξ; alike = row_ends; moves = m }
  row_moves _ ξ _ σ τ _ _ (row_goes_on {ρ = ρ} {ξ = η} {ζ = ζ} {t = t} {u = u} {ts = ts} {us = us} h k) m =
      let first = pattern_moves ρ ξ η σ τ t u h m in
      let later = row_moves η first.behind ζ σ τ ts us k first.moves in
      record { behind = later.behind; alike = row_goes_on first.alike later.alike; moves = later.moves }

-- terms side by side are instances one by one
pub each_instance : (σ : Choice) (ts : List Tree) → instances σ (trees_of ts) ≡ trees_of (map (instance σ) ts)
each_instance σ [] = refl
each_instance σ (t ∷ ts) = ap (more (instance σ t)) (each_instance σ ts)

facts_move : (ρ ξ ζ : List Pair) (σ τ : Choice) (fs hs : List Fact) → AreAlikeFacts ρ fs hs ζ → Moves ρ ξ σ τ
    → Moved σ τ ζ (AreAlikeFacts ξ (instance_facts σ fs) (instance_facts τ hs))
facts_move _ ξ _ σ τ _ _ facts_end m = record { behind = ξ; alike = facts_end; moves = m }
facts_move _ ξ _ σ τ _ _ (facts_go_on {ρ = ρ} {ξ = η} {ζ = ζ} {ts = ts} {us = us} {fs = fs} {hs = hs} h k) m =
    let first = row_moves ρ ξ η σ τ (trees_of ts) (trees_of us) h m in
    let later = facts_move η first.behind ζ σ τ fs hs k first.moves in
    record {
      behind = later.behind;
      alike = facts_go_on (subst (λ z. AreAlikeRows ξ z (trees_of (map (instance τ) us)) first.behind) (each_instance σ ts)
          (subst (λ z. AreAlikeRows ξ (instances σ (trees_of ts)) z first.behind) (each_instance τ us) first.alike)) later.alike;
      moves = later.moves;
    }

action_moves : (ρ ξ ζ : List Pair) (σ τ : Choice) (a b : Action) → AreAlikeActions ρ a b ζ → Moves ρ ξ σ τ
    → Moved (behind σ a) (behind τ b) ζ (AreAlikeActions ξ (action_instance σ a) (action_instance τ b))
action_moves _ ξ _ σ τ _ _ (both_new {ρ = ρ} {x = x} {y = y} {s = s}) m = record { behind = pair_of x y ∷ ξ; alike = both_new; moves = hidden ρ ξ σ τ x y s m }
action_moves _ ξ _ σ τ _ _ (both_out {ρ = ρ} {t = t} {v = v} h) m = record { behind = ξ; alike = both_out (terms_move ρ ξ σ τ m t v h); moves = m }
action_moves _ ξ _ σ τ _ _ (both_send {ρ = ρ} {t = t} {u = u} {v = v} {w = w} h k) m =
    record { behind = ξ; alike = both_send (terms_move ρ ξ σ τ m t v h) (terms_move ρ ξ σ τ m u w k); moves = m }
action_moves _ ξ _ σ τ _ _ (both_input {ρ = ρ} {ξ = ζ} {t = t} {v = v} h) m =
    let first = pattern_moves ρ ξ ζ σ τ t v h m in record { behind = first.behind; alike = both_input first.alike; moves = first.moves }
action_moves _ ξ _ σ τ _ _ (both_receive {ρ = ρ} {ξ = ζ} {t = t} {u = u} {v = v} {w = w} h k) m =
    let first = pattern_moves ρ ξ ζ σ τ u w k m in record { behind = first.behind; alike = both_receive (terms_move ρ ξ σ τ m t v h) first.alike; moves = first.moves }
action_moves _ ξ _ σ τ _ _ (both_event {ρ = ρ} {ts = ts} {us = us} h) m =
    record {
      behind = ξ;
      alike = both_event (subst (λ z. AreAlikeLists ξ z (trees_of (map (instance τ) us))) (each_instance σ ts)
          (subst (AreAlikeLists ξ (instances σ (trees_of ts))) (each_instance τ us) (lists_move ρ ξ σ τ m (trees_of ts) (trees_of us) h)));
      moves = m;
    }
action_moves _ ξ _ σ τ _ _ (both_insert {ρ = ρ} {t = t} {u = u} {v = v} {w = w} h k) m =
    record { behind = ξ; alike = both_insert (terms_move ρ ξ σ τ m t v h) (terms_move ρ ξ σ τ m u w k); moves = m }
action_moves _ ξ _ σ τ _ _ (both_delete {ρ = ρ} {t = t} {v = v} h) m = record { behind = ξ; alike = both_delete (terms_move ρ ξ σ τ m t v h); moves = m }
action_moves _ ξ _ σ τ _ _ (both_lock {ρ = ρ} {t = t} {v = v} h) m = record { behind = ξ; alike = both_lock (terms_move ρ ξ σ τ m t v h); moves = m }
action_moves _ ξ _ σ τ _ _ (both_unlock {ρ = ρ} {t = t} {v = v} h) m = record { behind = ξ; alike = both_unlock (terms_move ρ ξ σ τ m t v h); moves = m }
action_moves _ ξ _ σ τ _ _ (both_embedded {ρ = ρ} {ξ = ξa} {ζ = ξb} {η = ξc} {l = l} {e = e} {r = r} {k = k} {d = d} {q = q} h i j) m =
    let first = facts_move ρ ξ ξa σ τ l k h m in
    let second = facts_move ξa first.behind ξb σ τ e d i first.moves in
    let third = facts_move ξb second.behind ξc σ τ r q j second.moves in
    record { behind = third.behind; alike = both_embedded first.alike second.alike third.alike; moves = third.moves }

-- processes stay alike where what is bound above them is replaced
pub stays_alike : (ρ ξ : List Pair) (σ τ : Choice) (p q : Proc) → AreAlike ρ p q → Moves ρ ξ σ τ → AreAlike ξ (process_instance σ p) (process_instance τ q)
stays_alike _ ξ σ τ _ _ both_nil m = both_nil
stays_alike _ ξ σ τ _ _ (both_parallel {ρ = ρ} {p = p} {q = q} {a = a} {b = b} h k) m = both_parallel (stays_alike ρ ξ σ τ p a h m) (stays_alike ρ ξ σ τ q b k m)
stays_alike _ ξ σ τ _ _ (both_replicated {ρ = ρ} {p = p} {a = a} h) m = both_replicated (stays_alike ρ ξ σ τ p a h m)
stays_alike _ ξ σ τ _ _ (both_act {ρ = ρ} {ξ = ζ} {c = c} {d = d} {p = p} {a = a} h k) m =
    let first = action_moves ρ ξ ζ σ τ c d h m in both_act first.alike (stays_alike ζ first.behind (behind σ c) (behind τ d) p a k first.moves)
stays_alike _ ξ σ τ _ _ (both_test {ρ = ρ} {t = t} {u = u} {v = v} {w = w} {p = p} {q = q} {a = a} {b = b} h i j k) m =
    both_test (terms_move ρ ξ σ τ m t v h) (terms_move ρ ξ σ τ m u w i) (stays_alike ρ ξ σ τ p a j m) (stays_alike ρ ξ σ τ q b k m)
stays_alike _ ξ σ τ _ _ (both_lookup {ρ = ρ} {t = t} {v = v} {x = x} {y = y} {s = s} {p = p} {q = q} {a = a} {b = b} h k l) m =
    both_lookup (terms_move ρ ξ σ τ m t v h)
    (stays_alike (pair_of x y ∷ ρ) (pair_of x y ∷ ξ) (without σ (named x s)) (without τ (named y s)) p a k (hidden ρ ξ σ τ x y s m)) (stays_alike ρ ξ σ τ q b l m)
