-- Lists of waits, where lists of none come and where a wait is put last.
use Rattle.std.proofs.Common.{◌≡◌, ◌<◌, ℕ, zero, suc, List, [], ◌∷◌, ◌++◌, length, Some, None, refl, sym, ap, ◌∙◌, ◌⊎◌, inl, inr, arith, subst}
use Rattle.std.specs.Prelude.{slice_get, slice_set, Vec}
use Rattle.std.specs.declared.alloc.Global.{Global}
use Rattle.sap_derive.specs.code.Closed.{IsWaitAt, KeepsWaits, IsParked}
use Rattle.sap_derive.specs.declared.grounds.Wait.{Wait}
use Rattle.sap_derive.proofs.Gets.{get-more, get-last, get-last_cases, get-set, get-set_other, same-or_not}

-- a list of none more
pub waits-more : (waiting : List (Vec Wait Global)) (v : Vec Wait Global) → KeepsWaits waiting (waiting ++ v ∷ [])
waits-more waiting v n k w at = record { waits = at.waits; at_number = get-more waiting (v ∷ []) n at.waits at.at_number; at_index = at.at_index }

pub waits-no_more : (waiting : List (Vec Wait Global)) (v : Vec Wait Global) → v.items ≡ [] → KeepsWaits (waiting ++ v ∷ []) waiting
waits-no_more waiting v e n k w at = go (get-last_cases waiting v n at.waits at.at_number) where
  go : (slice_get waiting n ≡ Some at.waits) ⊎ ((n ≡ length waiting) × (at.waits ≡ v)) → IsWaitAt waiting n k w
  go (inl g) = record { waits = at.waits; at_number = g; at_index = at.at_index }
  go (inr r) =
      let none : slice_get {X = Wait} [] k ≡ Some w = subst (λ (ws : List Wait). slice_get ws k ≡ Some w) (ap (λ (u : Vec Wait Global). u.items) r.1 ∙ e) at.at_index in
      absurd (cc)

module _ (waiting : List (Vec Wait Global)) (n : ℕ) (v u : Vec Wait Global) (here : slice_get waiting n ≡ Some v) where
  -- the list of a number, written anew
  pub at-number : n < length waiting → slice_get (slice_set waiting n u) n ≡ Some u
  at-number l = get-set waiting n u l

  pub waits-behind : n < length waiting → (xs : List Wait) → u.items ≡ v.items ++ xs → KeepsWaits waiting (slice_set waiting n u)
  waits-behind l xs e m k w at = go (same-or_not m n) where
    go : (m ≡ n) ⊎ ¬ (m ≡ n) → IsWaitAt (slice_set waiting n u) m k w
    go (inr other) = record { waits = at.waits; at_number = get-set_other waiting n u m other ∙ at.at_number; at_index = at.at_index }
    go (inl e_m) =
        let e_v : at.waits ≡ v = cc in
        record {
          waits = u;
          at_number = subst (λ (i : ℕ). slice_get (slice_set waiting n u) i ≡ Some u) (sym e_m) (at-number l);
          at_index = subst (λ (ws : List Wait). slice_get ws k ≡ Some w) (sym e) (get-more v.items xs k w (subst (λ (ws : Vec Wait Global). slice_get ws.items k ≡ Some w) e_v at.at_index));
        }

  pub waits-same : n < length waiting → u.items ≡ v.items → KeepsWaits (slice_set waiting n u) waiting
  waits-same l e m k w at = go (same-or_not m n) where
    go : (m ≡ n) ⊎ ¬ (m ≡ n) → IsWaitAt waiting m k w
    go (inr other) = record { waits = at.waits; at_number = sym (get-set_other waiting n u m other) ∙ at.at_number; at_index = at.at_index }
    go (inl e_m) =
        let at_n : slice_get (slice_set waiting n u) n ≡ Some at.waits = subst (λ (i : ℕ). slice_get (slice_set waiting n u) i ≡ Some at.waits) e_m at.at_number in
        let written = at-number l in
        let e_u : at.waits ≡ u = cc in
        record {
          waits = v;
          at_number = subst (λ (i : ℕ). slice_get waiting i ≡ Some v) (sym e_m) here;
          at_index = subst (λ (ws : List Wait). slice_get ws k ≡ Some w) (ap (λ (x : Vec Wait Global). x.items) e_u ∙ e) at.at_index;
        }

  pub waits-pushed : n < length waiting → (x : Wait) → u.items ≡ v.items ++ x ∷ [] → (m k : ℕ) (w : Wait) → IsWaitAt (slice_set waiting n u) m k w
      → IsWaitAt waiting m k w ⊎ ((m ≡ n) × (w ≡ x))
  waits-pushed l x e m k w at = go (same-or_not m n) where
    go : (m ≡ n) ⊎ ¬ (m ≡ n) → IsWaitAt waiting m k w ⊎ ((m ≡ n) × (w ≡ x))
    go (inr other) = inl (record { waits = at.waits; at_number = sym (get-set_other waiting n u m other) ∙ at.at_number; at_index = at.at_index })
    go (inl e_m) = further (get-last_cases v.items x k w in_items) where
      at_n : slice_get (slice_set waiting n u) n ≡ Some at.waits
      at_n = subst (λ (i : ℕ). slice_get (slice_set waiting n u) i ≡ Some at.waits) e_m at.at_number

      written : slice_get (slice_set waiting n u) n ≡ Some u
      written = at-number l

      e_u : at.waits ≡ u
      e_u = cc (at_n, written)

      in_items : slice_get (v.items ++ x ∷ []) k ≡ Some w
      in_items = subst (λ (ws : List Wait). slice_get ws k ≡ Some w) (ap (λ (y : Vec Wait Global). y.items) e_u ∙ e) at.at_index

      further : (slice_get v.items k ≡ Some w) ⊎ ((k ≡ length v.items) × (w ≡ x)) → IsWaitAt waiting m k w ⊎ ((m ≡ n) × (w ≡ x))
      further (inr r) = inr (e_m, r.1)
      further (inl g) = inl (record { waits = v; at_number = subst (λ (i : ℕ). slice_get waiting i ≡ Some v) (sym e_m) here; at_index = g })

  pub waits-parked : n < length waiting → (x : Wait) → u.items ≡ v.items ++ x ∷ [] → IsParked (slice_set waiting n u) n x
  waits-parked l x e =
      (length v.items, record { waits = u; at_number = at-number l; at_index = subst (λ (ws : List Wait). slice_get ws (length v.items) ≡ Some x) (sym e) (get-last v.items x) })

-- one stands at each index of the list of its number
pub wait-within : (waiting : List (Vec Wait Global)) (n : ℕ) (v : Vec Wait Global) → slice_get waiting n ≡ Some v → (k : ℕ) → k < length v.items → (w : Wait) × IsWaitAt waiting n k w
wait-within waiting n v e k l =
    let w = got v.items k l in
    (w.0, record { waits = v; at_number = e; at_index = w.1 }) where
      got : (ws : List Wait) (i : ℕ) → i < length ws → (w : Wait) × (slice_get ws i ≡ Some w)
      got [] i l = absurd (omega arith)
      got (w ∷ ws) zero l = (w, refl)
      got (w ∷ ws) (suc i) l = got ws i (omega arith)

pub no-wait : (waiting : List (Vec Wait Global)) (n k : ℕ) (w : Wait) → slice_get waiting n ≡ None → IsWaitAt waiting n k w → ⊥
no-wait waiting n k w e a = let there = a.at_number in absurd (cc)
