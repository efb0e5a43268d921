-- The formulas say the sentences.
use Rattle.std.proofs.Common.{◌≡◌, ℕ, ◌<◌, ◌≤◌, ◌⊎◌, inl, inr, length, map, refl, sym, ◌↔◌, arith}
use Rattle.std.proofs.lemmas.Bool.{cases_eq}
use Rattle.sap_formula.specs.Truth.{AnyIn, IsTrueOn, Shows, bind, facts_at}
use Rattle.sap_restrict.proofs.Shown.{AreMessages, if_shows, is_time, shown_messages, shows_if, unbound}
use Rattle.sap_restrict.specs.Laws.{MeaningLaw}
use Rattle.sap_shapes.specs.ReservedFacts.{delete_fact, eq_fact, event_fact, init_fact, input_fact, insert_fact, is_in_fact, is_not_set_fact, lock_fact, not_eq_fact, unlock_fact}
use Rattle.sap_restrict.specs.Sentences.{EachEqual, EachFound, EachLock, EachMissed, EachServed, EachUnequal, InitOnce}
use Rattle.sap_restrict.specs.Shown.{HasAlike}
use Rattle.sap_shapes.specs.Formulas.{L, M, X, Y, Z, each_equal, each_found, each_lock, each_missed, each_served, each_unequal, one_start}
use Rattle.sap_restrict.specs.declared.which.Which.TheVariants.{Eq, In, InEv, Init, Lock, NotEq, NotIn}
use Rattle.sap_rewrite.specs.Laws.{NormalTermsDecide}
use Rattle.sap_terms.specs.AdversaryFacts.{k_fact}
use Rattle.sap_terms.specs.Choice.{Choice, instance}
use Rattle.sap_terms.specs.Equations.{equations}
use Rattle.sap_terms.specs.Message.{IsMessageTrace}
use Rattle.sap_terms.specs.Signature.{Sig}
use Rattle.sap_terms.specs.Trace.{Trace}
use Rattle.sap_terms.specs.Tree.{Tree, variable}
use Rattle.sap_terms.specs.declared.fact.Fact.{Fact}

-- not later is earlier or at the same time
at_most : (k j : ℕ) → k ≤ j → (k < j) ⊎ (k ≡ j)
at_most k j l = elim (cases_eq k j) [ inl e ↦ inr e | inr e ↦ inl (omega arith) ]

joined : (k j i : ℕ) → ((k < j) ⊎ (k ≡ j)) ⊎ (i < k) → (k ≤ j) ⊎ (i < k)
joined k j i (inl (inl l)) = inl (omega arith)
joined k j i (inl (inr e)) = inl (omega arith)
joined k j i (inr l) = inr l

parted : (k j i : ℕ) → (k ≤ j) ⊎ (i < k) → ((k < j) ⊎ (k ≡ j)) ⊎ (i < k)
parted k j i (inl l) = inl (at_most k j l)
parted k j i (inr l) = inr l

joined_above : (k j i : ℕ) → ((k < j) ⊎ (k ≡ i)) ⊎ (i < k) → (k < j) ⊎ (i ≤ k)
joined_above k j i (inl (inl l)) = inl l
joined_above k j i (inl (inr e)) = inr (omega arith)
joined_above k j i (inr l) = inr (omega arith)

parted_above : (k j i : ℕ) → (k < j) ⊎ (i ≤ k) → ((k < j) ⊎ (k ≡ i)) ⊎ (i < k)
parted_above k j i (inl l) = inl (inl l)
parted_above k j i (inr l) = elim (at_most i k l) [ inl a ↦ inr a | inr e ↦ inl (inr (sym e)) ]

module _ (decide : NormalTermsDecide) (g : Sig) (tr : Trace) (m : IsMessageTrace g tr) where
  -- a time that has the fact makes the atom true, is a time, and has messages
  gives : (σ : Choice) (f h : Fact) (k : ℕ) → f.name ≡ h.name → map (instance σ) f.args ≡ h.args → HasAlike tr k h → AnyIn (Shows (equations g) σ f) (facts_at tr k)
  gives σ f h k n a s = if_shows (equations g) tr σ f h k n a s

  has : (σ : Choice) (f h : Fact) (k : ℕ) → f.name ≡ h.name → map (instance σ) f.args ≡ h.args → AreMessages g h.args → AnyIn (Shows (equations g) σ f) (facts_at tr k) → HasAlike tr k h
  has σ f h k n a ms s = shows_if decide g tr m σ f h k n a ms s

  of : (k : ℕ) (f : Fact) → HasAlike tr k f → AreMessages g f.args
  of k f s = shown_messages decide g tr m k f s

  at : (k : ℕ) (f : Fact) → HasAlike tr k f → k < length tr
  at k f s = is_time tr k f s

  pub init_meaning : IsTrueOn g one_start tr ↔ InitOnce (HasAlike tr)
  init_meaning = (
    λ h a b s t. h a (at a init_fact s) b (at b init_fact t) (gives unbound init_fact init_fact a refl refl s, gives unbound init_fact init_fact b refl refl t),
    λ h a p b q s. h a b (has unbound init_fact init_fact a refl refl tt s.0) (has unbound init_fact init_fact b refl refl tt s.1),
  )

  pub eq_meaning : IsTrueOn g each_equal tr ↔ EachEqual (equations g) (HasAlike tr)
  eq_meaning =
      let f = eq_fact (variable X) (variable Y) in
      let σ = λ (x y : Tree). bind Y y (bind X x unbound) in (
        λ h x y a s. let ms = of a (eq_fact x y) s in h x ms.0 y ms.1.0 a (at a (eq_fact x y) s) (gives (σ x y) f (eq_fact x y) a refl refl s),
        λ h x p y q a l s. h x y a (has (σ x y) f (eq_fact x y) a refl refl (p, (q, tt)) s),
      )

  pub noteq_meaning : IsTrueOn g each_unequal tr ↔ EachUnequal (equations g) (HasAlike tr)
  noteq_meaning =
      let f = not_eq_fact (variable X) (variable Y) in
      let σ = λ (x y : Tree). bind Y y (bind X x unbound) in (
        λ h x y a s. let ms = of a (not_eq_fact x y) s in h x ms.0 y ms.1.0 a (at a (not_eq_fact x y) s) (gives (σ x y) f (not_eq_fact x y) a refl refl s),
        λ h x p y q a l s. h x y a (has (σ x y) f (not_eq_fact x y) a refl refl (p, (q, tt)) s),
      )

  pub found_meaning : IsTrueOn g each_found tr ↔ EachFound (HasAlike tr)
  found_meaning =
      let f = is_in_fact (variable X) (variable Y) in
      let new = insert_fact (variable X) (variable Y) in
      let other = insert_fact (variable X) (variable Z) in
      let gone = delete_fact (variable X) in
      let σ = λ (x y : Tree). bind Y y (bind X x unbound) in (
        λ h x y a s.
            let ms = of a (is_in_fact x y) s in
            let r = h x ms.0 y ms.1.0 a (at a (is_in_fact x y) s) (gives (σ x y) f (is_in_fact x y) a refl refl s) in (
              r.0,
              record {
                inserted = has (σ x y) new (insert_fact x y) r.0 refl refl ms r.2.0.0.0;
                before = r.2.0.0.1;
                deletes = λ c d. r.2.0.1 c (at c (delete_fact x) d) (gives (σ x y) gone (delete_fact x) c refl refl d);
                inserts = λ z c d.
                    let ns = of c (insert_fact x z) d in
                    joined c r.0 a (r.2.1 z ns.1.0 c (at c (insert_fact x z) d) (gives (bind Z z (σ x y)) other (insert_fact x z) c refl refl d));
              },
            ),
        λ h x p y q a l s.
            let r = h x y a (has (σ x y) f (is_in_fact x y) a refl refl (p, (q, tt)) s) in
            let w = r.1 in (
              r.0,
              at r.0 (insert_fact x y) w.inserted,
              (
                (
                  (gives (σ x y) new (insert_fact x y) r.0 refl refl w.inserted, w.before),
                  λ c k d. w.deletes c (has (σ x y) gone (delete_fact x) c refl refl (p, tt) d),
                ),
                λ z o c k d. parted c r.0 a (w.inserts z c (has (bind Z z (σ x y)) other (insert_fact x z) c refl refl (p, (o, tt)) d)),
              ),
            ),
      )

  pub missed_meaning : IsTrueOn g each_missed tr ↔ EachMissed (HasAlike tr)
  missed_meaning =
      let f = is_not_set_fact (variable X) in
      let new = insert_fact (variable X) (variable Y) in
      let gone = delete_fact (variable X) in
      let σ = λ (x y : Tree). bind Y y (bind X x unbound) in (
        λ h x y a b s t l.
            let ms = of b (insert_fact x y) t in
            let r = h x ms.0 y ms.1.0 a (at a (is_not_set_fact x) s) b (at b (insert_fact x y) t) ((gives (σ x y) f (is_not_set_fact x) a refl refl s, gives (σ x y) new (insert_fact x y) b refl refl t), l) in
            (r.0, has (σ x y) gone (delete_fact x) r.0 refl refl (ms.0, tt) r.2.0.0, r.2.0.1, r.2.1),
        λ h x p y q a l b k s.
            let r = h x y a b (has (σ x y) f (is_not_set_fact x) a refl refl (p, tt) s.0.0) (has (σ x y) new (insert_fact x y) b refl refl (p, (q, tt)) s.0.1) s.1 in
            (r.0, at r.0 (delete_fact x) r.1, ((gives (σ x y) gone (delete_fact x) r.0 refl refl r.1, r.2), r.3)),
      )

  pub lock_meaning : IsTrueOn g each_lock tr ↔ EachLock (HasAlike tr)
  lock_meaning =
      let first = lock_fact (variable L) (variable X) in
      let second = lock_fact (variable M) (variable X) in
      let free = unlock_fact (variable L) (variable X) in
      let σ = λ (l n x : Tree). bind X x (bind M n (bind L l unbound)) in (
        λ h l n x a b s t o.
            let ms = of a (lock_fact l x) s in
            let ns = of b (lock_fact n x) t in
            let r = h l ms.0 n ns.0 x ms.1.0 a (at a (lock_fact l x) s) b (at b (lock_fact n x) t) ((gives (σ l n x) first (lock_fact l x) a refl refl s, gives (σ l n x) second (lock_fact n x) b refl refl t), o) in
            (r.0, has (σ l n x) free (unlock_fact l x) r.0 refl refl ms r.2.0.0, r.2.0.1, r.2.1),
        λ h l p n q x v a c b k s.
            let r = h l n x a b (has (σ l n x) first (lock_fact l x) a refl refl (p, (v, tt)) s.0.0) (has (σ l n x) second (lock_fact n x) b refl refl (q, (v, tt)) s.0.1) s.1 in
            (r.0, at r.0 (unlock_fact l x) r.1, ((gives (σ l n x) free (unlock_fact l x) r.0 refl refl r.1, r.2), r.3)),
      )

  pub served_meaning : IsTrueOn g each_served tr ↔ EachServed (HasAlike tr)
  served_meaning =
      let f = input_fact (variable X) in
      let f' = input_fact (variable Y) in
      let k = k_fact (variable X) in
      let k' = k_fact (variable Y) in
      let σ = λ (x : Tree). bind X x unbound in (
        λ h x a s.
            let ms = of a (input_fact x) s in
            let r = h x ms.0 a (at a (input_fact x) s) (gives (σ x) f (input_fact x) a refl refl s) in (
              r.0,
              record {
                known = has (σ x) k (k_fact x) r.0 refl refl ms r.2.0.0.0.0;
                before = r.2.0.0.0.1;
                last = λ y c d. let ns = of c (k_fact y) d in joined c r.0 a (r.2.0.0.1 y ns.0 c (at c (k_fact y) d) (gives (bind Y y (σ x)) k' (k_fact y) c refl refl d));
                events = λ c d. r.2.0.1 c (at c event_fact d) (gives (σ x) event_fact event_fact c refl refl d);
                inputs = λ y c d. let ns = of c (input_fact y) d in joined_above c r.0 a (r.2.1 y ns.0 c (at c (input_fact y) d) (gives (bind Y y (σ x)) f' (input_fact y) c refl refl d));
              },
            ),
        λ h x p a l s.
            let r = h x a (has (σ x) f (input_fact x) a refl refl (p, tt) s) in
            let w = r.1 in (
              r.0,
              at r.0 (k_fact x) w.known,
              (
                (
                  (
                    (gives (σ x) k (k_fact x) r.0 refl refl w.known, w.before),
                    λ y o c l d. parted c r.0 a (w.last y c (has (bind Y y (σ x)) k' (k_fact y) c refl refl (o, tt) d)),
                  ),
                  λ c l d. w.events c (has (σ x) event_fact event_fact c refl refl tt d),
                ),
                λ y o c l d. parted_above c r.0 a (w.inputs y c (has (bind Y y (σ x)) f' (input_fact y) c refl refl (o, tt) d)),
              ),
            ),
      )

pub meaning_law : NormalTermsDecide → MeaningLaw
meaning_law decide Init g tr m = init_meaning decide g tr m
meaning_law decide Eq g tr m = eq_meaning decide g tr m
meaning_law decide NotEq g tr m = noteq_meaning decide g tr m
meaning_law decide In g tr m = found_meaning decide g tr m
meaning_law decide NotIn g tr m = missed_meaning decide g tr m
meaning_law decide Lock g tr m = lock_meaning decide g tr m
meaning_law decide InEv g tr m = served_meaning decide g tr m
