-- What clauses that were looked at have to do with what is known: they have given their numbers, or wait.
use Rattle.std.proofs.Common.{◌≡◌, ◌<◌, ◌≤◌, ◌+◌, ℕ, List, length, Some, refl, sym, ap, ◌∙◌, ◌⊎◌, inl, inr, arith, subst}
use Rattle.std.specs.Prelude.{slice_get, Vec}
use Rattle.std.specs.declared.alloc.Global.{Global}
use Rattle.std.proofs.lemmas.Option.{slice_get_within}
use Rattle.sap_derive.specs.code.Lines.{premises_of}
use Rattle.sap_derive.specs.code.Closed.{IsWaitAt, KeepsWaits, IsSound, IsUsed, IsWaiting, IsAhead, AreSettled, IsClosure, KeepsKnown, Grows, Advances, IsClosedUnder}
use Rattle.sap_derive.specs.code.Listed.{IsListed}
use Rattle.sap_derive.specs.declared.clause.Clause.{Clause}
use Rattle.sap_derive.specs.declared.closure.Closure.{Closure}
use Rattle.sap_derive.specs.declared.grounds.Wait.{Wait}
use Rattle.sap_derive.proofs.Gets.{same-or_not}

-- the clause is settled
abbrev pub Settled : List Clause → List ℕ → List (Vec Wait Global) → ℕ → ℕ → ℕ → Type 0
Settled cs known waiting done looked c = IsUsed cs known c ⊎ IsAhead known waiting done looked c

-- what is settled stays so, as more becomes known and more waits
pub settled-kept : (cs ds : List Clause) (known new_known : List ℕ) (waiting new_waiting : List (Vec Wait Global)) (done looked : ℕ)
    → ((c : ℕ) (k : Clause) → slice_get cs c ≡ Some k → slice_get ds c ≡ Some k)
    → done ≤ length known → (length known ≤ done → looked ≡ 0) → KeepsKnown known new_known
    → ((k n : ℕ) → slice_get new_known k ≡ Some n → (slice_get known k ≡ Some n) ⊎ (length known ≤ k)) → KeepsWaits waiting new_waiting
    → (c : ℕ) → Settled cs known waiting done looked c → Settled ds new_known new_waiting done looked c
settled-kept cs ds known new_known waiting new_waiting done looked clauses within none kept later waits c (inl u) =
    inl (record { clause = u.clause; is = clauses c u.clause u.is; gives = (u.gives.0, kept u.gives.0 u.clause.gives u.gives.1) })
settled-kept cs ds known new_known waiting new_waiting done looked clauses within none kept later waits c (inr a) =
    inr (record { number = a.number; index = a.index; wait = a.wait; at = waits a.number a.index a.wait a.at; clause = a.clause; ahead = ahead }) where
      ahead : (rank : ℕ) → slice_get new_known rank ≡ Some a.number → (done < rank) ⊎ ((done ≡ rank) × (looked ≤ a.index))
      ahead rank e = go (later rank a.number e) (same-or_not done rank) where
        go : (slice_get known rank ≡ Some a.number) ⊎ (length known ≤ rank) → (done ≡ rank) ⊎ ¬ (done ≡ rank) → (done < rank) ⊎ ((done ≡ rank) × (looked ≤ a.index))
        go (inl old) _ = a.ahead rank old
        go (inr behind) (inl same) = let none_yet = none (omega (arith, behind)) in inr (same, omega arith)
        go (inr behind) (inr other) = inl (omega arith)

pub settled-advanced : (old new : Closure) → IsSound old → Advances old new → AreSettled old → AreSettled new
settled-advanced old new sound adv settled c l =
    let was : c < old.placed = (let e = adv.placed in omega arith) in
    rw (adv.done, adv.looked)
    (settled-kept old.clauses new.clauses old.known new.known old.waiting.items new.waiting.items old.done old.looked
    (λ d k e. subst (λ (cs : List Clause). slice_get cs d ≡ Some k) (sym adv.grows.clauses) e)
    sound.done_within sound.none_looked adv.grows.known adv.later adv.kept c (settled c was))

-- what gave its number or waits at one that isn't known is settled, whatever has been looked at
pub settled-now : (cs : List Clause) (known : List ℕ) (waiting : List (Vec Wait Global)) (done looked c : ℕ) → IsUsed cs known c ⊎ IsWaiting known waiting c → Settled cs known waiting done looked c
settled-now cs known waiting done looked c (inl u) = inl u
settled-now cs known waiting done looked c (inr w) =
    inr (record { number = w.number; index = w.index; wait = w.wait; at = w.at; clause = w.clause; ahead = λ rank e. absurd (w.unknown (rank, e)) })

-- two waits at one index are one
one-wait : (waiting : List (Vec Wait Global)) (n k : ℕ) (v w : Wait) → IsWaitAt waiting n k v → IsWaitAt waiting n k w → v ≡ w
one-wait waiting n k v w a b =
    let g = a.at_number in
    let h = b.at_number in
    let same : a.waits ≡ b.waits = cc in
    let x = subst (λ (ws : Vec Wait Global). slice_get ws.items k ≡ Some v) same a.at_index in
    let y = b.at_index in
    cc

module _ (cs : List Clause) (known : List ℕ) (waiting : List (Vec Wait Global)) (done looked n : ℕ) (here : slice_get known done ≡ Some n) where
  -- one more wait has been looked at
  pub settled-looked : (w : Wait) → IsWaitAt waiting n looked w → IsUsed cs known w.clause ⊎ IsWaiting known waiting w.clause
      → (c : ℕ) → Settled cs known waiting done looked c → Settled cs known waiting done (looked + 1) c
  settled-looked w at now c (inl u) = inl u
  settled-looked w at now c (inr a) = go (same-or_not a.number n) (same-or_not a.index looked) where
    ahead_then : (¬ ((a.number ≡ n) × (a.index ≡ looked))) → (rank : ℕ) → slice_get known rank ≡ Some a.number → (done < rank) ⊎ ((done ≡ rank) × (looked + 1 ≤ a.index))
    ahead_then other rank e = by (a.ahead rank e) (same-or_not a.index looked) where
      by : (done < rank) ⊎ ((done ≡ rank) × (looked ≤ a.index)) → (a.index ≡ looked) ⊎ ¬ (a.index ≡ looked) → (done < rank) ⊎ ((done ≡ rank) × (looked + 1 ≤ a.index))
      by (inl l) _ = inl l
      by (inr r) (inl same) =
          let there = subst (λ (i : ℕ). slice_get known i ≡ Some n) r.0 here in
          let number : a.number ≡ n = cc in
          absurd (other (number, same))
      by (inr r) (inr differ) = inr (r.0, omega (arith, r.1))

    still : ¬ ((a.number ≡ n) × (a.index ≡ looked)) → Settled cs known waiting done (looked + 1) c
    still other = inr (record { number = a.number; index = a.index; wait = a.wait; at = a.at; clause = a.clause; ahead = ahead_then other })

    go : (a.number ≡ n) ⊎ ¬ (a.number ≡ n) → (a.index ≡ looked) ⊎ ¬ (a.index ≡ looked) → Settled cs known waiting done (looked + 1) c
    go (inr other) _ = still (λ (h : (a.number ≡ n) × (a.index ≡ looked)). other h.0)
    go (inl number) (inr other) = still (λ (h : (a.number ≡ n) × (a.index ≡ looked)). other h.1)
    go (inl number) (inl index) =
        let there : IsWaitAt waiting n looked a.wait = subst (λ (i : ℕ). IsWaitAt waiting n i a.wait) index (subst (λ (i : ℕ). IsWaitAt waiting i a.index a.wait) number a.at) in
        let same = one-wait waiting n looked a.wait w there at in
        let clause : w.clause ≡ c = sym (ap (λ (x : Wait). x.clause) same) ∙ a.clause in
        subst (λ (i : ℕ). Settled cs known waiting done (looked + 1) i) clause (settled-now cs known waiting done (looked + 1) w.clause now)

  -- all that wait at the number have been looked at
  pub settled-done : ((k : ℕ) (w : Wait) → IsWaitAt waiting n k w → k < looked) → (c : ℕ) → Settled cs known waiting done looked c → Settled cs known waiting (done + 1) 0 c
  settled-done all c (inl u) = inl u
  settled-done all c (inr a) = inr (record { number = a.number; index = a.index; wait = a.wait; at = a.at; clause = a.clause; ahead = ahead }) where
    ahead : (rank : ℕ) → slice_get known rank ≡ Some a.number → (done + 1 < rank) ⊎ ((done + 1 ≡ rank) × (0 ≤ a.index))
    ahead rank e = go (a.ahead rank e) (same-or_not (done + 1) rank) where
      go : (done < rank) ⊎ ((done ≡ rank) × (looked ≤ a.index)) → (done + 1 ≡ rank) ⊎ ¬ (done + 1 ≡ rank) → (done + 1 < rank) ⊎ ((done + 1 ≡ rank) × (0 ≤ a.index))
      go (inl l) (inl same) = inr (same, omega arith)
      go (inl l) (inr other) = inl (omega arith)
      go (inr r) _ =
          let there = subst (λ (i : ℕ). slice_get known i ≡ Some n) r.0 here in
          let number : a.number ≡ n = cc in
          let low = all a.index a.wait (subst (λ (i : ℕ). IsWaitAt waiting i a.index a.wait) number a.at) in
          absurd (omega (arith, r.1))

-- where all has been looked at, what is known is closed
pub closed : (s : Closure) → IsClosure s → s.placed ≡ length s.clauses → length s.known ≤ s.done → IsClosedUnder s.clauses s.known
closed s is placed done c clause e all = go (is.settled c within) where
  within : c < s.placed
  within = (let l = slice_get_within s.clauses c clause e in omega arith)

  go : IsUsed s.clauses s.known c ⊎ IsAhead s.known s.waiting.items s.done s.looked c → IsListed s.known clause.gives
  go (inl u) =
      let g = u.is in
      let same : u.clause ≡ clause = cc in
      subst (λ (k : Clause). IsListed s.known k.gives) same u.gives
  go (inr a) =
      let w = is.sound.waits a.number a.index a.wait a.at in
      let there = subst (λ (i : ℕ). slice_get s.clauses i ≡ Some w.clause) a.clause w.is in
      let same : w.clause ≡ clause = cc in
      let l = all a.wait.place a.number (subst (λ (k : Clause). slice_get (premises_of k.line) a.wait.place ≡ Some a.number) same w.at) in
      let low = slice_get_within s.known l.0 a.number l.1 in
      elim (a.ahead l.0 l.1) [ inl h ↦ absurd (omega arith) | inr h ↦ absurd (omega (arith, h.0)) ]

-- growing
pub grows-same : (s : Closure) → Grows s s
grows-same s = record { clauses = refl; known = λ k n e. e; given = λ n g. g }

pub grows-then : (s t u : Closure) → Grows s t → Grows t u → Grows s u
grows-then s t u g h = record { clauses = h.clauses ∙ g.clauses; known = λ k n e. h.known k n (g.known k n e); given = λ n x. g.given n (h.given n x) }
