-- What stays sound where a clause comes, a clause waits, and a number becomes known.
use Rattle.std.proofs.Common.{◌≡◌, ◌≤◌, ℕ, List, [], ◌∷◌, ◌++◌, length, Some, sym, ap, ◌∙◌, ◌⊎◌, inl, inr, arith, subst}
use Rattle.std.specs.Prelude.{slice_get, Vec}
use Rattle.std.specs.declared.alloc.Global.{Global}
use Rattle.std.proofs.lemmas.Option.{slice_get_within}
use Rattle.std.proofs.lemmas.List.{length_push}
use Rattle.sap_derive.specs.code.Lines.{premises_of}
use Rattle.sap_derive.specs.code.Closed.{IsWaitAt, IsWait, IsStep, IsSoundOf, KeepsKnown, Learns, nothing, one}
use Rattle.sap_derive.specs.code.Listed.{IsListed, AreListed, StandOnce}
use Rattle.sap_derive.specs.declared.clause.Clause.{Clause}
use Rattle.sap_derive.specs.declared.grounds.Wait.{Wait}
use Rattle.sap_derive.specs.declared.grounds.Grounds.{Grounds}
use Rattle.sap_derive.specs.declared.grounds.Grounds.TheVariants.{Given, By}
use Rattle.sap_derive.proofs.Gets.{get-more, get-last, get-last_cases}

-- what stands in a list stands there where more is put last
pub listed-more : (known : List ℕ) (n m : ℕ) → IsListed known m → IsListed (known ++ n ∷ []) m
listed-more known n m l = (l.0, get-more known (n ∷ []) l.0 m l.1)

abbrev KeepsClauses : List Clause → List Clause → Type 0
KeepsClauses old new = (c : ℕ) (k : Clause) → slice_get old c ≡ Some k → slice_get new c ≡ Some k

module _ (cs : List Clause) (known : List ℕ) (ways : List Grounds) (waiting : List (Vec Wait Global)) (p d l : ℕ) (sound : IsSoundOf cs known ways waiting p d l) where
  pub sound-more_clauses : (ds : List Clause) → KeepsClauses cs ds → length cs ≤ length ds → IsSoundOf ds known ways waiting p d l
  sound-more_clauses ds kept more = record {
    count = sound.count;
    once = sound.once;
    steps = λ rank c e. let s = sound.steps rank c e in record { clause = s.clause; is = kept c s.clause s.is; gives = s.gives; before = s.before };
    waits = λ n k w a. let s = sound.waits n k w a in record { clause = s.clause; is = kept w.clause s.clause s.is; at = s.at; before = s.before };
    placed_within = (let h = sound.placed_within in omega arith);
    done_within = sound.done_within;
    none_looked = sound.none_looked;
  }

  pub sound-parked : (new : List (Vec Wait Global)) (n : ℕ) (wait : Wait) → ((m k : ℕ) (w : Wait) → IsWaitAt new m k w → IsWaitAt waiting m k w ⊎ ((m ≡ n) × (w ≡ wait)))
      → IsWait cs known n wait → IsSoundOf cs known ways new p d l
  sound-parked new n wait only is = record {
    count = sound.count;
    once = sound.once;
    steps = sound.steps;
    waits = λ m k w a. at m k w (only m k w a);
    placed_within = sound.placed_within;
    done_within = sound.done_within;
    none_looked = sound.none_looked;
  } where
    at : (m k : ℕ) (w : Wait) → IsWaitAt waiting m k w ⊎ ((m ≡ n) × (w ≡ wait)) → IsWait cs known m w
    at m k w (inl a) = sound.waits m k w a
    at m k w (inr e) = subst (λ (i : ℕ). IsWait cs known i w) (sym e.0) (subst (λ (x : Wait). IsWait cs known n x) (sym e.1) is)

  -- how a number became known by a way
  abbrev Comes : ℕ → Grounds → Type 0
  Comes n way = (c : ℕ) → way ≡ By c → (k : Clause) × (slice_get cs c ≡ Some k) × (k.gives ≡ n) × AreListed known (premises_of k.line)

  sound-one : (n : ℕ) (way : Grounds) → ¬ IsListed known n → Comes n way → IsSoundOf cs (known ++ n ∷ []) (ways ++ way ∷ []) waiting p d l
  sound-one n way new comes = record {
    count = (let a = length_push ways way in let b = length_push known n in let h = sound.count in omega arith);
    once = once;
    steps = steps;
    waits = λ m k w a. let s = sound.waits m k w a in record { clause = s.clause; is = s.is; at = s.at; before = λ i j q e. listed-more known n j (s.before i j q e) };
    placed_within = sound.placed_within;
    done_within = (let b = length_push known n in let h = sound.done_within in omega arith);
    none_looked = λ h. (let b = length_push known n in let q = sound.done_within in absurd (omega arith));
  } where
    once : StandOnce (known ++ n ∷ [])
    once i j m a b = go (get-last_cases known n i m a) (get-last_cases known n j m b) where
      go : (slice_get known i ≡ Some m) ⊎ ((i ≡ length known) × (m ≡ n)) → (slice_get known j ≡ Some m) ⊎ ((j ≡ length known) × (m ≡ n)) → i ≡ j
      go (inl x) (inl y) = sound.once i j m x y
      go (inl x) (inr y) = absurd (new (i, x ∙ ap Some y.1))
      go (inr x) (inl y) = absurd (new (j, y ∙ ap Some x.1))
      go (inr x) (inr y) = x.0 ∙ sym y.0

    steps : (rank c : ℕ) → slice_get (ways ++ way ∷ []) rank ≡ Some (By c) → IsStep cs (known ++ n ∷ []) rank c
    steps rank c e = go (get-last_cases ways way rank (By c) e) where
      go : (slice_get ways rank ≡ Some (By c)) ⊎ ((rank ≡ length ways) × (By c ≡ way)) → IsStep cs (known ++ n ∷ []) rank c
      go (inl x) =
          let s = sound.steps rank c x in
          record {
            clause = s.clause;
            is = s.is;
            gives = get-more known (n ∷ []) rank s.clause.gives s.gives;
            before = λ k m q. let b = s.before k m q in (b.0, b.1, get-more known (n ∷ []) b.0 m b.2);
          }
      go (inr x) =
          let k = comes c (sym x.1) in
          let here : rank ≡ length known = x.0 ∙ sound.count in
          record {
            clause = k.0;
            is = k.1;
            gives = subst (λ (i : ℕ). slice_get (known ++ n ∷ []) i ≡ Some k.0.gives) (sym here) (get-last known n ∙ ap Some (sym k.2));
            before = λ i m q. let b = k.3 i m q in let w = slice_get_within known b.0 m b.1 in (b.0, omega arith, get-more known (n ∷ []) b.0 m b.1);
          }

  pub sound-learned : (new_known : List ℕ) (new_ways : List Grounds) (n : ℕ) (way : Grounds) → ¬ IsListed known n → Comes n way → Learns known ways n way new_known new_ways
      → IsSoundOf cs new_known new_ways waiting p d l
  sound-learned _ _ n way new comes (nothing e f) = rw (e, f) sound
  sound-learned _ _ n way new comes (one e f) = rw (e, f) (sound-one n way new comes)

-- what is learned stays, and ranks behind
pub learned-kept : (known new_known : List ℕ) (ways new_ways : List Grounds) (n : ℕ) (way : Grounds) → Learns known ways n way new_known new_ways → KeepsKnown known new_known
learned-kept known _ ways _ n way (nothing e f) k m h = rw e h
learned-kept known _ ways _ n way (one e f) k m h = rw e (get-more known (n ∷ []) k m h)

pub learned-later : (known new_known : List ℕ) (ways new_ways : List Grounds) (n : ℕ) (way : Grounds) → Learns known ways n way new_known new_ways
    → (k m : ℕ) → slice_get new_known k ≡ Some m → (slice_get known k ≡ Some m) ⊎ (length known ≤ k)
learned-later known _ ways _ n way (nothing e f) k m h = inl (subst (λ (ks : List ℕ). slice_get ks k ≡ Some m) e h)
learned-later known _ ways _ n way (one e f) k m h =
    elim (get-last_cases known n k m (subst (λ (ks : List ℕ). slice_get ks k ≡ Some m) e h)) [ inl x ↦ inl x | inr x ↦ inr (omega (arith, x.0)) ]

-- what was given after, was given before, or is what was learned so
pub learned-given : (known new_known : List ℕ) (ways new_ways : List Grounds) (n : ℕ) (way : Grounds) → length ways ≡ length known → Learns known ways n way new_known new_ways
    → (rank m : ℕ) → slice_get new_known rank ≡ Some m → slice_get new_ways rank ≡ Some Given
    → ((slice_get known rank ≡ Some m) × (slice_get ways rank ≡ Some Given)) ⊎ ((m ≡ n) × (way ≡ Given))
learned-given known _ ways _ n way count (nothing e f) rank m h g =
    inl (subst (λ (ks : List ℕ). slice_get ks rank ≡ Some m) e h, subst (λ (ws : List Grounds). slice_get ws rank ≡ Some Given) f g)
learned-given known _ ways _ n way count (one e f) rank m h g =
    go (get-last_cases known n rank m (subst (λ (ks : List ℕ). slice_get ks rank ≡ Some m) e h)) (get-last_cases ways way rank Given (subst (λ (ws : List Grounds). slice_get ws rank ≡ Some Given) f g)) where
      go : (slice_get known rank ≡ Some m) ⊎ ((rank ≡ length known) × (m ≡ n)) → (slice_get ways rank ≡ Some Given) ⊎ ((rank ≡ length ways) × (Given ≡ way))
          → ((slice_get known rank ≡ Some m) × (slice_get ways rank ≡ Some Given)) ⊎ ((m ≡ n) × (way ≡ Given))
      go (inl x) (inl y) = inl (x, y)
      go (inl x) (inr y) = let w = slice_get_within known rank m x in absurd (omega (arith, y.0))
      go (inr x) (inl y) = let w = slice_get_within ways rank Given y in absurd (omega (arith, x.0))
      go (inr x) (inr y) = inr (x.1, sym y.1)
