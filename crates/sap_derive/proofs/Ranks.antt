-- The ranks that a derivation needs.
use Rattle.std.proofs.Common.{◌≡◌, ◌<◌, ◌≤◌, ◌+◌, ℕ, List, [], ◌∷◌, take, length, Some, refl, sym, ◌⊎◌, inl, inr, arith, subst}
use Rattle.std.specs.Prelude.{slice_get}
use Rattle.std.proofs.lemmas.Option.{slice_get_within}
use Rattle.sap_derive.specs.code.Lines.{premises_of}
use Rattle.sap_derive.specs.code.Closed.{IsSound}
use Rattle.sap_derive.specs.code.Listed.{IsListed, StandOnce}
use Rattle.sap_derive.specs.code.Needed.{StandsOn, IsNeeded, goal_itself, premise, IsNewRank, IsCovered, IsNeededNew, AreNeeded, AreNeededTo}
use Rattle.sap_derive.specs.declared.clause.Clause.{Clause}
use Rattle.sap_derive.specs.declared.closure.Closure.{Closure}
use Rattle.sap_derive.proofs.Gets.{same-or_not, got-within}

-- what a rank stands on became known before
pub stands-below : (s : Closure) (entries : List ℕ) → IsSound s → (rank j : ℕ) → StandsOn s entries rank j → j < rank
stands-below s entries sound rank j on =
    let step = sound.steps rank on.by.index on.by.way in
    let a = step.is in
    let b = on.by.is in
    let same : step.clause ≡ on.clause = cc in
    let before = step.before on.place on.number (subst (λ (k : Clause). slice_get (premises_of k.line) on.place ≡ Some on.number) (sym same) on.premise) in
    let e = sound.once before.0 j on.number before.2 on.at in
    subst (λ (i : ℕ). i < rank) e before.1

-- none of them
pub none-taken : (xs : List ℕ) → take 0 xs ≡ []
none-taken [] = refl
none-taken (x ∷ xs) = refl

-- where there is none, none stands twice
pub none-twice : StandOnce []
none-twice i j n a b = absurd (cc)

-- what is covered stays so, as ranks come
pub cover-kept : (known entries old new : List ℕ) → ((k j : ℕ) → slice_get old k ≡ Some j → slice_get new k ≡ Some j) → (n : ℕ) → IsCovered known entries old n → IsCovered known entries new n
cover-kept known entries old new kept n (inl l) = inl l
cover-kept known entries old new kept n (inr h) = inr (λ j e. let l = h j e in (l.0, kept l.0 j l.1))

module _ (s : Closure) (entries : List ℕ) (goal : ℕ) (sound : IsSound s) where
  -- the goal's rank alone has come, if its number is no entry
  pub needed-first : (n : ℕ) (ranks : List ℕ) → slice_get s.known goal ≡ Some n → ((j : ℕ) → IsListed ranks j → IsListed [] j ⊎ IsNewRank s.known entries n j) → IsCovered s.known entries ranks n
      → StandOnce ranks → AreNeededTo s entries goal ranks 0
  needed-first n ranks at only covered once = record {
    itself = λ m e. let same : n ≡ m = cc in subst (λ (i : ℕ). IsCovered s.known entries ranks i) same covered;
    needed = λ j l. one j (only j l);
    closed = λ k rank j m l e on h. absurd (omega arith);
    once = once;
  } where
    one : (j : ℕ) → IsListed [] j ⊎ IsNewRank s.known entries n j → IsNeededNew s entries goal j
    one j (inl l) = let e = l.1 in absurd (cc)
    one j (inr x) =
        let same = sound.once goal j n at x.at in
        record {
          below = slice_get_within s.known j n x.at;
          needed = subst (λ (i : ℕ). IsNeeded s entries goal i) same goal_itself;
          new = λ m e. (let h = x.at in let q : n ≡ m = cc in subst (λ (i : ℕ). ¬ IsListed entries i) q x.new);
        }

  -- what one rank more stands on has come
  pub needed-next : (old new : List ℕ) (k rank : ℕ) → slice_get old k ≡ Some rank → ((i j : ℕ) → slice_get old i ≡ Some j → slice_get new i ≡ Some j)
      → ((j : ℕ) → IsListed new j → IsListed old j ⊎ (StandsOn s entries rank j × ((n : ℕ) → slice_get s.known j ≡ Some n → ¬ IsListed entries n)))
      → ((j n : ℕ) → StandsOn s entries rank j → slice_get s.known j ≡ Some n → IsCovered s.known entries new n)
      → (StandOnce old → StandOnce new) → AreNeededTo s entries goal old k → AreNeededTo s entries goal new (k + 1)
  needed-next old new k rank at kept only each once a = record {
    itself = λ n e. cover-kept s.known entries old new kept n (a.itself n e);
    needed = λ j l. come j (only j l);
    closed = closed;
    once = once a.once;
  } where
    come : (j : ℕ) → IsListed old j ⊎ (StandsOn s entries rank j × ((n : ℕ) → slice_get s.known j ≡ Some n → ¬ IsListed entries n)) → IsNeededNew s entries goal j
    come j (inl l) = a.needed j l
    come j (inr x) =
        let on = x.0 in
        record { below = slice_get_within s.known j on.number on.at; needed = premise rank j (a.needed rank (k, at)).needed on; new = x.1 }

    within : k < length old
    within = slice_get_within old k rank at

    closed : (i r j n : ℕ) → i < k + 1 → slice_get new i ≡ Some r → StandsOn s entries r j → slice_get s.known j ≡ Some n → IsCovered s.known entries new n
    closed i r j n l e on h = go (same-or_not i k) where
      go : (i ≡ k) ⊎ ¬ (i ≡ k) → IsCovered s.known entries new n
      go (inl q) =
          let here = kept k rank at in
          let there = subst (λ (m : ℕ). slice_get new m ≡ Some r) q e in
          let same : r ≡ rank = cc in
          each j n (subst (λ (m : ℕ). StandsOn s entries m j) same on) h
      go (inr q) =
          let was = got-within old i (omega (arith, within)) in
          let now = kept i was.0 was.1 in
          let same : was.0 ≡ r = cc in
          cover-kept s.known entries old new kept n (a.closed i r j n (omega arith) (subst (λ (m : ℕ). slice_get old i ≡ Some m) same was.1) on h)

  -- what all of them stand on has come
  pub needed-all : (ranks : List ℕ) (count : ℕ) → length ranks ≤ count → AreNeededTo s entries goal ranks count → AreNeeded s entries goal ranks
  needed-all ranks count all a = record {
    itself = a.itself;
    needed = a.needed;
    closed = λ rank j n l on e. let w = slice_get_within ranks l.0 rank l.1 in a.closed l.0 rank j n (omega arith) l.1 on e;
  }

  -- in whatever order they are
  pub needed-same : (ranks order : List ℕ) → ((n : ℕ) → (IsListed order n → IsListed ranks n) × (IsListed ranks n → IsListed order n)) → AreNeeded s entries goal ranks → AreNeeded s entries goal order
  needed-same ranks order same a = record {
    itself = λ n e. covered n (a.itself n e);
    needed = λ rank l. a.needed rank ((same rank).0 l);
    closed = λ rank j n l on e. covered n (a.closed rank j n ((same rank).0 l) on e);
  } where
    covered : (n : ℕ) → IsCovered s.known entries ranks n → IsCovered s.known entries order n
    covered n (inl l) = inl l
    covered n (inr h) = inr (λ j e. (same j).1 (h j e))
