-- Splitting a list at the first element that fails a test, and at the first `*/`.
use Rattle.std.proofs.Common.{◌≡◌, ◌≤◌, ◌<◌, ◌+◌, ℕ, Bool, true, false, List, [], ◌∷◌, ◌++◌, length, drop, Option, Some, None, refl, ap, arith}
use Rattle.std.specs.Prelude.{◌&&◌, option_map, slice_index_or}
use Rattle.std.specs.List.{list_all, prefix_len}
use Rattle.std.proofs.lemmas.Grind.{common_steps}
use Rattle.sap_text.specs.Tokens.{starts_two, Stops}
use Rattle.sap_text.specs.code.Front.{close_at}

pub record Split (f : ℕ → Bool) (z : List ℕ) : Type 0 where
  pub front : List ℕ
  pub rest : List ℕ
  pub whole : z ≡ front ++ rest
  pub counts : length front ≡ prefix_len f z
  pub passes : list_all f front ≡ true
  pub stops : Stops f rest

pub split : (f : ℕ → Bool) (z : List ℕ) → Split f z
split f [] = record { front = []; rest = []; whole = refl; counts = refl; passes = refl; stops = tt }
split f (x ∷ z) = split_step f x z (f x) refl (split f z)
  where
    split_step : (f : ℕ → Bool) (x : ℕ) (z : List ℕ) (b : Bool) → f x ≡ b → Split f z → Split f (x ∷ z)
    split_step f x z true e s = record { front = x ∷ s.front; rest = s.rest; whole = ap (λ y. x ∷ y) s.whole; counts = rw e (omega (arith, s.counts)); passes = rw e s.passes; stops = s.stops }
    split_step f x z false e s = record { front = []; rest = x ∷ z; whole = refl; counts = rw e refl; passes = refl; stops = e }

-- a run that stops is the first
pub run_is : (f : ℕ → Bool) (p b : List ℕ) → list_all f p ≡ true → Stops f b → prefix_len f (p ++ b) ≡ length p
run_is f [] [] all stops = refl
run_is f [] (x ∷ b) all stops = rw stops refl
run_is f (x ∷ p) b all stops =
    let here : f x ≡ true = both_left (f x) (list_all f p) all in
    rw (here, run_is f p b (both_right (f x) (list_all f p) all) stops) (omega arith)
  where
    both_left : (a b : Bool) → (a && b) ≡ true → a ≡ true
    both_left true b e = refl
    both_left false b e = e

    both_right : (a b : Bool) → (a && b) ≡ true → b ≡ true
    both_right true b e = e
    both_right false b e = absurd (cc)

-- a front that passes is not longer than the run
pub run_most : (f : ℕ → Bool) (q c : List ℕ) → list_all f q ≡ true → length q ≤ prefix_len f (q ++ c)
run_most f [] c all = omega arith
run_most f (x ∷ q) c all = grind (arith, common_steps, run_most f q c)

-- two splits of one list at one length are one
pub parts : (p q b c : List ℕ) → p ++ b ≡ q ++ c → length p ≡ length q → (p ≡ q) × (b ≡ c)
parts [] [] b c e n = (refl, e)
parts [] (y ∷ q) b c e n = absurd (omega (arith, n))
parts (x ∷ p) [] b c e n = absurd (omega (arith, n))
parts (x ∷ p) (y ∷ q) b c e n =
    let tails : p ++ b ≡ q ++ c = cc in
    let more = parts p q b c tails (omega (arith, n)) in
    let heads : x ≡ y = cc in
    let fronts : p ≡ q = more.0 in
    (cc, more.1)

-- a turn of the search for `*/`
moved : (k : ℕ) (o : Option ℕ) → option_map (λ n. n + k) (option_map (λ n. n + 1) o) ≡ option_map (λ n. n + (k + 1)) o
moved k None = refl
moved k (Some n) = let e : (n + 1) + k ≡ n + (k + 1) = omega arith in ap Some e

pub close_turn : (x : ℕ) (w : List ℕ) (k : ℕ) → starts_two 42 47 (x ∷ w) ≡ false → option_map (λ n. n + k) (close_at (x ∷ w)) ≡ option_map (λ n. n + (k + 1)) (close_at w)
close_turn x w k e = rw e (moved k (close_at w))

pub close_step : (z : List ℕ) (k : ℕ) → k < length z → starts_two 42 47 (drop k z) ≡ false
    → option_map (λ n. n + k) (close_at (drop k z)) ≡ option_map (λ n. n + (k + 1)) (close_at (drop (k + 1) z))
close_step z k lt = let e : drop k z ≡ slice_index_or z k 0 ∷ drop (k + 1) z = grind (arith, common_steps) in rw e (λ f. close_turn (slice_index_or z k 0) (drop (k + 1) z) k f)
