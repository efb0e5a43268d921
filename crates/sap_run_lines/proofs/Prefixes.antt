-- Bytes up to the first that fails a test.
use Rattle.std.proofs.Common.{◌≡◌, ℕ, suc, ◌+◌, Bool, true, false, List, [], ◌∷◌, ◌++◌, length, take, drop, refl, ap, arith}
use Rattle.std.specs.Prelude.{if◌then◌else◌}
use Rattle.std.specs.List.{list_all, prefix_len}
use Rattle.std.proofs.lemmas.List.Folds.{length-prefix_len}
use Rattle.sap_text.specs.Tokens.{Stops}
use Rattle.sap_terms.proofs.PlainLaws.Tests.{and_left, and_right}
use Rattle.sap_run_lines.specs.code.Taking.{front, back}

one_more : (n : ℕ) → 1 + n ≡ suc n
one_more n = omega arith

pub front_back : (f : ℕ → Bool) (z : List ℕ) → z ≡ front f z ++ back f z
front_back f [] = refl
front_back f (x ∷ z) = at (f x) (front_back f z) where
  at : (b : Bool) → z ≡ front f z ++ back f z → x ∷ z ≡ take (if b then 1 + prefix_len f z else 0) (x ∷ z) ++ drop (if b then 1 + prefix_len f z else 0) (x ∷ z)
  at true e = rw (one_more (prefix_len f z)) (ap (λ y. x ∷ y) e)
  at false e = refl

pub front_more : (f : ℕ → Bool) (x : ℕ) (z : List ℕ) → f x ≡ true → front f (x ∷ z) ≡ x ∷ front f z
front_more f x z e = at (f x) e where
  at : (b : Bool) → b ≡ true → take (if b then 1 + prefix_len f z else 0) (x ∷ z) ≡ x ∷ front f z
  at true e = rw (one_more (prefix_len f z)) refl
  at false e = absurd (cc)

pub front_passes : (f : ℕ → Bool) (z : List ℕ) → list_all f (front f z) ≡ true
front_passes f [] = refl
front_passes f (x ∷ z) = at (f x) refl (front_passes f z) where
  passes : (y : List ℕ) → f x ≡ true → list_all f y ≡ true → list_all f (x ∷ y) ≡ true
  passes y e all = rw e all

  at : (b : Bool) → f x ≡ b → list_all f (front f z) ≡ true → list_all f (take (if b then 1 + prefix_len f z else 0) (x ∷ z)) ≡ true
  at true e all = rw (one_more (prefix_len f z)) (passes (front f z) e all)
  at false e all = refl

pub back_stops : (f : ℕ → Bool) (z : List ℕ) → Stops f (back f z)
back_stops f [] = tt
back_stops f (x ∷ z) = at (f x) refl (back_stops f z) where
  at : (b : Bool) → f x ≡ b → Stops f (back f z) → Stops f (drop (if b then 1 + prefix_len f z else 0) (x ∷ z))
  at true e s = rw (one_more (prefix_len f z)) s
  at false e s = e

-- bytes that pass, before one that doesn't
pub run_is : (f : ℕ → Bool) (p b : List ℕ) → list_all f p ≡ true → Stops f b → prefix_len f (p ++ b) ≡ length p
run_is f [] [] all stops = refl
run_is f [] (x ∷ b) all stops = rw stops refl
run_is f (x ∷ p) b all stops =
    let here : f x ≡ true = and_left (f x) (list_all f p) all in
    rw (here, run_is f p b (and_right (f x) (list_all f p) all) stops) (omega arith)

pub take_front : (p b : List ℕ) → take (length p) (p ++ b) ≡ p
take_front [] b = refl
take_front (x ∷ p) b = ap (λ y. x ∷ y) (take_front p b)

pub drop_front : (p b : List ℕ) → drop (length p) (p ++ b) ≡ b
drop_front [] b = refl
drop_front (x ∷ p) b = drop_front p b

pub front_is : (f : ℕ → Bool) (p b : List ℕ) → list_all f p ≡ true → Stops f b → front f (p ++ b) ≡ p
front_is f p b all stops = rw (run_is f p b all stops) (take_front p b)

pub back_is : (f : ℕ → Bool) (p b : List ℕ) → list_all f p ≡ true → Stops f b → back f (p ++ b) ≡ b
back_is f p b all stops = rw (run_is f p b all stops) (drop_front p b)

pub prefix_front : (f : ℕ → Bool) (z : List ℕ) → length (front f z) ≡ prefix_len f z
prefix_front f z = length-prefix_len f z
