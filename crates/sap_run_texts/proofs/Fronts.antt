-- Where the front of some bytes ends, all of which pass a test.
use Rattle.std.proofs.Common.{◌≡◌, ◌≤◌, ◌<◌, ◌⊎◌, inl, inr, ℕ, suc, ◌+◌, Bool, true, false, List, [], ◌∷◌, ◌++◌, length, take, refl, arith}
use Rattle.std.specs.Prelude.{nat_lt, ◌==◌, not, if◌then◌else◌}
use Rattle.std.specs.List.{list_all, prefix_len}
use Rattle.std.proofs.lemmas.Bool.{eqb-true}
use Rattle.sap_text.specs.Tokens.{is_not_feed, Stops}
use Rattle.sap_terms.proofs.PlainLaws.Tests.{and_left, and_right, and_true}

-- a front that passes ends where what follows doesn't
pub one_front : (f : ℕ → Bool) (p q b c : List ℕ) → list_all f p ≡ true → list_all f q ≡ true → Stops f b → Stops f c → p ++ b ≡ q ++ c
    → (p ≡ q) × (b ≡ c)
one_front f [] [] b c l m s r e = (refl, e)
one_front f [] (y ∷ q) [] c l m s r e = absurd (cc)
one_front f [] (y ∷ q) (x ∷ b) c l m s r e =
    let here : f y ≡ true = and_left (f y) (list_all f q) m in
    let same : x ≡ y = cc in
    let not : f x ≡ false = s in
    absurd (cc)
one_front f (x ∷ p) [] b [] l m s r e = absurd (cc)
one_front f (x ∷ p) [] b (y ∷ c) l m s r e =
    let here : f x ≡ true = and_left (f x) (list_all f p) l in
    let same : x ≡ y = cc in
    let not : f y ≡ false = r in
    absurd (cc)
one_front f (x ∷ p) (y ∷ q) b c l m s r e =
    let tails : p ++ b ≡ q ++ c = cc in
    let heads : x ≡ y = cc in
    let more = one_front f p q b c (and_right (f x) (list_all f p) l) (and_right (f y) (list_all f q) m) s r tails in
    let fronts : p ≡ q = more.0 in
    (cc, more.1)

-- what holds no line feed is no longer than what stands before the first one
pub no_longer : (a y h w : List ℕ) → list_all is_not_feed a ≡ true → a ++ y ≡ h ++ (10 ∷ w) → length a ≤ length h
no_longer [] y h w o e = omega arith
no_longer (x ∷ a) y [] w o e =
    let same : x ≡ 10 = cc in
    let here : is_not_feed x ≡ true = and_left (is_not_feed x) (list_all is_not_feed a) o in
    let not : is_not_feed 10 ≡ true = rw same at here in
    absurd (cc)
no_longer (x ∷ a) y (c ∷ h) w o e =
    let tails : a ++ y ≡ h ++ (10 ∷ w) = cc in
    omega (arith, no_longer a y h w (and_right (is_not_feed x) (list_all is_not_feed a) o) tails)

-- more bytes that pass
pub both_pass : (f : ℕ → Bool) (a y : List ℕ) → list_all f a ≡ true → list_all f y ≡ true → list_all f (a ++ y) ≡ true
both_pass f [] y l h = h
both_pass f (x ∷ a) y l h =
    and_true (f x) (list_all f (a ++ y)) (and_left (f x) (list_all f a) l) (both_pass f a y (and_right (f x) (list_all f a) l) h)

-- the bytes before the first that doesn't pass
pub front_passes : (f : ℕ → Bool) (z : List ℕ) → list_all f (take (prefix_len f z) z) ≡ true
front_passes f [] = refl
front_passes f (x ∷ z) = at (f x) refl (front_passes f z) where
  at : (b : Bool) → f x ≡ b → list_all f (take (prefix_len f z) z) ≡ true → list_all f (take (if b then 1 + prefix_len f z else 0) (x ∷ z)) ≡ true
  at true e all =
      let one : 1 + prefix_len f z ≡ suc (prefix_len f z) = omega arith in
      rw one (and_true (f x) (list_all f (take (prefix_len f z) z)) e all)
  at false e all = refl

-- a line feed that stands first
pub first_feed : (z : List ℕ) → 0 < length z → prefix_len is_not_feed z ≡ 0 → take 1 z ≡ 10 ∷ []
first_feed [] some e = absurd (omega (arith, some))
first_feed (x ∷ z) some e = at (x == 10) refl e where
  at : (b : Bool) → (x == 10) ≡ b → (if not b then 1 + prefix_len is_not_feed z else 0) ≡ 0 → take 1 (x ∷ z) ≡ 10 ∷ []
  at true h f = let same : x ≡ 10 = eqb-true x 10 h in rw same refl
  at false h f = absurd (omega (arith, f))

-- a number is below another or not
pub below_or_not : (m n : ℕ) → (m < n) ⊎ (n ≤ m)
below_or_not m n = test (nat_lt m n) refl where
  test : (b : Bool) → nat_lt m n ≡ b → (m < n) ⊎ (n ≤ m)
  test true e = inl (grind arith)
  test false e = inr (grind arith)
