-- What the index of a thread says.
use Rattle.std.proofs.Common.{◌≡◌, ◌≤◌, ◌<◌, ◌+◌, ℕ, Bool, true, false, not, cond, List, [], ◌∷◌, ◌++◌, ◌||◌, if◌then◌else◌, length, position, None, Some, refl, sym, ap, nat_eq, nat_lt, arith}
use Rattle.std.proofs.lemmas.Bool.Decides.{nat_tests}
use Rattle.indexmap.specs.IndexMap.{insert_entry}
use Rattle.sap_chart.specs.ChartText.{Lifeline, drawn_threads, with_lifeline}
use Rattle.std.specs.List.{list_any, position_or_len}

position_within : (p : ℕ → Bool) (xs : List ℕ) → position_or_len p xs ≤ length xs
position_within p [] = omega arith
position_within p (x ∷ xs) = at (p x) (position_within p xs) where
  at : (b : Bool) → position_or_len p xs ≤ length xs → cond (not b) (1 + position_or_len p xs) 0 ≤ length (x ∷ xs)
  at true h = omega arith
  at false h = omega arith

none_any : (p : ℕ → Bool) (xs : List ℕ) → position_or_len p xs ≡ length xs → list_any p xs ≡ false
none_any p [] h = refl
none_any p (x ∷ xs) h = at (p x) (none_any p xs) h where
  at : (b : Bool) → (position_or_len p xs ≡ length xs → list_any p xs ≡ false) → cond (not b) (1 + position_or_len p xs) 0 ≡ length (x ∷ xs) → (b || list_any p xs) ≡ false
  at true f e = absurd (omega arith)
  at false f e = f (omega arith)

some_any : (p : ℕ → Bool) (xs : List ℕ) → position_or_len p xs < length xs → list_any p xs ≡ true
some_any p [] h = absurd (omega arith)
some_any p (x ∷ xs) h = at (p x) (some_any p xs) h where
  at : (b : Bool) → (position_or_len p xs < length xs → list_any p xs ≡ true) → cond (not b) (1 + position_or_len p xs) 0 < length (x ∷ xs) → (b || list_any p xs) ≡ true
  at true f e = refl
  at false f e = f (omega arith)

-- no index is found: it would be the length
pub not_found : (p : ℕ → Bool) (xs : List ℕ) → position p xs ≡ None → position_or_len p xs ≡ length xs
not_found p xs h = at (nat_lt (position_or_len p xs) (length xs)) refl h where
  at : (b : Bool) → nat_lt (position_or_len p xs) (length xs) ≡ b → cond b (Some (position_or_len p xs)) None ≡ None → position_or_len p xs ≡ length xs
  at true e k = cc
  at false e k = let w = position_within p xs in grind (arith, nat_tests)

pub none_has : (p : ℕ → Bool) (xs : List ℕ) → position p xs ≡ None → list_any p xs ≡ false
none_has p xs h = none_any p xs (not_found p xs h)

-- one is found
pub some_has : (p : ℕ → Bool) (xs : List ℕ) (k : ℕ) → position p xs ≡ Some k → list_any p xs ≡ true
some_has p xs k h = at (nat_lt (position_or_len p xs) (length xs)) refl h where
  at : (b : Bool) → nat_lt (position_or_len p xs) (length xs) ≡ b → cond b (Some (position_or_len p xs)) None ≡ Some k → list_any p xs ≡ true
  at true e q = let l : position_or_len p xs < length xs = grind (arith, nat_tests) in some_any p xs l
  at false e q = cc

-- whether a lifeline comes
pub stays_if : (ls : List Lifeline) (a : Lifeline) → list_any (nat_eq a.0) (drawn_threads ls) ≡ true → ls ≡ with_lifeline ls a
stays_if ls a h = ap (λ b. if b then ls else ls ++ a ∷ []) (sym h)

pub comes_if : (ls : List Lifeline) (a : Lifeline) → list_any (nat_eq a.0) (drawn_threads ls) ≡ false → ls ++ a ∷ [] ≡ with_lifeline ls a
comes_if ls a h = ap (λ b. if b then ls else ls ++ a ∷ []) (sym h)

-- what is put in comes last, where its thread has none
pub comes_last : (ls : List Lifeline) (t : ℕ) (name : List ℕ) → list_any (nat_eq t) (drawn_threads ls) ≡ false → insert_entry nat_eq ls t name ≡ ls ++ (t, name) ∷ []
comes_last [] t name h = refl
comes_last (l ∷ ls) t name h = at (nat_eq t l.0) (comes_last ls t name) h where
  at : (b : Bool) → (list_any (nat_eq t) (drawn_threads ls) ≡ false → insert_entry nat_eq ls t name ≡ ls ++ (t, name) ∷ []) → (b || list_any (nat_eq t) (drawn_threads ls)) ≡ false
      → (if b then (l.0, name) ∷ ls else l ∷ insert_entry nat_eq ls t name) ≡ l ∷ (ls ++ (t, name) ∷ [])
  at true f h = cc
  at false f h = ap (λ zs. l ∷ zs) (f h)
