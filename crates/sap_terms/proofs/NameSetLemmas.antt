-- The place of a name among names, and whether it is there.
use Rattle.std.proofs.Common.{◌≡◌, ℕ, zero, suc, ◌+◌, Bool, true, false, not, ◌||◌, cond, arith, List, [], ◌∷◌, ◌++◌, length, Option, Some, None, option_map, is_some, if◌then◌else◌, refl, ap, sym, ◌∙◌}
use Rattle.std.specs.Str.{bytes_eq}
use Rattle.std.specs.List.{IsDistinct, list_any, position, position_or_len}
use Rattle.std.specs.Prelude.{slice_get}
use Rattle.std.proofs.lemmas.List.Folds.{list_any-append}
use Rattle.std.proofs.lemmas.Slice.Eq.{bytes_eq-Decides}
use Rattle.std.proofs.lemmas.Cmp.{nat_list_eq_equiv}
use Rattle.std.proofs.lemmas.Grind.{common_steps}
use Rattle.std.proofs.lemmas.Map.Keys.{IsDistinct-push}
use Rattle.sap_terms.proofs.NamedLemmas.{index_of-below}
use Rattle.sap_terms.specs.NameSet.{with_name}
use Rattle.sap_terms.specs.code.Places.{index_of}

-- the place, or the length where there is none
abbrev or_length : Option ℕ → ℕ → ℕ
or_length None k = k
or_length (Some j) k = j

abbrev place : List (List ℕ) → List ℕ → Option ℕ
place names n = index_of (λ (m : List ℕ). m) names n

-- a name has a place where it is there
pub place-any : (names : List (List ℕ)) (n : List ℕ) → is_some (place names n) ≡ list_any (bytes_eq n) names
place-any [] n = refl
place-any (m ∷ names) n = rw (nat_list_eq_equiv.symm n m) (by (bytes_eq m n) (place names n) (place-any names n)) where
  by : (b : Bool) (o : Option ℕ) → is_some o ≡ list_any (bytes_eq n) names → is_some (if b then Some 0 else option_map suc o) ≡ (b || list_any (bytes_eq n) names)
  by true o later = refl
  by false None later = later
  by false (Some k) later = later

one : (k : ℕ) → 1 + k ≡ suc k
one k = omega arith

place-length : (names : List (List ℕ)) (n : List ℕ) → position_or_len (bytes_eq n) names ≡ or_length (place names n) (length names)
place-length [] n = refl
place-length (m ∷ names) n = rw (nat_list_eq_equiv.symm n m) (by (bytes_eq m n) (place names n) (place-length names n)) where
  by : (b : Bool) (o : Option ℕ) → position_or_len (bytes_eq n) names ≡ or_length o (length names) → cond (not b) (1 + position_or_len (bytes_eq n) names) 0 ≡ or_length (if b then Some 0 else option_map suc o) (suc (length names))
  by true o later = refl
  by false None later = one (position_or_len (bytes_eq n) names) ∙ ap suc later
  by false (Some k) later = one (position_or_len (bytes_eq n) names) ∙ ap suc later

-- and it is the index of the first that is equal
pub place-position : (names : List (List ℕ)) (n : List ℕ) → place names n ≡ position (bytes_eq n) names
place-position names n = by (place names n) refl (place-length names n) where
  p : ℕ
  p = position_or_len (bytes_eq n) names

  by : (o : Option ℕ) → place names n ≡ o → p ≡ or_length o (length names) → o ≡ position (bytes_eq n) names
  by None e at = grind (arith, common_steps)
  by (Some k) e at = let below = index_of-below (λ (m : List ℕ). m) names n k e in grind (arith, common_steps)

-- at its place the name is found
place-there : (names : List (List ℕ)) (n : List ℕ) (k : ℕ) → place names n ≡ Some k → slice_get names k ≡ Some n
place-there [] n k e = cc
place-there (m ∷ names) n k e = by (bytes_eq m n) refl (place names n) k e (place-there names n) where
  by : (b : Bool) → bytes_eq m n ≡ b → (o : Option ℕ) (k : ℕ) → (if b then Some 0 else option_map suc o) ≡ Some k → ((j : ℕ) → o ≡ Some j → slice_get names j ≡ Some n) → slice_get (m ∷ names) k ≡ Some n
  by true d o zero e later = ap Some ((bytes_eq-Decides m n).0 d)
  by true d o (suc k) e later = cc
  by false d None k e later = cc
  by false d (Some j) zero e later = cc
  by false d (Some j) (suc k) e later = let same : j ≡ k = cc in later k (ap Some same)

-- what a place says
pub record IsThere (names : List (List ℕ)) (n : List ℕ) (k : ℕ) : Type 0 where
  pub any : list_any (bytes_eq n) names ≡ true
  pub at : position_or_len (bytes_eq n) names ≡ k
  pub same : with_name names n ≡ names
  pub got : slice_get names k ≡ Some n

pub place-some : (names : List (List ℕ)) (n : List ℕ) (k : ℕ) → place names n ≡ Some k → IsThere names n k
place-some names n k e =
    let any : list_any (bytes_eq n) names ≡ true = sym (place-any names n) ∙ ap is_some e in
    record {
      any = any;
      at = place-length names n ∙ ap (λ o. or_length o (length names)) e;
      same = ap (λ b. if b then names else names ++ n ∷ []) any;
      got = place-there names n k e;
    }

-- and what the want of one
pub record IsNew (names : List (List ℕ)) (n : List ℕ) : Type 0 where
  pub any : list_any (bytes_eq n) names ≡ false
  pub at : position_or_len (bytes_eq n) names ≡ length names
  pub last : with_name names n ≡ names ++ n ∷ []

pub place-none : (names : List (List ℕ)) (n : List ℕ) → place names n ≡ None → IsNew names n
place-none names n e =
    let any : list_any (bytes_eq n) names ≡ false = sym (place-any names n) ∙ ap is_some e in
    record {
      any = any;
      at = place-length names n ∙ ap (λ o. or_length o (length names)) e;
      last = ap (λ b. if b then names else names ++ n ∷ []) any;
    }

-- a name more is among them, and those that were
one-more : (names : List (List ℕ)) (n k : List ℕ) → list_any (bytes_eq k) (with_name names n) ≡ (bytes_eq n k || list_any (bytes_eq k) names)
one-more names n k = by (list_any (bytes_eq n) names) refl where
  turned : (a b c : Bool) → b ≡ c → (a || (b || false)) ≡ (c || a)
  turned true true c e = rw (sym e) refl
  turned true false c e = rw (sym e) refl
  turned false true c e = rw (sym e) refl
  turned false false c e = rw (sym e) refl

  twice : list_any (bytes_eq n) names ≡ true → (b : Bool) → bytes_eq n k ≡ b → list_any (bytes_eq k) names ≡ (b || list_any (bytes_eq k) names)
  twice is true e = ap (λ m. list_any (bytes_eq m) names) (sym ((bytes_eq-Decides n k).0 e)) ∙ is
  twice is false e = refl

  by : (b : Bool) → list_any (bytes_eq n) names ≡ b → list_any (bytes_eq k) (if b then names else names ++ n ∷ []) ≡ (bytes_eq n k || list_any (bytes_eq k) names)
  by true is = twice is (bytes_eq n k) refl
  by false is = list_any-append (bytes_eq k) names (n ∷ []) ∙ turned (list_any (bytes_eq k) names) (bytes_eq k n) (bytes_eq n k) (nat_list_eq_equiv.symm k n)

pub more-there : (names after : List (List ℕ)) (n : List ℕ) → after ≡ with_name names n → (k : List ℕ) → list_any (bytes_eq k) after ≡ (bytes_eq n k || list_any (bytes_eq k) names)
more-there names after n e k = ap (list_any (bytes_eq k)) e ∙ one-more names n k

-- the last of names
pub got-last : (names : List (List ℕ)) (n : List ℕ) → slice_get (names ++ n ∷ []) (length names) ≡ Some n
got-last [] n = refl
got-last (m ∷ names) n = got-last names n

-- no name is twice among none
pub none_twice : IsDistinct bytes_eq []
unfolding IsDistinct
none_twice = tt

-- nor among names with one more that isn't there
pub one_new : (names after : List (List ℕ)) (n : List ℕ) → IsDistinct bytes_eq names → None ≡ index_of (λ (m : List ℕ). m) names n → after ≡ names ++ n ∷ [] → IsDistinct bytes_eq after
one_new names after n once e last = rw last (IsDistinct-push nat_list_eq_equiv names n once (place-none names n (sym e)).any)
