-- Paths of a shape by their numbers and by how many digits they have.
use Rattle.std.proofs.Common.{◌≡◌, ◌<◌, ◌≤◌, ℕ, zero, suc, ◌+◌, ◌-◌, List, [], ◌∷◌, ◌++◌, length, Some, refl, sym, subst, ⊎_elim, inl, inr, arith, add-one, length-append}
use Rattle.std.specs.Prelude.{◌⊎◌, slice_get}
use Rattle.std.proofs.lemmas.Option.{slice_get_within}
use Rattle.sap_beyond.specs.code.Shapes.{Shape, leaf, one, two, depth, paths_from, place_count}
use Rattle.sap_beyond.specs.code.Steps.{IsFirstLong, first_here, first_later, IsFound, extent, left_behind}
use Rattle.sap_beyond.specs.declared.beyond.By.{By}
use Rattle.sap_beyond.specs.declared.beyond.By.TheVariants.{Number, Digits}

pub length_paths : (s : Shape) (from : List ℕ) → length (paths_from from s) ≡ place_count s
length_paths leaf from = refl
length_paths (one s) from = let n = length_paths s (from ++ 1 ∷ []) in omega (arith, n)
length_paths (two s t) from =
    let n = length_paths s (from ++ 1 ∷ []) in
    let m = length_paths t (from ++ 2 ∷ []) in
    let both = length-append (paths_from (from ++ 1 ∷ []) s) (paths_from (from ++ 2 ∷ []) t) in
    omega (arith, n, m, both)

one_more : (from : List ℕ) (e : ℕ) → length (from ++ e ∷ []) ≡ length from + 1
one_more from e = length-append from (e ∷ [])

-- ---- lists

pub got_left : {A : Type 0} (xs ys : List A) (k : ℕ) (x : A) → slice_get xs k ≡ Some x → slice_get (xs ++ ys) k ≡ Some x
got_left [] ys k x e = absurd (cc (e))
got_left (y ∷ xs) ys zero x e = e
got_left (y ∷ xs) ys (suc k) x e = got_left xs ys k x e

pub got_right : {A : Type 0} (xs ys : List A) (k : ℕ) (x : A) → length xs ≤ k → slice_get ys (k - length xs) ≡ Some x → slice_get (xs ++ ys) k ≡ Some x
got_right [] ys k x h e = let same : k - 0 ≡ k = omega arith in subst (λ n. slice_get ys n ≡ Some x) same e
got_right (y ∷ xs) ys zero x h e = absurd (omega arith)
got_right (y ∷ xs) ys (suc k) x h e =
    let same : suc k - suc (length xs) ≡ k - length xs = omega arith in
    got_right xs ys k x (omega arith) (subst (λ n. slice_get ys n ≡ Some x) same e)

got_next : {A : Type 0} (y : A) (xs : List A) (k : ℕ) (x : A) → slice_get xs k ≡ Some x → slice_get (y ∷ xs) (k + 1) ≡ Some x
got_next y xs k x e = rw add-one e

first_left : {n : ℕ} {xs : List (List ℕ)} {v : List ℕ} (ys : List (List ℕ)) → IsFirstLong n xs v → IsFirstLong n (xs ++ ys) v
first_left ys (first_here e) = first_here e
first_left ys (first_later o h) = first_later o (first_left ys h)

-- none of these has so many digits
abbrev pub NoneLong : ℕ → List (List ℕ) → Type 0
NoneLong n [] = Unit {0}
NoneLong n (w ∷ ws) = (¬ (length w ≡ n)) × NoneLong n ws

first_right : {n : ℕ} (xs : List (List ℕ)) {ys : List (List ℕ)} {v : List ℕ} → NoneLong n xs → IsFirstLong n ys v → IsFirstLong n (xs ++ ys) v
first_right [] none h = h
first_right (x ∷ xs) none h = first_later none.0 (first_right xs none.1 h)

none_both : (n : ℕ) (xs ys : List (List ℕ)) → NoneLong n xs → NoneLong n ys → NoneLong n (xs ++ ys)
none_both n [] ys h g = g
none_both n (x ∷ xs) ys h g = (h.0, none_both n xs ys h.1 g)

pub not_first : {n : ℕ} {xs : List (List ℕ)} {v : List ℕ} → NoneLong n xs → IsFirstLong n xs v → ⊥
not_first none (first_here e) = none.0 e
not_first none (first_later o h) = not_first none.1 h

pub none_got : (n : ℕ) (xs : List (List ℕ)) (k : ℕ) (v : List ℕ) → NoneLong n xs → slice_get xs k ≡ Some v → ¬ (length v ≡ n)
none_got n [] k v none e = absurd (cc (e))
none_got n (x ∷ xs) zero v none e = let same : x ≡ v = cc (e) in subst (λ (w : List ℕ). ¬ (length w ≡ n)) same none.0
none_got n (x ∷ xs) (suc k) v none e = none_got n xs k v none.1 e

pub none_long : (s : Shape) (from : List ℕ) (n : ℕ) → length from + depth s ≤ n → NoneLong n (paths_from from s)
none_long leaf from n h = ((λ e. omega (arith, e)), tt)
none_long (one s) from n h =
    let more = one_more from 1 in
    ((λ e. omega (arith, e)), none_long s (from ++ 1 ∷ []) n (omega (arith, more)))
none_long (two s t) from n h =
    let more = one_more from 1 in
    let other = one_more from 2 in (
      (λ e. omega (arith, e)),
      none_both n (paths_from (from ++ 1 ∷ []) s) (paths_from (from ++ 2 ∷ []) t) (none_long s (from ++ 1 ∷ []) n (omega (arith, more))) (none_long t (from ++ 2 ∷ []) n (omega (arith, other))),
    )

-- where the first stands
pub record FirstAt (n : ℕ) (xs : List (List ℕ)) (v : List ℕ) : Type 0 where
  pub at : ℕ
  pub got : slice_get xs at ≡ Some v
  pub long : length v ≡ n
  pub first : (k : ℕ) (w : List ℕ) → k < at → slice_get xs k ≡ Some w → ¬ (length w ≡ n)

pub first_at : {n : ℕ} {xs : List (List ℕ)} {v : List ℕ} → IsFirstLong n xs v → FirstAt n xs v
first_at (first_here e) = record { at = 0; got = refl; long = e; first = λ k w less g. absurd (omega (arith, less)) }
first_at {n = n} {v = v} (first_later {w = u} {vs = vs} o h) =
    let rest = first_at h in
    record { at = suc rest.at; got = rest.got; long = rest.long; first = before rest }
  where
    before : (rest : FirstAt n vs v) (k : ℕ) (w : List ℕ) → k < suc rest.at → slice_get (u ∷ vs) k ≡ Some w → ¬ (length w ≡ n)
    before rest zero w less g = let same : u ≡ w = cc (g) in subst (λ (z : List ℕ). ¬ (length z ≡ n)) same o
    before rest (suc k) w less g = rest.first k w (omega (arith, less)) g

-- ---- from the parts to the whole

first_same : (n m : ℕ) (xs : List (List ℕ)) (v : List ℕ) → n ≡ m → IsFirstLong n xs v → IsFirstLong m xs v
first_same n m xs v e h = subst (λ k. IsFirstLong k xs v) e h

not_self : (from : List ℕ) (j : ℕ) → ¬ (length from ≡ length from + (j + 1))
not_self from j e = omega (arith, e)

deeper_by_one : (from : List ℕ) (e j : ℕ) → length (from ++ e ∷ []) + j ≡ length from + (j + 1)
deeper_by_one from e j = let more = one_more from e in omega (arith, more)

pub found_here : (by : By) (from : List ℕ) (s : Shape) → IsFound by from s 0 from
found_here Number from leaf = refl
found_here Number from (one s) = refl
found_here Number from (two s t) = refl
found_here Digits from leaf = first_here (omega arith)
found_here Digits from (one s) = first_here (omega arith)
found_here Digits from (two s t) = first_here (omega arith)

pub in_one : (by : By) (from : List ℕ) (s : Shape) (j : ℕ) (v : List ℕ) → IsFound by (from ++ 1 ∷ []) s j v → IsFound by from (one s) (j + 1) v
in_one Number from s j v h = got_next from (paths_from (from ++ 1 ∷ []) s) j v h
in_one Digits from s j v h = first_later (not_self from j) (first_same _ _ (paths_from (from ++ 1 ∷ []) s) v (deeper_by_one from 1 j) h)

pub in_first : (by : By) (from : List ℕ) (s t : Shape) (j : ℕ) (v : List ℕ) → IsFound by (from ++ 1 ∷ []) s j v → IsFound by from (two s t) (j + 1) v
in_first Number from s t j v h =
    got_next from (paths_from (from ++ 1 ∷ []) s ++ paths_from (from ++ 2 ∷ []) t) j v (got_left (paths_from (from ++ 1 ∷ []) s) (paths_from (from ++ 2 ∷ []) t) j v h)
in_first Digits from s t j v h =
    first_later (not_self from j) (first_left (paths_from (from ++ 2 ∷ []) t) (first_same _ _ (paths_from (from ++ 1 ∷ []) s) v (deeper_by_one from 1 j) h))

pub in_second : (by : By) (from : List ℕ) (s t : Shape) (j : ℕ) (v : List ℕ) → extent by s ≤ j → IsFound by (from ++ 2 ∷ []) t (left_behind by j s) v → IsFound by from (two s t) (j + 1) v
in_second Number from s t j v past h =
    let many = length_paths s (from ++ 1 ∷ []) in
    got_next from (paths_from (from ++ 1 ∷ []) s ++ paths_from (from ++ 2 ∷ []) t) j v
    (got_right (paths_from (from ++ 1 ∷ []) s) (paths_from (from ++ 2 ∷ []) t) j v (omega (arith, many)) (subst (λ n. slice_get (paths_from (from ++ 2 ∷ []) t) (j - n) ≡ Some v) (sym many) h))
in_second Digits from s t j v past h =
    let more = one_more from 1 in
    first_later (not_self from j)
    (first_right (paths_from (from ++ 1 ∷ []) s) (none_long s (from ++ 1 ∷ []) (length from + (j + 1)) (omega (arith, more)))
    (first_same _ _ (paths_from (from ++ 2 ∷ []) t) v (deeper_by_one from 2 j) h))

-- ---- there is one where it is less than the extent, and only there

pub record Some_found (by : By) (from : List ℕ) (s : Shape) (k : ℕ) : Type 0 where
  pub path : List ℕ
  pub found : IsFound by from s k path

some_one : (by : By) (from : List ℕ) (s : Shape) (j : ℕ) → Some_found by (from ++ 1 ∷ []) s j → Some_found by from (one s) (suc j)
some_one by from s j r = record { path = r.path; found = subst (λ n. IsFound by from (one s) n r.path) (add-one j) (in_one by from s j r.path r.found) }

some_first : (by : By) (from : List ℕ) (s t : Shape) (j : ℕ) → Some_found by (from ++ 1 ∷ []) s j → Some_found by from (two s t) (suc j)
some_first by from s t j r = record { path = r.path; found = subst (λ n. IsFound by from (two s t) n r.path) (add-one j) (in_first by from s t j r.path r.found) }

some_second : (by : By) (from : List ℕ) (s t : Shape) (j : ℕ) → extent by s ≤ j → Some_found by (from ++ 2 ∷ []) t (left_behind by j s) → Some_found by from (two s t) (suc j)
some_second by from s t j past r = record { path = r.path; found = subst (λ n. IsFound by from (two s t) n r.path) (add-one j) (in_second by from s t j r.path past r.found) }

pub less_or_not : (a b : ℕ) → (a < b) ⊎ (b ≤ a)
less_or_not zero zero = inr (omega arith)
less_or_not zero (suc b) = inl (omega arith)
less_or_not (suc a) zero = inr (omega arith)
less_or_not (suc a) (suc b) = ⊎_elim (λ h. inl (omega (arith, h))) (λ h. inr (omega (arith, h))) (less_or_not a b)

one_extent : (by : By) (s : Shape) (j : ℕ) → suc j < extent by (one s) → j < extent by s
one_extent Number s j h = omega (arith, h)
one_extent Digits s j h = omega (arith, h)

second_extent : (by : By) (s t : Shape) (j : ℕ) → extent by s ≤ j → suc j < extent by (two s t) → left_behind by j s < extent by t
second_extent Number s t j past h = omega (arith, h, past)
second_extent Digits s t j past h = omega (arith, h, past)

leaf_extent : (by : By) (j : ℕ) → suc j < extent by leaf → ⊥
leaf_extent Number j h = omega (arith, h)
leaf_extent Digits j h = omega (arith, h)

pub some_found : (by : By) (from : List ℕ) (s : Shape) (k : ℕ) → k < extent by s → Some_found by from s k
some_found by from leaf zero h = record { path = from; found = found_here by from leaf }
some_found by from (one s) zero h = record { path = from; found = found_here by from (one s) }
some_found by from (two s t) zero h = record { path = from; found = found_here by from (two s t) }
some_found by from leaf (suc j) h = absurd (leaf_extent by j h)
some_found by from (one s) (suc j) h = some_one by from s j (some_found by (from ++ 1 ∷ []) s j (one_extent by s j h))
some_found by from (two s t) (suc j) h =
    ⊎_elim (λ less. some_first by from s t j (some_found by (from ++ 1 ∷ []) s j less))
    (λ past. some_second by from s t j past (some_found by (from ++ 2 ∷ []) t (left_behind by j s) (second_extent by s t j past h)))
    (less_or_not j (extent by s))

pub none_found : (by : By) (from : List ℕ) (s : Shape) (k : ℕ) (v : List ℕ) → extent by s ≤ k → IsFound by from s k v → ⊥
none_found Number from s k v past h =
    let many = length_paths s from in
    let within = slice_get_within (paths_from from s) k v h in
    omega (arith, many, within, past)
none_found Digits from s k v past h = not_first (none_long s from (length from + k) (omega (arith, past))) h
