-- What the index of a thread says, and what the lists for roles say of numbers.
use Rattle.std.proofs.Common.{◌≡◌, ◌≢◌, ◌<◌, ◌+◌, ◌==◌, ℕ, zero, suc, Bool, true, false, not, cond, List, [], ◌∷◌, ◌++◌, length, position, Option, None, Some, refl, sym, ap, ◌∙◌, subst, nat_eq, nat_lt, slice_get, arith, get_or-set_other, get_or-set_same}
use Rattle.std.specs.Prelude.{option_map, slice_index_or, slice_set}
use Rattle.std.specs.List.{position_or_len}
use Rattle.std.proofs.lemmas.Bool.{eq-eqb, eqb-true}
use Rattle.std.proofs.Math.ListN.{replicate}
use Rattle.std.proofs.lemmas.Bool.Decides.{nat_tests}
use Rattle.indexmap.specs.IndexSet.{insert_key}
use Rattle.sap_players.specs.Numbers.{AreRoleNumbers, Player, IsRoleNumber, each_once, role_number, threads_in}
use Rattle.sap_players.proofs.Numbered.{Has, done_else, done_in, one_number}

some_is : {x y : ℕ} → ◌≡◌ {A = Option ℕ} (Some x) (Some y) → x ≡ y
some_is h = cc (h)

stands_there : (t : ℕ) (xs : List ℕ) → position_or_len (nat_eq t) xs < length xs → slice_get xs (position_or_len (nat_eq t) xs) ≡ Some t
stands_there t [] h = absurd (omega arith)
stands_there t (x ∷ xs) h = at (nat_eq t x) refl (stands_there t xs) h
  where
    at : (b : Bool) → nat_eq t x ≡ b → (position_or_len (nat_eq t) xs < length xs → slice_get xs (position_or_len (nat_eq t) xs) ≡ Some t)
        → cond (not b) (1 + position_or_len (nat_eq t) xs) 0 < length (x ∷ xs) → slice_get (x ∷ xs) (cond (not b) (1 + position_or_len (nat_eq t) xs) 0) ≡ Some t
    at true is f l = ap Some (sym (eqb-true t x is))
    at false is f l =
        let next : 1 + position_or_len (nat_eq t) xs ≡ suc (position_or_len (nat_eq t) xs) = omega arith in
        subst (λ (j : ℕ). slice_get (x ∷ xs) j ≡ Some t) (sym next) (f (omega arith))

-- it comes no earlier than the first
no_later : (t : ℕ) (xs : List ℕ) (k : ℕ) → slice_get xs k ≡ Some t → position_or_len (nat_eq t) xs < length xs
no_later t [] k e = absurd (cc (e))
no_later t (x ∷ xs) k e = at (nat_eq t x) refl (λ j g. no_later t xs j g) k e
  where
    at : (b : Bool) → nat_eq t x ≡ b → ((j : ℕ) → slice_get xs j ≡ Some t → position_or_len (nat_eq t) xs < length xs) → (j : ℕ) → slice_get (x ∷ xs) j ≡ Some t → cond (not b) (1 + position_or_len (nat_eq t) xs) 0 < length (x ∷ xs)
    at true is rest j g = omega arith
    at false is rest zero g = let never : false ≡ true = sym is ∙ eq-eqb t x (sym (some_is g)) in absurd (cc (never))
    at false is rest (suc j) g = let less = rest j g in omega (arith, less)

found : (t : ℕ) (xs : List ℕ) (k : ℕ) → position (nat_eq t) xs ≡ Some k → slice_get xs k ≡ Some t
found t xs k h = at (nat_lt (position_or_len (nat_eq t) xs) (length xs)) refl h
  where
    at : (b : Bool) → nat_lt (position_or_len (nat_eq t) xs) (length xs) ≡ b → cond b (Some (position_or_len (nat_eq t) xs)) None ≡ Some k → slice_get xs k ≡ Some t
    at true e q =
        let l : position_or_len (nat_eq t) xs < length xs = grind (arith, nat_tests) in
        subst (λ (j : ℕ). slice_get xs j ≡ Some t) (some_is q) (stands_there t xs l)
    at false e q = absurd (cc (q))

not_found : (t : ℕ) (xs : List ℕ) → position (nat_eq t) xs ≡ None → Has xs t → ⊥
not_found t xs h there = at (nat_lt (position_or_len (nat_eq t) xs) (length xs)) refl h (no_later t xs there.0 there.1)
  where
    at : (b : Bool) → nat_lt (position_or_len (nat_eq t) xs) (length xs) ≡ b → cond b (Some (position_or_len (nat_eq t) xs)) None ≡ None → position_or_len (nat_eq t) xs < length xs → ⊥
    at true e q l = cc (q)
    at false e q l = grind (arith, nat_tests)

-- ---- lists for roles

pub nothing_at : (n r : ℕ) → slice_index_or (replicate {A = List ℕ} n []) r [] ≡ []
nothing_at zero r = refl
nothing_at (suc n) zero = refl
nothing_at (suc n) (suc r) = nothing_at n r

pub as_many : (n : ℕ) → length (replicate {A = List ℕ} n []) ≡ n
as_many zero = refl
as_many (suc n) = ap suc (as_many n)

-- one more thing done
pub one_done : (ds : List Player) (ns : List (List ℕ)) (t q : ℕ) → q < length ns → AreRoleNumbers ds ns
    → (r : ℕ) → r < length ns → slice_index_or (slice_set ns q (insert_key nat_eq (slice_index_or ns q []) t)) r [] ≡ each_once (threads_in r (ds ++ (t, q) ∷ []))
one_done ds ns t q inside are r within = by (q == r) refl
  where
    put : List ℕ
    put = insert_key nat_eq (slice_index_or ns q []) t

    by : (b : Bool) → (q == r) ≡ b → slice_index_or (slice_set ns q put) r [] ≡ each_once (threads_in r (ds ++ (t, q) ∷ []))
    by true is =
        let same : q ≡ r = eqb-true q r is in
        subst (λ (i : ℕ). slice_index_or (slice_set ns q put) i [] ≡ each_once (threads_in i (ds ++ (t, q) ∷ []))) same
        (get_or-set_same ns q put [] inside ∙ ap (λ (xs : List ℕ). insert_key nat_eq xs t) (are q inside) ∙ sym (done_in q ds t))
    by false other =
        let differs : r ≢ q = λ same. (let never : false ≡ true = sym other ∙ eq-eqb q r (sym same) in cc (never)) in
        get_or-set_other ns q r put [] differs ∙ are r within ∙ ap each_once (sym (done_else r q ds t other))

module _ (ds : List Player) (ns : List (List ℕ)) (t r : ℕ) (inside : r < length ns) (are : AreRoleNumbers ds ns) where
  pub no_number : position (nat_eq t) (slice_index_or ns r []) ≡ None → (k : ℕ) → IsRoleNumber ds r t k → ⊥
  no_number none k is = not_found t (slice_index_or ns r []) none (subst (λ (xs : List ℕ). Has xs t) (sym (are r inside)) (is.0, is.2))

  pub its_number : (k : ℕ) → position (nat_eq t) (slice_index_or ns r []) ≡ Some k → IsRoleNumber ds r t (suc k)
  its_number k some = (k, refl, subst (λ (xs : List ℕ). slice_get xs k ≡ Some t) (are r inside) (found t (slice_index_or ns r []) k some))

  -- and so is the one that a search for it finds
  pub same_number : (o : Option ℕ) → position (nat_eq t) (slice_index_or ns r []) ≡ o → option_map suc o ≡ role_number ds r t
  same_number o is = ap (option_map suc) (sym is ∙ ap (position (nat_eq t)) (are r inside))

-- a thread's number is the one that is found
pub number_found : (ds : List Player) (r t k : ℕ) → role_number ds r t ≡ Some k → IsRoleNumber ds r t k
number_found ds r t k e = by (position (nat_eq t) xs) refl e
  where
    xs : List ℕ
    xs = each_once (threads_in r ds)

    by : (o : Option ℕ) → position (nat_eq t) xs ≡ o → option_map suc o ≡ Some k → IsRoleNumber ds r t k
    by None is h = absurd (cc (h))
    by (Some j) is h = (j, sym (some_is h), found t xs j is)

pub found_number : (ds : List Player) (r t k : ℕ) → IsRoleNumber ds r t k → role_number ds r t ≡ Some k
found_number ds r t k a = by (position (nat_eq t) xs) refl
  where
    xs : List ℕ
    xs = each_once (threads_in r ds)

    by : (o : Option ℕ) → position (nat_eq t) xs ≡ o → option_map suc o ≡ Some k
    by None is = absurd (not_found t xs is (a.0, a.2))
    by (Some j) is = ap Some (one_number ds r t (suc j) k (j, refl, found t xs j is) a)
