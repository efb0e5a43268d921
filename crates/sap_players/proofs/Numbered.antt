-- Threads, each once, in the order in which they first stand.
use Rattle.std.proofs.Common.{◌≡◌, ◌==◌, ℕ, zero, suc, Bool, true, false, ◌||◌, List, [], ◌∷◌, ◌++◌, Option, Some, slice_get, refl, sym, ap, ◌∙◌, subst, filter, arith}
use Rattle.std.specs.Prelude.{if◌then◌else◌, nat_eq, not}
use Rattle.std.specs.List.{list_any}
use Rattle.std.proofs.lemmas.List.{append_assoc}
use Rattle.std.proofs.lemmas.List.Elements.{filter-append}
use Rattle.std.proofs.lemmas.Map.Views.{any-filter_same}
use Rattle.std.proofs.lemmas.Bool.{eq-eqb, eqb-true}
use Rattle.indexmap.specs.IndexSet.{insert_key}
use Rattle.sap_players.specs.Numbers.{Player, IsRoleNumber, each_once, threads_in}

-- all but this one
abbrev but : ℕ → List ℕ → List ℕ
but x xs = filter (λ u. not (u == x)) xs

append_none : (xs : List ℕ) → xs ++ [] ≡ xs
append_none [] = refl
append_none (x ∷ xs) = ap (λ (ys : List ℕ). x ∷ ys) (append_none xs)

same : (x : ℕ) → (x == x) ≡ true
same x = eq-eqb x x refl

-- ---- one more at the end

module _ (x t : ℕ) (e : List ℕ) where
  -- it is the one that is left out
  left_out : (t == x) ≡ true → but x (e ++ t ∷ []) ≡ but x e
  left_out is =
      filter-append (λ u. not (u == x)) e (t ∷ [])
      ∙ ap (λ (b : Bool). but x e ++ (if not b then t ∷ [] else [])) is ∙ append_none (but x e)

  -- it is another
  put_last : (t == x) ≡ false → but x (e ++ t ∷ []) ≡ but x e ++ t ∷ []
  put_last other =
      filter-append (λ u. not (u == x)) e (t ∷ []) ∙ ap (λ (b : Bool). but x e ++ (if not b then t ∷ [] else [])) other

  passes : (t == x) ≡ false → (k : ℕ) → nat_eq t k ≡ true → not (k == x) ≡ true
  passes other k is = ap (λ (j : ℕ). not (j == x)) (sym (eqb-true t k is)) ∙ ap not other

  any_left : (t == x) ≡ false → list_any (nat_eq t) (but x e) ≡ list_any (nat_eq t) e
  any_left other = any-filter_same (nat_eq t) (λ u. not (u == x)) true (passes other) e

  insert_left : (b a : Bool) → (t == x) ≡ b → list_any (nat_eq t) e ≡ a
      → x ∷ but x (if a then e else e ++ t ∷ []) ≡ (if (b || list_any (nat_eq t) (but x e)) then x ∷ but x e else x ∷ (but x e ++ t ∷ []))
  insert_left true true is there = refl
  insert_left true false is there = ap (λ (ys : List ℕ). x ∷ ys) (left_out is)
  insert_left false true is there =
      sym (ap (λ (c : Bool). if c then x ∷ but x e else x ∷ (but x e ++ t ∷ [])) (any_left is ∙ there))
  insert_left false false is there =
      ap (λ (ys : List ℕ). x ∷ ys) (put_last is)
      ∙ sym (ap (λ (c : Bool). if c then x ∷ but x e else x ∷ (but x e ++ t ∷ [])) (any_left is ∙ there))

  insert_behind : x ∷ but x (insert_key nat_eq e t) ≡ insert_key nat_eq (x ∷ but x e) t
  insert_behind =
      insert_left (t == x) (list_any (nat_eq t) e) refl refl
      ∙ pushed (nat_eq t x || list_any (nat_eq t) (but x e))
    where
      pushed : (c : Bool) → (if c then x ∷ but x e else x ∷ (but x e ++ t ∷ [])) ≡ (if c then x ∷ but x e else (x ∷ but x e) ++ t ∷ [])
      pushed true = refl
      pushed false = refl

pub once_more : (ts : List ℕ) (t : ℕ) → each_once (ts ++ t ∷ []) ≡ insert_key nat_eq (each_once ts) t
once_more [] t = refl
once_more (x ∷ xs) t = ap (λ (ys : List ℕ). x ∷ but x ys) (once_more xs t) ∙ insert_behind x t (each_once xs)

-- ---- one more thing done

-- the thread, if it is in the role
abbrev one_in : Bool → ℕ → List ℕ
one_in true t = t ∷ []
one_in false t = []

threads_more : (r : ℕ) (ds : List Player) (t q : ℕ) → threads_in r (ds ++ (t, q) ∷ []) ≡ threads_in r ds ++ one_in (q == r) t
threads_more r [] t q = by (q == r)
  where
    by : (b : Bool) → (if b then t ∷ [] else []) ≡ one_in b t
    by true = refl
    by false = refl
threads_more r (d ∷ ds) t q = by (d.1 == r) (threads_more r ds t q)
  where
    by : (b : Bool) → threads_in r (ds ++ (t, q) ∷ []) ≡ threads_in r ds ++ one_in (q == r) t
        → (if b then d.0 ∷ threads_in r (ds ++ (t, q) ∷ []) else threads_in r (ds ++ (t, q) ∷ [])) ≡ (if b then d.0 ∷ threads_in r ds else threads_in r ds) ++ one_in (q == r) t
    by true e = ap (λ (ys : List ℕ). d.0 ∷ ys) e
    by false e = e

-- in its role it is put last, where it isn't among them
pub done_in : (r : ℕ) (ds : List Player) (t : ℕ) → each_once (threads_in r (ds ++ (t, r) ∷ [])) ≡ insert_key nat_eq (each_once (threads_in r ds)) t
done_in r ds t =
    ap each_once (threads_more r ds t r ∙ ap (λ (b : Bool). threads_in r ds ++ one_in b t) (same r)) ∙ once_more (threads_in r ds) t

-- in others nothing changes
pub done_else : (r q : ℕ) (ds : List Player) (t : ℕ) → (q == r) ≡ false → threads_in r (ds ++ (t, q) ∷ []) ≡ threads_in r ds
done_else r q ds t other = threads_more r ds t q ∙ ap (λ (b : Bool). threads_in r ds ++ one_in b t) other ∙ append_none (threads_in r ds)

-- ---- where they stand

abbrev pub Has : List ℕ → ℕ → Type 0
Has xs t = (j : ℕ) × (slice_get xs j ≡ Some t)

abbrev AreOnce : List ℕ → Type 0
AreOnce xs = (i j t : ℕ) → slice_get xs i ≡ Some t → slice_get xs j ≡ Some t → i ≡ j

some_is : {x y : ℕ} → ◌≡◌ {A = Option ℕ} (Some x) (Some y) → x ≡ y
some_is h = cc (h)

module _ (p : ℕ → Bool) where
  left_passes : (xs : List ℕ) (i t : ℕ) → slice_get (filter p xs) i ≡ Some t → p t ≡ true
  left_passes [] i t e = absurd (cc (e))
  left_passes (x ∷ xs) i t e = by (p x) refl (λ k h. left_passes xs k t h) i e
    where
      by : (b : Bool) → p x ≡ b → ((k : ℕ) → slice_get (filter p xs) k ≡ Some t → p t ≡ true) → (k : ℕ) → slice_get (if b then x ∷ filter p xs else filter p xs) k ≡ Some t → p t ≡ true
      by true is rest zero h = ap p (sym (some_is h)) ∙ is
      by true is rest (suc k) h = rest k h
      by false is rest k h = rest k h

  left_is : (xs : List ℕ) (t : ℕ) → Has (filter p xs) t → Has xs t
  left_is [] t h = absurd (cc (h.1))
  left_is (x ∷ xs) t h = by (p x) (λ g. left_is xs t g) h.0 h.1
    where
      more : Has xs t → Has (x ∷ xs) t
      more g = (suc g.0, g.1)

      by : (b : Bool) → (Has (filter p xs) t → Has xs t) → (k : ℕ) → slice_get (if b then x ∷ filter p xs else filter p xs) k ≡ Some t → Has (x ∷ xs) t
      by true rest zero g = (zero, g)
      by true rest (suc k) g = more (rest (k, g))
      by false rest k g = more (rest (k, g))

  is_left : (xs : List ℕ) (t : ℕ) → p t ≡ true → Has xs t → Has (filter p xs) t
  is_left [] t e h = absurd (cc (h.1))
  is_left (x ∷ xs) t e h = by (p x) refl (λ g. is_left xs t e g) h.0 h.1
    where
      more : (b : Bool) → Has (filter p xs) t → Has (if b then x ∷ filter p xs else filter p xs) t
      more true g = (suc g.0, g.1)
      more false g = g

      by : (b : Bool) → p x ≡ b → (Has xs t → Has (filter p xs) t) → (k : ℕ) → slice_get (x ∷ xs) k ≡ Some t → Has (if b then x ∷ filter p xs else filter p xs) t
      by true is rest zero g = (zero, g)
      by false is rest zero g = let never : false ≡ true = sym is ∙ ap p (some_is g) ∙ e in absurd (cc (never))
      by true is rest (suc k) g = more true (rest (k, g))
      by false is rest (suc k) g = more false (rest (k, g))

  once_left : (xs : List ℕ) → AreOnce xs → AreOnce (filter p xs)
  once_left [] once i j t e f = absurd (cc (e))
  once_left (x ∷ xs) once i j t e f =
      by (p x) (λ k l g h. once_left xs (λ a b u g h. let both : suc a ≡ suc b = once (suc a) (suc b) u g h in omega (arith, both)) k l t g h) i j e f
    where
      twice : Has (filter p xs) t → ◌≡◌ {A = Option ℕ} (Some x) (Some t) → ⊥
      twice h is =
          let there = left_is xs t h in
          let both : zero ≡ suc there.0 = once zero (suc there.0) t is there.1 in
          omega (arith, both)

      by : (b : Bool) → ((k l : ℕ) → slice_get (filter p xs) k ≡ Some t → slice_get (filter p xs) l ≡ Some t → k ≡ l)
          → (k l : ℕ) → slice_get (if b then x ∷ filter p xs else filter p xs) k ≡ Some t → slice_get (if b then x ∷ filter p xs else filter p xs) l ≡ Some t → k ≡ l
      by true rest zero zero g h = refl
      by true rest zero (suc l) g h = absurd (twice (l, h) g)
      by true rest (suc k) zero g h = absurd (twice (k, g) h)
      by true rest (suc k) (suc l) g h = ap suc (rest k l g h)
      by false rest k l g h = rest k l g h

pub are_once : (ts : List ℕ) → AreOnce (each_once ts)
are_once [] i j t e f = absurd (cc (e))
are_once (x ∷ xs) zero zero t e f = refl
are_once (x ∷ xs) zero (suc j) t e f = absurd (not_itself (left_passes (λ u. not (u == x)) (each_once xs) j t f) e)
  where
    not_itself : not (t == x) ≡ true → ◌≡◌ {A = Option ℕ} (Some x) (Some t) → ⊥
    not_itself other is =
        let never : not true ≡ true = sym (ap not (eq-eqb t x (sym (some_is is)))) ∙ other in
        cc (never)
are_once (x ∷ xs) (suc i) zero t e f = absurd (not_itself (left_passes (λ u. not (u == x)) (each_once xs) i t e) f)
  where
    not_itself : not (t == x) ≡ true → ◌≡◌ {A = Option ℕ} (Some x) (Some t) → ⊥
    not_itself other is =
        let never : not true ≡ true = sym (ap not (eq-eqb t x (sym (some_is is)))) ∙ other in
        cc (never)
are_once (x ∷ xs) (suc i) (suc j) t e f = ap suc (once_left (λ u. not (u == x)) (each_once xs) (are_once xs) i j t e f)

-- each once are those that stand there
pub once_has : (ts : List ℕ) (t : ℕ) → Has ts t → Has (each_once ts) t
once_has [] t h = absurd (cc (h.1))
once_has (x ∷ xs) t h = by (t == x) refl (λ g. once_has xs t g) h.0 h.1
  where
    by : (b : Bool) → (t == x) ≡ b → (Has xs t → Has (each_once xs) t) → (k : ℕ) → slice_get (x ∷ xs) k ≡ Some t → Has (x ∷ but x (each_once xs)) t
    by true is rest k g = (zero, ap Some (sym (eqb-true t x is)))
    by false is rest zero g = let never : false ≡ true = sym is ∙ eq-eqb t x (sym (some_is g)) in absurd (cc (never))
    by false is rest (suc k) g =
        let left = is_left (λ u. not (u == x)) (each_once xs) t (ap not is) (rest (k, g)) in
        (suc left.0, left.1)

pub has_once : (ts : List ℕ) (t : ℕ) → Has (each_once ts) t → Has ts t
has_once [] t h = absurd (cc (h.1))
has_once (x ∷ xs) t h = by (λ g. has_once xs t g) h.0 h.1
  where
    by : (Has (each_once xs) t → Has xs t) → (k : ℕ) → slice_get (x ∷ but x (each_once xs)) k ≡ Some t → Has (x ∷ xs) t
    by rest zero g = (zero, g)
    by rest (suc k) g =
        let there = rest (left_is (λ u. not (u == x)) (each_once xs) t (k, g)) in
        (suc there.0, there.1)

-- ---- the laws

pub one_number : (ds : List Player) (r t k j : ℕ) → IsRoleNumber ds r t k → IsRoleNumber ds r t j → k ≡ j
one_number ds r t k j a b = a.1 ∙ ap suc (are_once (threads_in r ds) a.0 b.0 t a.2 b.2) ∙ sym b.1

pub one_thread : (ds : List Player) (r t u k : ℕ) → IsRoleNumber ds r t k → IsRoleNumber ds r u k → t ≡ u
one_thread ds r t u k a b =
    let both : suc a.0 ≡ suc b.0 = sym a.1 ∙ b.1 in
    let at : a.0 ≡ b.0 = omega (arith, both) in
    some_is (sym a.2 ∙ ap (slice_get (each_once (threads_in r ds))) at ∙ b.2)

got_before : (xs : List ℕ) (k t : ℕ) → slice_get xs (suc k) ≡ Some t → (u : ℕ) × (slice_get xs k ≡ Some u)
got_before [] k t e = absurd (cc (e))
got_before (x ∷ xs) zero t e = (x, refl)
got_before (x ∷ xs) (suc k) t e = got_before xs k t e

pub one_before : (ds : List Player) (r t k : ℕ) → IsRoleNumber ds r t (suc (suc k)) → (u : ℕ) × IsRoleNumber ds r u (suc k)
one_before ds r t k a =
    let is = a.1 in
    let at : suc k ≡ a.0 = omega (arith, is) in
    let xs = each_once (threads_in r ds) in
    let before = got_before xs k t (ap (slice_get xs) at ∙ a.2) in
    (before.0, (k, refl, before.1))

-- what is done by the thread in the role stands among its threads
in_threads : (ds : List Player) (r t : ℕ) (k : ℕ) → slice_get ds k ≡ Some (t, r) → Has (threads_in r ds) t
in_threads [] r t k e = absurd (cc (e))
in_threads (d ∷ ds) r t zero e =
    let is : d ≡ (t, r) = cc (e) in
    let role : (d.1 == r) ≡ true = eq-eqb d.1 r (ap (λ (a : Player). a.1) is) in
    subst (λ (b : Bool). Has (if b then d.0 ∷ threads_in r ds else threads_in r ds) t) (sym role) (zero, ap (λ (a : Player). Some a.0) is)
in_threads (d ∷ ds) r t (suc k) e = more (d.1 == r) (in_threads ds r t k e)
  where
    more : (b : Bool) → Has (threads_in r ds) t → Has (if b then d.0 ∷ threads_in r ds else threads_in r ds) t
    more true g = (suc g.0, g.1)
    more false g = g

threads_done : (ds : List Player) (r t : ℕ) → Has (threads_in r ds) t → (k : ℕ) × (slice_get ds k ≡ Some (t, r))
threads_done [] r t h = absurd (cc (h.1))
threads_done (d ∷ ds) r t h = by (d.1 == r) refl (λ g. threads_done ds r t g) h.0 h.1
  where
    more : (k : ℕ) × (slice_get ds k ≡ Some (t, r)) → (k : ℕ) × (slice_get (d ∷ ds) k ≡ Some (t, r))
    more g = (suc g.0, g.1)

    by : (b : Bool) → (d.1 == r) ≡ b → (Has (threads_in r ds) t → (k : ℕ) × (slice_get ds k ≡ Some (t, r)))
        → (k : ℕ) → slice_get (if b then d.0 ∷ threads_in r ds else threads_in r ds) k ≡ Some t → (k : ℕ) × (slice_get (d ∷ ds) k ≡ Some (t, r))
    by true is rest zero g =
        let thread : d.0 ≡ t = some_is g in
        let role : d.1 ≡ r = eqb-true d.1 r is in
        (zero, λ i. Some (thread i, role i))
    by true is rest (suc k) g = more (rest (k, g))
    by false is rest k g = more (rest (k, g))

pub some_number : (ds : List Player) (r t k : ℕ) → slice_get ds k ≡ Some (t, r) → (n : ℕ) × IsRoleNumber ds r t n
some_number ds r t k e =
    let there = once_has (threads_in r ds) t (in_threads ds r t k e) in
    (suc there.0, (there.0, refl, there.1))

pub number_done : (ds : List Player) (r t k : ℕ) → IsRoleNumber ds r t k → (i : ℕ) × (slice_get ds i ≡ Some (t, r))
number_done ds r t k a = threads_done ds r t (has_once (threads_in r ds) t (a.0, a.2))

-- ---- later ones change nothing

got_still : (xs ys : List ℕ) (k t : ℕ) → slice_get xs k ≡ Some t → slice_get (xs ++ ys) k ≡ Some t
got_still [] ys k t e = absurd (cc (e))
got_still (x ∷ xs) ys zero t e = e
got_still (x ∷ xs) ys (suc k) t e = got_still xs ys k t e

inserted_still : (xs : List ℕ) (u k t : ℕ) → slice_get xs k ≡ Some t → slice_get (insert_key nat_eq xs u) k ≡ Some t
inserted_still xs u k t e = by (list_any (nat_eq u) xs)
  where
    by : (b : Bool) → slice_get (if b then xs else xs ++ u ∷ []) k ≡ Some t
    by true = e
    by false = got_still xs (u ∷ []) k t e

stays_once : (ds : List Player) (r t k u q : ℕ) → IsRoleNumber ds r t k → IsRoleNumber (ds ++ (u, q) ∷ []) r t k
stays_once ds r t k u q a = by (q == r) refl
  where
    by : (b : Bool) → (q == r) ≡ b → IsRoleNumber (ds ++ (u, q) ∷ []) r t k
    by true is =
        let role : q ≡ r = eqb-true q r is in
        subst (λ (s : ℕ). IsRoleNumber (ds ++ (u, s) ∷ []) r t k) (sym role)
        (a.0, a.1, ap (λ (xs : List ℕ). slice_get xs a.0) (done_in r ds u) ∙ inserted_still (each_once (threads_in r ds)) u a.0 t a.2)
    by false other = (a.0, a.1, ap (λ (xs : List ℕ). slice_get (each_once xs) a.0) (done_else r q ds u other) ∙ a.2)

pub number_stays : (ds es : List Player) (r t k : ℕ) → IsRoleNumber ds r t k → IsRoleNumber (ds ++ es) r t k
number_stays ds [] r t k a = subst (λ (xs : List Player). IsRoleNumber xs r t k) (sym (all ds)) a
  where
    all : (xs : List Player) → xs ++ [] ≡ xs
    all [] = refl
    all (x ∷ xs) = ap (λ (ys : List Player). x ∷ ys) (all xs)
number_stays ds (e ∷ es) r t k a =
    subst (λ (xs : List Player). IsRoleNumber xs r t k) (append_assoc ds (e ∷ []) es) (number_stays (ds ++ e ∷ []) es r t k (stays_once ds r t k e.0 e.1 a))
