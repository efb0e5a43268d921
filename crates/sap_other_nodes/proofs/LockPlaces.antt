-- What the walks along a path and below a place find of locks.
use Rattle.std.proofs.Common.{◌≡◌, ℕ, zero, suc, ◌+◌, ◌<◌, ◌≤◌, List, [], ◌∷◌, ◌++◌, Option, Some, None, Bool, true, false, cond, inl, inr, arith, refl, sym, ap, subst, ◌∙◌}
use Rattle.std.specs.Prelude.{◌⊎◌, Contains, min, nat_lt, option_map}
use Rattle.std.proofs.lemmas.Bool.{cases_lt}
use Rattle.std.proofs.lemmas.Bool.Decides.{Decides-ltb}
use Rattle.std.proofs.lemmas.List.Elements.{Contains-append_cases, Contains-append_left, Contains-append_right}
use Rattle.sap_terms.specs.Tree.{Tree}
use Rattle.sap_terms.proofs.PlainLaws.Items.{first_item, cons_cases}
use Rattle.sap_process.specs.Action.{Action, lock, unlock}
use Rattle.sap_process.specs.Heads.{locks_set}
use Rattle.sap_process.specs.Places.{child, place, place_from}
use Rattle.sap_process.specs.Proc.{Proc, node_count, nil, parallel, replicated, act, test, lookup}
use Rattle.sap_held.specs.Held.{Open, found}
use Rattle.sap_locks.specs.Annotation.{IsUnlock, unlock_at}
use Rattle.sap_locks.specs.Ways.{IsLockOf, IsOpen, LockMark, LockSite, WayAbove, lock_count, lock_sites_from, way_above, way_behind, way_below}
use Rattle.sap_other_nodes.specs.OtherLocks.{IsEndedBelow, IsFirstEnded}
use Rattle.sap_other_nodes.specs.code.LockWalks.{opened, open_action, open_below, head_locks, beside, came, low, lesser, action_ends, ends}
use Rattle.sap_other_nodes.proofs.OpenLocks.{Descends, descends_more, open_stands, own_is, stands_below}

-- one step of a way

behind_open : (way : List LockMark) (k : ℕ) (a : Action) → opened (way_behind way k a) ≡ open_action (opened way) k a
behind_open way k (lock t l) = refl
behind_open way k (unlock t l) = refl
behind_open way k _ = refl

behind_descends : (way : List LockMark) (k : ℕ) (a : Action) → Descends (k + 1) way → Descends (k + locks_set a + 1) (way_behind way k a)
behind_descends way k (lock t l) d = (omega arith, d)
behind_descends way k (unlock t l) d = descends_more way (k + 1) (k + 0 + 1) (omega arith) d
behind_descends way k _ d = descends_more way (k + 1) (k + 0 + 1) (omega arith) d

below_open : (u : WayAbove) (p : Proc) (e : ℕ) → opened (way_below u p e).way ≡ open_below (opened u.way) u.before p
below_open u (act a p) e = behind_open u.way u.before a
below_open u nil e = refl
below_open u (parallel p q) zero = refl
below_open u (parallel p q) (suc zero) = refl
below_open u (parallel p q) (suc (suc zero)) = refl
below_open u (parallel p q) (suc (suc (suc e))) = refl
below_open u (replicated p) e = refl
below_open u (test t v p q) zero = refl
below_open u (test t v p q) (suc zero) = refl
below_open u (test t v p q) (suc (suc zero)) = refl
below_open u (test t v p q) (suc (suc (suc e))) = refl
below_open u (lookup t x p q) zero = refl
below_open u (lookup t x p q) (suc zero) = refl
below_open u (lookup t x p q) (suc (suc zero)) = refl
below_open u (lookup t x p q) (suc (suc (suc e))) = refl

pub below_before : (u : WayAbove) (p : Proc) (e : ℕ) → (way_below u p e).before ≡ u.before + head_locks p + beside p e
below_before u (act a p) e = omega arith
below_before u nil e = omega arith
below_before u (parallel p q) zero = omega arith
below_before u (parallel p q) (suc zero) = omega arith
below_before u (parallel p q) (suc (suc zero)) = omega arith
below_before u (parallel p q) (suc (suc (suc e))) = omega arith
below_before u (replicated p) e = omega arith
below_before u (test t v p q) zero = omega arith
below_before u (test t v p q) (suc zero) = omega arith
below_before u (test t v p q) (suc (suc zero)) = omega arith
below_before u (test t v p q) (suc (suc (suc e))) = omega arith
below_before u (lookup t x p q) zero = omega arith
below_before u (lookup t x p q) (suc zero) = omega arith
below_before u (lookup t x p q) (suc (suc zero)) = omega arith
below_before u (lookup t x p q) (suc (suc (suc e))) = omega arith

-- the locks in front of a child and those of the child are locks of the process
pub beside_fits : (p : Proc) (e : ℕ) → head_locks p + beside p e ≤ lock_count p
beside_fits nil e = omega arith
beside_fits (parallel p q) zero = omega arith
beside_fits (parallel p q) (suc zero) = omega arith
beside_fits (parallel p q) (suc (suc zero)) = omega arith
beside_fits (parallel p q) (suc (suc (suc e))) = omega arith
beside_fits (replicated p) e = omega arith
beside_fits (act a p) e = omega arith
beside_fits (test t u p q) zero = omega arith
beside_fits (test t u p q) (suc zero) = omega arith
beside_fits (test t u p q) (suc (suc zero)) = omega arith
beside_fits (test t u p q) (suc (suc (suc e))) = omega arith
beside_fits (lookup t x p q) zero = omega arith
beside_fits (lookup t x p q) (suc zero) = omega arith
beside_fits (lookup t x p q) (suc (suc zero)) = omega arith
beside_fits (lookup t x p q) (suc (suc (suc e))) = omega arith

count_same : (p q : Proc) → ◌≡◌ {A = Option Proc} (Some p) (Some q) → lock_count p ≡ lock_count q
count_same p q e = let same : p ≡ q = cc in ap lock_count same

pub child_fits : (p q : Proc) (e : ℕ) → child p e ≡ Some q → head_locks p + beside p e + lock_count q ≤ lock_count p
child_fits p q zero h = cc
child_fits nil q (suc zero) h = cc
child_fits (parallel p r) q (suc zero) h = let e = count_same p q h in omega (arith, e)
child_fits (replicated p) q (suc zero) h = let e = count_same p q h in omega (arith, e)
child_fits (act a p) q (suc zero) h = let e = count_same p q h in omega (arith, e)
child_fits (test t u p r) q (suc zero) h = let e = count_same p q h in omega (arith, e)
child_fits (lookup t x p r) q (suc zero) h = let e = count_same p q h in omega (arith, e)
child_fits (parallel p r) q (suc (suc zero)) h = let e = count_same r q h in omega (arith, e)
child_fits (test t u p r) q (suc (suc zero)) h = let e = count_same r q h in omega (arith, e)
child_fits (lookup t x p r) q (suc (suc zero)) h = let e = count_same r q h in omega (arith, e)
child_fits _ q (suc (suc zero)) h = cc
child_fits p q (suc (suc (suc e))) h = cc

-- there are no more locks than places
pub locks_fit : (p : Proc) → lock_count p ≤ node_count p
locks_fit nil = omega arith
locks_fit (parallel p q) = let a = locks_fit p in let b = locks_fit q in omega (arith, a, b)
locks_fit (replicated p) = let a = locks_fit p in omega (arith, a)
locks_fit (act (lock t l) p) = let a = locks_fit p in omega (arith, a)
locks_fit (act a p) = let b = locks_fit p in omega (arith, b)
locks_fit (test t u p q) = let a = locks_fit p in let b = locks_fit q in omega (arith, a, b)
locks_fit (lookup t x p q) = let a = locks_fit p in let b = locks_fit q in omega (arith, a, b)

abbrev pub Falling : WayAbove → Type 0
Falling u = Descends (u.before + 1) u.way

-- the way below is the same, or that behind the action
more_falling : (u : WayAbove) (n : ℕ) → Falling u → Falling (way_above u.way (u.before + n))
more_falling u n d = descends_more u.way (u.before + 1) (u.before + n + 1) (omega arith) d

below_falling : (u : WayAbove) (p : Proc) (e : ℕ) → Falling u → Falling (way_below u p e)
below_falling u (act a p) e d = behind_descends u.way u.before a d
below_falling u nil e d = d
below_falling u (parallel p q) zero d = d
below_falling u (parallel p q) (suc zero) d = d
below_falling u (parallel p q) (suc (suc zero)) d = more_falling u (lock_count p) d
below_falling u (parallel p q) (suc (suc (suc e))) d = d
below_falling u (replicated p) e d = d
below_falling u (test t v p q) zero d = d
below_falling u (test t v p q) (suc zero) d = d
below_falling u (test t v p q) (suc (suc zero)) d = more_falling u (lock_count p) d
below_falling u (test t v p q) (suc (suc (suc e))) d = d
below_falling u (lookup t x p q) zero d = d
below_falling u (lookup t x p q) (suc zero) d = d
below_falling u (lookup t x p q) (suc (suc zero)) d = more_falling u (lock_count p) d
below_falling u (lookup t x p q) (suc (suc (suc e))) d = d

-- the place that a walk comes to

abbrev pub seen : LockSite → Open × ℕ × Proc
seen s = (opened s.above.way, s.above.before, s.body)

abbrev pub At : List ℕ → WayAbove → Option Proc → Option LockSite
At pre u o = option_map (place pre u) o

came_from : (path pre : List ℕ) (u : WayAbove) (o : Option Proc) → came (opened u.way) u.before o path ≡ option_map seen (place_from way_below (At pre u o) path)
came_from path pre u None = refl
came_from [] pre u (Some p) = refl
came_from (e ∷ path) pre u (Some p) =
    ap (λ (z : Open). came z (u.before + head_locks p + beside p e) (child p e) path) (sym (below_open u p e))
    ∙ ap (λ (z : ℕ). came (opened (way_below u p e).way) z (child p e) path) (sym (below_before u p e))
    ∙ came_from path (pre ++ e ∷ []) (way_below u p e) (child p e)

came_falling : (path pre : List ℕ) (u : WayAbove) (o : Option Proc) (s : LockSite) → Falling u → place_from way_below (At pre u o) path ≡ Some s → Falling s.above
came_falling path pre u None s d h = cc
came_falling [] pre u (Some p) s d h = let same : place pre u p ≡ s = cc in subst (λ (z : LockSite). Falling z.above) same d
came_falling (e ∷ path) pre u (Some p) s d h = came_falling path (pre ++ e ∷ []) (way_below u p e) (child p e) s (below_falling u p e d) h

-- from the root on
abbrev pub root : Proc → LockSite
root p = place [] (way_above [] 0) p

pub came_is : (p : Proc) (path : List ℕ) → came [] 0 (Some p) path ≡ option_map seen (place_from way_below (Some (root p)) path)
came_is p path = came_from path [] (way_above [] 0) (Some p)

pub root_falling : (p : Proc) (path : List ℕ) (s : LockSite) → place_from way_below (Some (root p)) path ≡ Some s → Falling s.above
root_falling p path s h = came_falling path [] (way_above [] 0) (Some p) s tt h

-- which locks are ended from a place on

-- lock n is that of an unlock at one of these
abbrev pub Ends : List LockSite → ℕ → Type 0
Ends ss n = (s : LockSite) × Contains ss s × (t : Tree) × IsUnlock s t × IsLockOf s.above.way n t

-- of the first b the first that is, or none is
abbrev pub IsLeast : ℕ → List LockSite → Option ℕ → Type 0
IsLeast b ss None = (n : ℕ) → n ≤ b → ¬ Ends ss n
IsLeast b ss (Some n) = Ends ss n × (n ≤ b) × ((k : ℕ) → k < n → ¬ Ends ss k)

ends_left : (xs ys : List LockSite) (n : ℕ) → Ends xs n → Ends (xs ++ ys) n
ends_left xs ys n h = (h.0, Contains-append_left xs ys h.0 h.1, h.2, h.3, h.4)

ends_right : (xs ys : List LockSite) (n : ℕ) → Ends ys n → Ends (xs ++ ys) n
ends_right xs ys n h = (h.0, Contains-append_right xs ys h.0 h.1, h.2, h.3, h.4)

ends_none : (xs ys : List LockSite) (n : ℕ) → ¬ Ends xs n → ¬ Ends ys n → ¬ Ends (xs ++ ys) n
ends_none xs ys n f g h = elim (Contains-append_cases xs ys h.0 h.1) [ inl c ↦ f (h.0, c, h.2, h.3, h.4) | inr c ↦ g (h.0, c, h.2, h.3, h.4) ]

least_append : (b : ℕ) (xs ys : List LockSite) (x y : Option ℕ) → IsLeast b xs x → IsLeast b ys y → IsLeast b (xs ++ ys) (lesser x y)
least_append b xs ys None None f g = λ n l. ends_none xs ys n (f n l) (g n l)
least_append b xs ys None (Some n) f g = (ends_right xs ys n g.0, g.1, λ k l. let low : n ≤ b = g.1 in ends_none xs ys k (f k (omega (arith, l, low))) (g.2 k l))
least_append b xs ys (Some m) None f g = (ends_left xs ys m f.0, f.1, λ k l. let low : m ≤ b = f.1 in ends_none xs ys k (f.2 k l) (g k (omega (arith, l, low))))
least_append b xs ys (Some m) (Some n) f g = by (cases_lt n m)
  where
    first : m ≤ n → min m n ≡ m
    first l = omega (arith, l)

    second : n < m → min m n ≡ n
    second l = omega (arith, l)

    by : (n < m) ⊎ (m ≤ n) → IsLeast b (xs ++ ys) (Some (min m n))
    by (inl l) =
        subst (λ z. IsLeast b (xs ++ ys) (Some z)) (sym (second l))
        (ends_right xs ys n g.0, g.1, λ k h. ends_none xs ys k (f.2 k (omega (arith, l, h))) (g.2 k h))
    by (inr l) =
        subst (λ z. IsLeast b (xs ++ ys) (Some z)) (sym (first l))
        (ends_left xs ys m f.0, f.1, λ k h. ends_none xs ys k (f.2 k h) (g.2 k (omega (arith, l, h))))

only : (s u : LockSite) → Contains (s ∷ []) u → s ≡ u
only s u c = elim (cons_cases s [] u c) [ inl e ↦ e | inr m ↦ absurd (let few = m.1 in omega (arith, few)) ]

-- a place that is no unlock ends none
ends_nothing : (s : LockSite) (b : ℕ) → unlock_at s.body ≡ None → IsLeast b (s ∷ []) None
ends_nothing s b e n l h =
    let same : s ≡ h.0 = only s h.0 h.1 in
    let there : unlock_at s.body ≡ Some (h.2, h.3.0) = ap (λ (z : LockSite). unlock_at z.body) same ∙ h.3.1 in
    let never : ◌≡◌ {A = Option (Tree × ℕ)} None (Some (h.2, h.3.0)) = sym e ∙ there in cc

some_pair : (t u : Tree) (l m : ℕ) → ◌≡◌ {A = Option (Tree × ℕ)} (Some (t, l)) (Some (u, m)) → t ≡ u
some_pair t u l m e = let same : (t, l) ≡ (u, m) = cc in ap (λ (z : Tree × ℕ). z.0) same

-- an unlock ends its own lock
ends_own : (path : List ℕ) (way : List LockMark) (k b : ℕ) (t : Tree) (l : ℕ) (p : Proc) → Descends (k + 1) way
    → IsLeast b (place path (way_above way k) (act (unlock t l) p) ∷ []) (low b (found t (opened way)))
ends_own path way k b t l p d = by (found t (opened way)) refl
  where
    s : LockSite
    s = place path (way_above way k) (act (unlock t l) p)

    -- a lock that is ended here is the one that is found
    is_found : (n : ℕ) → Ends (s ∷ []) n → found t (opened way) ≡ Some n
    is_found n h =
        let same : s ≡ h.0 = only s h.0 h.1 in
        let there : unlock_at s.body ≡ Some (h.2, h.3.0) = ap (λ (z : LockSite). unlock_at z.body) same ∙ h.3.1 in
        let term : t ≡ h.2 = some_pair t h.2 l h.3.0 there in
        let own : IsLockOf s.above.way n h.2 = subst (λ (z : LockSite). IsLockOf z.above.way n h.2) (sym same) h.4 in
        (own_is way (k + 1) d n t).0 (subst (IsLockOf way n) (sym term) own)

    here : (n : ℕ) → found t (opened way) ≡ Some n → Ends (s ∷ []) n
    here n e = (s, first_item s [], t, (l, refl), (own_is way (k + 1) d n t).1 e)

    with_bound : (n : ℕ) → found t (opened way) ≡ Some n → (c : Bool) → nat_lt n (b + 1) ≡ c → IsLeast b (s ∷ []) (cond c (Some n) None)
    with_bound n e true h = (here n e, (let less : n < b + 1 = (Decides-ltb n (b + 1)).0 h in omega (arith, less)), λ m l g. let other : Some m ≡ Some n = sym (is_found m g) ∙ e in let same : m ≡ n = cc in omega (arith, l, same))
    with_bound n e false h = λ m l g. let other : Some m ≡ Some n = sym (is_found m g) ∙ e in let same : m ≡ n = cc in let t : nat_lt n (b + 1) ≡ true = (Decides-ltb n (b + 1)).1 (omega (arith, l, same)) in cc

    by : (o : Option ℕ) → found t (opened way) ≡ o → IsLeast b (s ∷ []) (low b o)
    by None e = λ n l h. let never : Some n ≡ None = sym (is_found n h) ∙ e in cc
    by (Some n) e = with_bound n e (nat_lt n (b + 1)) refl

action_least : (path : List ℕ) (way : List LockMark) (k b : ℕ) (a : Action) (p : Proc) → Descends (k + 1) way
    → IsLeast b (place path (way_above way k) (act a p) ∷ []) (action_ends b (opened way) a)
action_least path way k b (unlock t l) p d = ends_own path way k b t l p d
action_least path way k b a p d = ends_nothing (place path (way_above way k) (act a p)) b refl

two_least : (b : ℕ) (s : LockSite) (xs ys : List LockSite) (x y : Option ℕ) → unlock_at s.body ≡ None → IsLeast b xs x → IsLeast b ys y
    → IsLeast b (s ∷ (xs ++ ys)) (lesser x y)
two_least b s xs ys x y e f g = least_append b (s ∷ []) (xs ++ ys) None (lesser x y) (ends_nothing s b e) (least_append b xs ys x y f g)

pub ends_is : (p : Proc) (path : List ℕ) (way : List LockMark) (k b : ℕ) → Descends (k + 1) way → IsLeast b (lock_sites_from path way k p) (ends b (opened way) k p)
ends_is nil path way k b d = ends_nothing (place path (way_above way k) nil) b refl
ends_is (parallel p q) path way k b d =
    two_least b (place path (way_above way k) (parallel p q)) (lock_sites_from (path ++ 1 ∷ []) way k p) (lock_sites_from (path ++ 2 ∷ []) way (k + lock_count p) q)
    (ends b (opened way) k p) (ends b (opened way) (k + lock_count p) q) refl
    (ends_is p (path ++ 1 ∷ []) way k b d) (ends_is q (path ++ 2 ∷ []) way (k + lock_count p) b (more_falling (way_above way k) (lock_count p) d))
ends_is (replicated p) path way k b d =
    least_append b (place path (way_above way k) (replicated p) ∷ []) (lock_sites_from (path ++ 1 ∷ []) way k p) None (ends b (opened way) k p)
    (ends_nothing (place path (way_above way k) (replicated p)) b refl) (ends_is p (path ++ 1 ∷ []) way k b d)
ends_is (act a p) path way k b d =
    subst (λ (o : Open). IsLeast b (place path (way_above way k) (act a p) ∷ lock_sites_from (path ++ 1 ∷ []) (way_behind way k a) (k + locks_set a) p) (lesser (action_ends b (opened way) a) (ends b o (k + locks_set a) p)))
    (behind_open way k a)
    (least_append b (place path (way_above way k) (act a p) ∷ []) (lock_sites_from (path ++ 1 ∷ []) (way_behind way k a) (k + locks_set a) p) (action_ends b (opened way) a) (ends b (opened (way_behind way k a)) (k + locks_set a) p)
    (action_least path way k b a p d) (ends_is p (path ++ 1 ∷ []) (way_behind way k a) (k + locks_set a) b (behind_descends way k a d)))
ends_is (test t u p q) path way k b d =
    two_least b (place path (way_above way k) (test t u p q)) (lock_sites_from (path ++ 1 ∷ []) way k p) (lock_sites_from (path ++ 2 ∷ []) way (k + lock_count p) q)
    (ends b (opened way) k p) (ends b (opened way) (k + lock_count p) q) refl
    (ends_is p (path ++ 1 ∷ []) way k b d) (ends_is q (path ++ 2 ∷ []) way (k + lock_count p) b (more_falling (way_above way k) (lock_count p) d))
ends_is (lookup t x p q) path way k b d =
    two_least b (place path (way_above way k) (lookup t x p q)) (lock_sites_from (path ++ 1 ∷ []) way k p) (lock_sites_from (path ++ 2 ∷ []) way (k + lock_count p) q)
    (ends b (opened way) k p) (ends b (opened way) (k + lock_count p) q) refl
    (ends_is p (path ++ 1 ∷ []) way k b d) (ends_is q (path ++ 2 ∷ []) way (k + lock_count p) b (more_falling (way_above way k) (lock_count p) d))

-- a lock that is open below and stands before a place is open there

behind_was_open : (way : List LockMark) (k n : ℕ) (a : Action) → n ≤ k → IsOpen (way_behind way k a) n → IsOpen way n
behind_was_open way k n (lock t l) le h = elim h [ inl e ↦ absurd (omega (arith, e, le)) | inr o ↦ o ]
behind_was_open way k n (unlock t l) le h = h.0
behind_was_open way k n _ le h = h

abbrev WasOpen : List LockSite → List LockMark → ℕ → Type 0
WasOpen ss way n = (u : LockSite) → Contains ss u → IsOpen u.above.way n → IsOpen way n

was_here : (path : List ℕ) (way : List LockMark) (k n : ℕ) (p : Proc) (ss : List LockSite) → WasOpen ss way n → WasOpen (place path (way_above way k) p ∷ ss) way n
was_here path way k n p ss h u c o = elim (cons_cases (place path (way_above way k) p) ss u c) [
  | inl e ↦ subst (λ (z : LockSite). IsOpen z.above.way n) (sym e) o
  | inr m ↦ h u m o
]

was_both : (xs ys : List LockSite) (way : List LockMark) (n : ℕ) → WasOpen xs way n → WasOpen ys way n → WasOpen (xs ++ ys) way n
was_both xs ys way n f g u c o = elim (Contains-append_cases xs ys u c) [ inl m ↦ f u m o | inr m ↦ g u m o ]

pub was_open : (p : Proc) (path : List ℕ) (way : List LockMark) (k n : ℕ) → n ≤ k → WasOpen (lock_sites_from path way k p) way n
was_open nil path way k n le = was_here path way k n nil [] (λ u c o. absurd (let few = c.1 in omega (arith, few)))
was_open (parallel p q) path way k n le =
    was_here path way k n (parallel p q) (lock_sites_from (path ++ 1 ∷ []) way k p ++ lock_sites_from (path ++ 2 ∷ []) way (k + lock_count p) q)
    (was_both (lock_sites_from (path ++ 1 ∷ []) way k p) (lock_sites_from (path ++ 2 ∷ []) way (k + lock_count p) q) way n
    (was_open p (path ++ 1 ∷ []) way k n le) (was_open q (path ++ 2 ∷ []) way (k + lock_count p) n (omega (arith, le))))
was_open (replicated p) path way k n le = was_here path way k n (replicated p) (lock_sites_from (path ++ 1 ∷ []) way k p) (was_open p (path ++ 1 ∷ []) way k n le)
was_open (act a p) path way k n le =
    was_here path way k n (act a p) (lock_sites_from (path ++ 1 ∷ []) (way_behind way k a) (k + locks_set a) p)
    (λ u c o. behind_was_open way k n a le (was_open p (path ++ 1 ∷ []) (way_behind way k a) (k + locks_set a) n (omega (arith, le)) u c o))
was_open (test t v p q) path way k n le =
    was_here path way k n (test t v p q) (lock_sites_from (path ++ 1 ∷ []) way k p ++ lock_sites_from (path ++ 2 ∷ []) way (k + lock_count p) q)
    (was_both (lock_sites_from (path ++ 1 ∷ []) way k p) (lock_sites_from (path ++ 2 ∷ []) way (k + lock_count p) q) way n
    (was_open p (path ++ 1 ∷ []) way k n le) (was_open q (path ++ 2 ∷ []) way (k + lock_count p) n (omega (arith, le))))
was_open (lookup t x p q) path way k n le =
    was_here path way k n (lookup t x p q) (lock_sites_from (path ++ 1 ∷ []) way k p ++ lock_sites_from (path ++ 2 ∷ []) way (k + lock_count p) q)
    (was_both (lock_sites_from (path ++ 1 ∷ []) way k p) (lock_sites_from (path ++ 2 ∷ []) way (k + lock_count p) q) way n
    (was_open p (path ++ 1 ∷ []) way k n le) (was_open q (path ++ 2 ∷ []) way (k + lock_count p) n (omega (arith, le))))

-- a lock is ended below a place and open there exactly where it is that of an unlock below and one of those before the place

abbrev pub sites_below : LockSite → List LockSite
sites_below s = lock_sites_from s.path s.above.way s.above.before s.body

pub ended_is : (s : LockSite) (n : ℕ) → Falling s.above → IsEndedBelow s n → Ends (sites_below s) n × (n ≤ s.above.before)
ended_is s n d h =
    let r = open_stands s.above.way n h.is_open in
    let less : n < s.above.before + 1 = stands_below s.above.way (s.above.before + 1) n r.0 d r.1 in
    ((h.below, h.stands, h.term, h.is, h.own), omega (arith, less))

pub is_ended : (s : LockSite) (n : ℕ) → n ≤ s.above.before → Ends (sites_below s) n → IsEndedBelow s n
is_ended s n le h = record {
  is_open = was_open s.body s.path s.above.way s.above.before n le h.0 h.1 h.4.is_open;
  below = h.0;
  stands = h.1;
  term = h.2;
  is = h.3;
  own = h.4;
}

-- what the walk below says of the place
abbrev pub IsFirstTold : LockSite → Option ℕ → Type 0
IsFirstTold s None = (n : ℕ) → ¬ IsEndedBelow s n
IsFirstTold s (Some n) = IsFirstEnded s n

pub first_told : (s : LockSite) → Falling s.above → IsFirstTold s (ends s.above.before (opened s.above.way) s.above.before s.body)
first_told s d = by (ends s.above.before (opened s.above.way) s.above.before s.body) (ends_is s.body s.path s.above.way s.above.before s.above.before d)
  where
    by : (o : Option ℕ) → IsLeast s.above.before (sites_below s) o → IsFirstTold s o
    by None h = λ n e. let r = ended_is s n d e in h n r.1 r.0
    by (Some n) h = record {
      ended = is_ended s n h.1 h.0;
      first = λ k l e. h.2 k l (ended_is s k d e).0;
    }
