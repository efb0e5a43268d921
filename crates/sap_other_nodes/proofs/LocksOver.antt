-- Where a lock of this number stands on a way, and what the code tells of a parallel or a replication.
use Rattle.std.proofs.Common.{◌≡◌, ℕ, zero, suc, ◌+◌, ◌<◌, ◌≤◌, List, [], ◌∷◌, ◌++◌, Option, Some, None, Bool, true, false, cond, length, take, inl, inr, arith, refl, sym, ap, subst, ◌∙◌}
use Rattle.std.specs.Prelude.{◌⊎◌, Contains, MatchOption, nat_eq, option_map}
use Rattle.std.proofs.lemmas.Bool.Decides.{Decides-eqb}
use Rattle.sap_terms.specs.Tree.{Tree}
use Rattle.sap_terms.proofs.PlainLaws.Items.{contains_got}
use Rattle.sap_process.specs.Action.{Action, lock, unlock}
use Rattle.sap_process.specs.Places.{child, place, place_from}
use Rattle.sap_process.specs.Proc.{Proc, nil, parallel, replicated, act, test, lookup}
use Rattle.sap_locks.specs.Annotation.{IsFirstLockFlaw, is_forking, lock_at, over}
use Rattle.sap_locks.specs.Ways.{LockMark, LockSite, WayAbove, lock_sites, way_above, way_behind, way_below}
use Rattle.sap_other_nodes.specs.OtherLocks.{IsEndedBelow, IsFirstEnded, IsLockNumber, IsLockOver}
use Rattle.sap_other_nodes.specs.code.LockWalks.{came, over_at, ends, opened, head_locks, beside, action_is, is_number, depth_from, depth_of, lock_over}
use Rattle.sap_other_nodes.proofs.OpenLocks.{Stands, open_stands}
use Rattle.sap_other_nodes.proofs.LockPlaces.{At, Falling, IsFirstTold, below_before, came_is, first_told, root, root_falling, seen}

some_site : (s t : LockSite) → ◌≡◌ {A = Option LockSite} (Some s) (Some t) → s ≡ t
some_site s t e = cc

-- the head is lock n, or isn't

number_is : (n k : ℕ) (p : Proc) → is_number n k p ≡ true → (t : Tree) × (l : ℕ) × (lock_at p ≡ Some (t, l)) × (k + 1 ≡ n)
number_is n k (act (lock t l) p) h = (t, l, refl, (Decides-eqb (k + 1) n).0 h)
number_is n k _ h = cc

is_the_number : (n k : ℕ) (p : Proc) (t : Tree) (l : ℕ) → lock_at p ≡ Some (t, l) → k + 1 ≡ n → is_number n k p ≡ true
is_the_number n k (act (lock u m) p) t l e h = (Decides-eqb (k + 1) n).1 h
is_the_number n k _ t l e h = cc

-- below a head that isn't lock n, the way has no lock n that it hasn't above
behind_stands : (n : ℕ) (way : List LockMark) (k : ℕ) (a : Action) (t : Tree) → action_is n k a ≡ false → Stands (way_behind way k a) n t → Stands way n t
behind_stands n way k (lock u l) t e (inl h) = let same : nat_eq (k + 1) n ≡ true = (Decides-eqb (k + 1) n).1 h.0 in absurd (cc)
behind_stands n way k (lock u l) t e (inr h) = h
behind_stands n way k (unlock u l) t e h = h
behind_stands n way k _ t e h = h

below_stands : (n : ℕ) (u : WayAbove) (p : Proc) (e : ℕ) (t : Tree) → is_number n u.before p ≡ false → Stands (way_below u p e).way n t → Stands u.way n t
below_stands n u (act a p) e t h s = behind_stands n u.way u.before a t h s
below_stands n u nil e t h s = s
below_stands n u (parallel p q) zero t h s = s
below_stands n u (parallel p q) (suc zero) t h s = s
below_stands n u (parallel p q) (suc (suc zero)) t h s = s
below_stands n u (parallel p q) (suc (suc (suc e))) t h s = s
below_stands n u (replicated p) e t h s = s
below_stands n u (test v w p q) zero t h s = s
below_stands n u (test v w p q) (suc zero) t h s = s
below_stands n u (test v w p q) (suc (suc zero)) t h s = s
below_stands n u (test v w p q) (suc (suc (suc e))) t h s = s
below_stands n u (lookup v x p q) zero t h s = s
below_stands n u (lookup v x p q) (suc zero) t h s = s
below_stands n u (lookup v x p q) (suc (suc zero)) t h s = s
below_stands n u (lookup v x p q) (suc (suc (suc e))) t h s = s

-- what is told of the depth, so many digits before: the lock is set that far along the path
record IsSetAt (n : ℕ) (pre : List ℕ) (u : WayAbove) (o : Option Proc) (path : List ℕ) (d : ℕ) (told : Option ℕ) : Type 0 where
  far : ℕ
  is : told ≡ Some (d + far)
  short : far < length path
  site : LockSite
  there : place_from way_below (At pre u o) (take far path) ≡ Some site
  sets : IsLockNumber site n

-- a lock that is on the way to the end of the path, and wasn't before, is set along it
set_along : (n : ℕ) (t : Tree) (path pre : List ℕ) (u : WayAbove) (o : Option Proc) (d : ℕ) (s : LockSite) → place_from way_below (At pre u o) path ≡ Some s
    → Stands s.above.way n t → (Stands u.way n t → ⊥) → IsSetAt n pre u o path d (depth_from n u.before d o path)
set_along n t path pre u None d s e h new = absurd (never e)
  where
    never : ◌≡◌ {A = Option LockSite} None (Some s) → ⊥
    never x = cc
set_along n t [] pre u (Some p) d s e h new = absurd (new (subst (λ (z : LockSite). Stands z.above.way n t) (sym (some_site (place pre u p) s e)) h))
set_along n t (e ∷ path) pre u (Some p) d s h stands new =
    by (λ k. set_along n t path (pre ++ e ∷ []) (way_below u p e) (child p e) (d + 1) s h stands k) (is_number n u.before p) refl
  where
    next : WayAbove
    next = way_below u p e

    here : is_number n u.before p ≡ true → IsSetAt n pre u (Some p) (e ∷ path) d (Some d)
    here is = let r = number_is n u.before p is in record {
      far = 0;
      is = ap Some (omega arith);
      short = omega arith;
      site = place pre u p;
      there = refl;
      sets = record { term = r.0; label = r.1; is = r.2; number = r.3 };
    }

    further : IsSetAt n (pre ++ e ∷ []) next (child p e) path (d + 1) (depth_from n next.before (d + 1) (child p e) path)
        → IsSetAt n pre u (Some p) (e ∷ path) d (depth_from n (u.before + head_locks p + beside p e) (d + 1) (child p e) path)
    further r = record {
      far = suc r.far;
      is = ap (λ k. depth_from n k (d + 1) (child p e) path) (sym (below_before u p e)) ∙ r.is ∙ ap Some (omega arith);
      short = let l = r.short in omega (arith, l);
      site = r.site;
      there = r.there;
      sets = r.sets;
    }

    by : ((Stands next.way n t → ⊥) → IsSetAt n (pre ++ e ∷ []) next (child p e) path (d + 1) (depth_from n next.before (d + 1) (child p e) path)) → (b : Bool) → is_number n u.before p ≡ b
        → IsSetAt n pre u (Some p) (e ∷ path) d (cond b (Some d) (depth_from n (u.before + head_locks p + beside p e) (d + 1) (child p e) path))
    by later true is = here is
    by later false is = further (later (λ k. new (below_stands n u p e t is k)))

-- and where a lock of this number is set along the path, its depth is told

steps_up : (path pre : List ℕ) (u : WayAbove) (o : Option Proc) (s : LockSite) → place_from way_below (At pre u o) path ≡ Some s → u.before ≤ s.above.before
steps_up path pre u None s e = cc
steps_up [] pre u (Some p) s e = let same : u.before ≡ s.above.before = ap (λ (z : LockSite). z.above.before) (some_site (place pre u p) s e) in omega (arith, same)
steps_up (e ∷ path) pre u (Some p) s h =
    let later : (way_below u p e).before ≤ s.above.before = steps_up path (pre ++ e ∷ []) (way_below u p e) (child p e) s h in
    let is : (way_below u p e).before ≡ u.before + head_locks p + beside p e = below_before u p e in
    omega (arith, later, is)

lock_head : (n k : ℕ) (p : Proc) → is_number n k p ≡ true → head_locks p ≡ 1
lock_head n k (act (lock t l) p) h = refl
lock_head n k _ h = cc

told_depth : (n : ℕ) (path pre : List ℕ) (u : WayAbove) (o : Option Proc) (d far : ℕ) (s : LockSite) → far < length path
    → place_from way_below (At pre u o) (take far path) ≡ Some s → IsLockNumber s n → depth_from n u.before d o path ≡ Some (d + far)
told_depth n path pre u None d far s l e h = cc
told_depth n [] pre u (Some p) d far s l e h = absurd (omega (arith, l))
told_depth n (e ∷ path) pre u (Some p) d zero s l h sets =
    let same : place pre u p ≡ s = some_site (place pre u p) s h in
    let is : is_number n u.before p ≡ true =
    is_the_number n u.before p sets.term sets.label (ap (λ (z : LockSite). lock_at z.body) same ∙ sets.is) (ap (λ (z : LockSite). z.above.before + 1) same ∙ sets.number) in
    rw is (ap Some (omega arith))
told_depth n (e ∷ path) pre u (Some p) d (suc far) s l h sets =
    by (told_depth n path (pre ++ e ∷ []) (way_below u p e) (child p e) (d + 1) far s (omega (arith, l)) h sets) (is_number n u.before p) refl
  where
    next : WayAbove
    next = way_below u p e

    later : next.before ≤ s.above.before
    later = steps_up (take far path) (pre ++ e ∷ []) next (child p e) s h

    not_here : is_number n u.before p ≡ true → ⊥
    not_here is =
        let one : head_locks p ≡ 1 = lock_head n u.before p is in
        let r = number_is n u.before p is in
        let this : u.before + 1 ≡ n = r.3 in
        let that : s.above.before + 1 ≡ n = sets.number in
        let sum : next.before ≡ u.before + head_locks p + beside p e = below_before u p e in
        let up : next.before ≤ s.above.before = later in
        omega (arith, one, this, that, sum, up)

    by : depth_from n next.before (d + 1) (child p e) path ≡ Some (d + 1 + far) → (b : Bool) → is_number n u.before p ≡ b
        → cond b (Some d) (depth_from n (u.before + head_locks p + beside p e) (d + 1) (child p e) path) ≡ Some (d + suc far)
    by later true is = absurd (not_here is)
    by later false is =
        ap (λ k. depth_from n k (d + 1) (child p e) path) (sym (below_before u p e))
        ∙ later
        ∙ ap Some (omega arith)

-- from the root on

-- the places of the list are those to which paths lead
pub record AreByPath (p : Proc) : Type 0 where
  pub by_path : (s : LockSite) → Contains (lock_sites p) s → place_from way_below (Some (root p)) s.path ≡ Some s
  pub listed : (path : List ℕ) (s : LockSite) → place_from way_below (Some (root p)) path ≡ Some s → Contains (lock_sites p) s × (s.path ≡ path)

-- the place that the walk comes to
at_place : (p : Proc) (path : List ℕ) (s : LockSite) → place_from way_below (Some (root p)) path ≡ Some s
    → over_at (came [] 0 (Some p) path) ≡ cond (is_forking s.body) (ends s.above.before (opened s.above.way) s.above.before s.body) None
at_place p path s h = ap over_at (came_is p path ∙ ap (option_map seen) h)

-- a fork whose first ended lock has this number is told by where that is set
fork_told : (p : Proc) → AreByPath p → (path : List ℕ) (s : LockSite) (n : ℕ) → place_from way_below (Some (root p)) path ≡ Some s → is_forking s.body ≡ true
    → IsFirstEnded s n → (d : ℕ) × (depth_from n 0 0 (Some p) path ≡ Some d) × IsLockOver p path d
fork_told p by path s n h forks first =
    let r = open_stands s.above.way n first.ended.is_open in
    let set : IsSetAt n [] (way_above [] 0) (Some p) path 0 (depth_from n 0 0 (Some p) path) = set_along n r.0 path [] (way_above [] 0) (Some p) 0 s h r.1 (λ x. x) in
    let fork = by.listed path s h in
    let lock = by.listed (take set.far path) set.site set.there in (
      set.far,
      set.is ∙ ap Some (omega arith),
      record {
        fork = s;
        stands = fork.0;
        path_is = fork.1;
        forks = forks;
        number = n;
        first = first;
        lock = set.site;
        there = lock.0;
        above = set.short;
        lock_path = lock.1;
        sets = set.sets;
      },
    )

-- the number of a first one
first_same : (s : LockSite) (m n : ℕ) → IsFirstEnded s m → IsFirstEnded s n → m ≡ n
first_same s m n f g = by (order m n)
  where
    order : (a b : ℕ) → (a < b) ⊎ ((a ≡ b) ⊎ (b < a))
    order zero zero = inr (inl refl)
    order zero (suc b) = inl (omega arith)
    order (suc a) zero = inr (inr (omega arith))
    order (suc a) (suc b) = elim (order a b) [ inl l ↦ inl (omega (arith, l)) | inr r ↦ elim r [ inl e ↦ inr (inl (ap suc e)) | inr l ↦ inr (inr (omega (arith, l))) ] ]

    by : (m < n) ⊎ ((m ≡ n) ⊎ (n < m)) → m ≡ n
    by (inl l) = absurd (g.first m l f.ended)
    by (inr (inl e)) = e
    by (inr (inr l)) = absurd (f.first n l g.ended)

-- where there is one, it is told
is_told : (p : Proc) → AreByPath p → (path : List ℕ) (d : ℕ) → IsLockOver p path d → lock_over p path ≡ Some d
is_told p by path d h = go (ends h.fork.above.before (opened h.fork.above.way) h.fork.above.before h.fork.body) refl (first_told h.fork falling)
  where
    there : place_from way_below (Some (root p)) path ≡ Some h.fork
    there = subst (λ v. place_from way_below (Some (root p)) v ≡ Some h.fork) h.path_is (by.by_path h.fork h.stands)

    falling : Falling h.fork.above
    falling = root_falling p path h.fork there

    lock_there : place_from way_below (Some (root p)) (take d path) ≡ Some h.lock
    lock_there = subst (λ v. place_from way_below (Some (root p)) v ≡ Some h.lock) h.lock_path (by.by_path h.lock h.there)

    go : (o : Option ℕ) → ends h.fork.above.before (opened h.fork.above.way) h.fork.above.before h.fork.body ≡ o → IsFirstTold h.fork o → lock_over p path ≡ Some d
    go None e f = absurd (f h.number h.first.ended)
    go (Some n) e f =
        let same : n ≡ h.number = first_same h.fork n h.number f h.first in
        let over_is : over_at (came [] 0 (Some p) path) ≡ Some h.number = at_place p path h.fork there ∙ rw h.forks (e ∙ ap Some same) in
        ap (λ (z : Option ℕ). depth_of z p path) over_is ∙ told_depth h.number path [] (way_above [] 0) (Some p) 0 d h.lock h.above lock_there h.sets ∙ ap Some (omega arith)

-- what is told is so
pub told_so : (p : Proc) → AreByPath p → (path : List ℕ) (d : ℕ) → lock_over p path ≡ Some d → IsLockOver p path d
told_so p by path d h = from_place (place_from way_below (Some (root p)) path) refl
  where
    some_same : (a b : ℕ) → ◌≡◌ {A = Option ℕ} (Some a) (Some b) → a ≡ b
    some_same a b e = cc

    fork : (s : LockSite) → place_from way_below (Some (root p)) path ≡ Some s → (b : Bool) → is_forking s.body ≡ b → (o : Option ℕ)
        → ends s.above.before (opened s.above.way) s.above.before s.body ≡ o → IsFirstTold s o → IsLockOver p path d
    fork s there false forks o e f = let none : over_at (came [] 0 (Some p) path) ≡ None = at_place p path s there ∙ rw forks refl in
        let never : ◌≡◌ {A = Option ℕ} None (Some d) = ap (λ (z : Option ℕ). depth_of z p path) (sym none) ∙ h in absurd (cc)
    fork s there true forks None e f = let none : over_at (came [] 0 (Some p) path) ≡ None = at_place p path s there ∙ rw forks e in
        let never : ◌≡◌ {A = Option ℕ} None (Some d) = ap (λ (z : Option ℕ). depth_of z p path) (sym none) ∙ h in absurd (cc)
    fork s there true forks (Some n) e f =
        let some : over_at (came [] 0 (Some p) path) ≡ Some n = at_place p path s there ∙ rw forks e in
        let r = fork_told p by path s n there forks f in
        let same : r.0 ≡ d = some_same r.0 d (sym r.1 ∙ ap (λ (z : Option ℕ). depth_of z p path) (sym some) ∙ h) in
        subst (IsLockOver p path) same r.2

    from_place : (o : Option LockSite) → place_from way_below (Some (root p)) path ≡ o → IsLockOver p path d
    from_place None e = let none : over_at (came [] 0 (Some p) path) ≡ None = ap over_at (came_is p path ∙ ap (option_map seen) e) in
        let never : ◌≡◌ {A = Option ℕ} None (Some d) = ap (λ (z : Option ℕ). depth_of z p path) (sym none) ∙ h in absurd (cc)
    from_place (Some s) e = fork s e (is_forking s.body) refl (ends s.above.before (opened s.above.way) s.above.before s.body) refl (first_told s (root_falling p path s e))

pub over_told : (p : Proc) → AreByPath p → (path : List ℕ) (o : Option ℕ) → o ≡ lock_over p path
    → MatchOption o ((d : ℕ) → IsLockOver p path d → ⊥) (λ d. IsLockOver p path d)
over_told p by path None e = λ d h. let never : ◌≡◌ {A = Option ℕ} None (Some d) = e ∙ is_told p by path d h in cc
over_told p by path (Some d) e = told_so p by path d (sym e)

pub one_over : (p : Proc) → AreByPath p → (path : List ℕ) (d e : ℕ) → IsLockOver p path d → IsLockOver p path e → d ≡ e
one_over p by path d e f g = let same : ◌≡◌ {A = Option ℕ} (Some d) (Some e) = sym (is_told p by path d f) ∙ is_told p by path e g in cc

-- no other depth than the one that is told
pub not_told : (p : Proc) → AreByPath p → (path : List ℕ) (d e : ℕ) → lock_over p path ≡ Some e → (d ≡ e → ⊥) → IsLockOver p path d → ⊥
not_told p by path d e h apart f = let same : ◌≡◌ {A = Option ℕ} (Some d) (Some e) = sym (is_told p by path d f) ∙ h in apart (cc)

-- a place that can't be annotated since a lock is open over it has one
pub some_over : (p : Proc) → AreByPath p → (path : List ℕ) → IsFirstLockFlaw p over path → (d : ℕ) × IsLockOver p path d
some_over p by path h = go (ends s.above.before (opened s.above.way) s.above.before s.body) refl (first_told s (root_falling p path s there))
  where
    s : LockSite
    s = h.site

    there : place_from way_below (Some (root p)) path ≡ Some s
    there = subst (λ v. place_from way_below (Some (root p)) v ≡ Some s) h.path_is (by.by_path s (contains_got (lock_sites p) s h.place h.stands))

    ended : IsEndedBelow s h.flaw.number
    ended = record { is_open = h.flaw.is_open; below = h.flaw.below; stands = h.flaw.stands; term = h.flaw.term; is = h.flaw.is; own = h.flaw.own }

    go : (o : Option ℕ) → ends s.above.before (opened s.above.way) s.above.before s.body ≡ o → IsFirstTold s o → (d : ℕ) × IsLockOver p path d
    go None e f = absurd (f h.flaw.number ended)
    go (Some n) e f = let r = fork_told p by path s n there h.flaw.forks f in (r.0, r.2)
