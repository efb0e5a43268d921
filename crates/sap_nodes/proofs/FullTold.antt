-- The way along a path to what is the first too many.
use Rattle.std.proofs.Common.{◌≡◌, ℕ, zero, suc, ◌+◌, ◌-◌, ◌<◌, ◌≤◌, List, [], ◌∷◌, Bool, true, false, Option, Some, None, inl, inr, arith, length, nat_eq, refl, sym, ap, subst, ◌∙◌}
use Rattle.std.specs.Prelude.{◌⊎◌, not, slice_get, nat_lt, if◌then◌else◌}
use Rattle.std.proofs.lemmas.Bool.Decides.{Decides-ltb}
use Rattle.std.proofs.lemmas.List.{length-append}
use Rattle.std.proofs.lemmas.List.Elements.{All-head, All-tail}
use Rattle.sap_terms.specs.Path.{IsDigit, AreDigits}
use Rattle.sap_terms.specs.declared.limits.TheConstants.{MOST_SCOPE_NAMES}
use Rattle.sap_terms.specs.declared.var.Var.{Var}
use Rattle.sap_terms.proofs.PlainLaws.Known.{clash}
use Rattle.sap_process.specs.Action.{new, out, send, input, receive, event, insert, delete, lock, unlock, embedded}
use Rattle.sap_process.specs.Places.{first_child, second_child, child}
use Rattle.sap_process.specs.Proc.{Proc, nil, parallel, replicated, act, test, lookup}
use Rattle.sap_process.specs.Sites.{Above, above_of, scope_below, bound_by, message_var}
use Rattle.sap_nodes.specs.FullScope.{IsFull, IsLock, Fills, here, further, told_node, IsFillingTold}
use Rattle.sap_nodes.specs.code.Full.{head_bound, is_lock, is_past, settled, fill_along}
use Rattle.sap_nodes.specs.declared.full.Spoken.{Spoken}
use Rattle.sap_nodes.specs.declared.trail.Trail.{Trail}
use Rattle.sap_nodes.proofs.LastNames.{Short, AtHead, HeadOutcome, known_head, head_outcome}

-- what is above grows along a way
pub fuller : (u : Above) (p : Proc) (e : ℕ) → IsFull u → IsFull (scope_below u p e)
fuller u nil e f = f
fuller u (parallel p q) e f = f
fuller u (replicated p) e f = f
fuller u (act a p) e f = let n = length-append u.scope (bound_by u.scope a) in omega (arith, n, f)
fuller u (test t v p q) e f = f
fuller u (lookup t x p q) zero f = f
fuller u (lookup t x p q) (suc zero) f = let n = length-append u.scope (message_var x ∷ []) in omega (arith, n, f)
fuller u (lookup t x p q) (suc (suc n)) f = f

-- where it is too much already, nothing is the first too many
pub none_full : (u : Above) (p : Proc) (v : List ℕ) (d : ℕ) (o : Option ℕ) → Fills u p v d o → IsFull u → ⊥
none_full u p _ _ o (here room full last) f = room f
none_full u p (e ∷ v) _ o (further {q = q} {d = d} c fills) f = none_full (scope_below u p e) q v d o fills (fuller u p e f)

-- a way begins with what is handed down, or goes on
turned : (u : Above) (p : Proc) (e : ℕ) (v : List ℕ) (d : ℕ) (o : Option ℕ) → Fills u p (e ∷ v) d o
    → IsFull (scope_below u p e) ⊎ ((q : Proc) × (child p e ≡ Some q) × (k : ℕ) × Fills (scope_below u p e) q v k o)
turned u p e v _ o (here room full last) = inl full
turned u p e v _ o (further {q = q} {d = d} c fills) = inr (q, c, d, fills)

no_way : (u : Above) (p : Proc) (d : ℕ) (o : Option ℕ) → Fills u p [] d o → ⊥
no_way u p d o h = elim h [ ]

-- what is told along these digits, where so many were gone
abbrev Along : Above → Proc → List ℕ → ℕ → Option Spoken → Type 0
Along u p v depth None = (d : ℕ) (o : Option ℕ) → Fills u p v d o → ⊥
Along u p v depth (Some f) = (d : ℕ) × (o : Option ℕ) × Fills u p v d o × (f.depth ≡ depth + d) × (f.node ≡ told_node o)

-- what is told below the place
abbrev Rest : Proc → ℕ → List ℕ → ℕ → Above → Option Spoken → Type 0
Rest p e v depth u o = ((q : Proc) × (child p e ≡ Some q) × Along u q v (depth + 1) o) ⊎ ((child p e ≡ None) × (o ≡ None))

pub got_below : (xs : List Var) (k : ℕ) (x : Var) → slice_get xs k ≡ Some x → k < length xs
got_below [] k x e = cc
got_below (z ∷ zs) zero x e = omega arith
got_below (z ∷ zs) (suc k) x e = let n = got_below zs k x e in omega (arith, n)

-- the locks that are set below
pub locks_below : (u : Above) (p : Proc) (e : ℕ) → (scope_below u p e).locks ≡ (if is_lock p then u.locks + 1 else u.locks)
locks_below u nil e = refl
locks_below u (parallel p q) e = refl
locks_below u (replicated p) e = refl
locks_below u (act (new x) p) e = omega arith
locks_below u (act (out t) p) e = omega arith
locks_below u (act (send t v) p) e = omega arith
locks_below u (act (input t) p) e = omega arith
locks_below u (act (receive t v) p) e = omega arith
locks_below u (act (event f) p) e = omega arith
locks_below u (act (insert t v) p) e = omega arith
locks_below u (act (delete t) p) e = omega arith
locks_below u (act (lock t n) p) e = refl
locks_below u (act (unlock t n) p) e = omega arith
locks_below u (act (embedded l m r) p) e = omega arith
locks_below u (test t v p q) e = refl
locks_below u (lookup t x p q) zero = refl
locks_below u (lookup t x p q) (suc zero) = refl
locks_below u (lookup t x p q) (suc (suc n)) = refl

pub locking : (p : Proc) → is_lock p ≡ true → IsLock p
locking (act (lock t n) p) e = tt
locking (act (new x) p) e = cc
locking (act (out t) p) e = cc
locking (act (send t v) p) e = cc
locking (act (input t) p) e = cc
locking (act (receive t v) p) e = cc
locking (act (event f) p) e = cc
locking (act (insert t v) p) e = cc
locking (act (delete t) p) e = cc
locking (act (unlock t n) p) e = cc
locking (act (embedded l m r) p) e = cc
locking nil e = cc
locking (parallel p q) e = cc
locking (replicated p) e = cc
locking (test t v p q) e = cc
locking (lookup t x p q) e = cc

more_locks : (b : Bool) (k l : ℕ) → l ≡ (if b then k + 1 else k) → k ≤ l
more_locks true k l e = omega (arith, e)
more_locks false k l e = omega (arith, e)

-- too many known, with a lock or without
past_full : (b : Bool) (n locks l : ℕ) → n ≤ MOST_SCOPE_NAMES - locks → locks ≤ MOST_SCOPE_NAMES → is_past b n (MOST_SCOPE_NAMES - locks) ≡ true
    → l ≡ (if b then locks + 1 else locks) → (b ≡ true) × (MOST_SCOPE_NAMES < n + l)
past_full true n locks l few h e is = by (nat_lt n (MOST_SCOPE_NAMES - locks)) refl e where
  by : (t : Bool) → nat_lt n (MOST_SCOPE_NAMES - locks) ≡ t → not t ≡ true → (true ≡ true) × (MOST_SCOPE_NAMES < n + l)
  by true d k = cc
  by false d k = (refl, reach (λ m. clash (nat_lt n (MOST_SCOPE_NAMES - locks)) ((Decides-ltb n (MOST_SCOPE_NAMES - locks)).1 m) d)) where
    reach : (n < MOST_SCOPE_NAMES - locks → ⊥) → MOST_SCOPE_NAMES < n + l
    reach refuted = omega (arith, refuted, few, h, is)
past_full false n locks l few h e is = let m = (Decides-ltb (MOST_SCOPE_NAMES - locks) n).0 e in absurd (omega (arith, m, few))

past_room : (b : Bool) (n locks l : ℕ) → n ≤ MOST_SCOPE_NAMES - locks → locks ≤ MOST_SCOPE_NAMES → is_past b n (MOST_SCOPE_NAMES - locks) ≡ false
    → l ≡ (if b then locks + 1 else locks) → n + l ≤ MOST_SCOPE_NAMES
past_room true n locks l few h e is = by (nat_lt n (MOST_SCOPE_NAMES - locks)) refl e where
  by : (t : Bool) → nat_lt n (MOST_SCOPE_NAMES - locks) ≡ t → not t ≡ false → n + l ≤ MOST_SCOPE_NAMES
  by true d k = let m = (Decides-ltb n (MOST_SCOPE_NAMES - locks)).0 d in omega (arith, m, is, h)
  by false d k = cc
past_room false n locks l few h e is = omega (arith, is, few, h)

some_one : (p q : Proc) → Some p ≡ Some q → p ≡ q
some_one p q e = cc

some_none : (q : Proc) → Some q ≡ None → ⊥
some_none q e = cc

-- one place on the way
module _ (known : List Var) (locks : ℕ) (p : Proc) (e : ℕ) (v : List ℕ) (depth : ℕ) (few : length known + locks ≤ MOST_SCOPE_NAMES) where
  abbrev inner : Above
  inner = scope_below (above_of known locks) p e

  abbrev met : Trail
  met = head_bound (MOST_SCOPE_NAMES - locks) known p e

  room : IsFull (above_of known locks) → ⊥
  room f = omega (arith, f, few)

  long : length met.known ≡ length inner.scope
  long = ap length (known_head known locks p e)

  -- a name is told
  at_name : (h : AtHead known locks p e met) → Along (above_of known locks) p (e ∷ v) depth (Some (record { depth = depth; node = Some met.search.at }))
  at_name h =
      let n = got_below inner.scope (MOST_SCOPE_NAMES - locks) h.last.var h.last.last in
      let l = more_locks (is_lock p) locks inner.locks (locks_below (above_of known locks) p e) in
      (0, Some h.place, here room (omega (arith, n, l, few)) h.last, omega arith, ap Some h.told)

  -- the lock is
  at_lock : is_lock p ≡ true → MOST_SCOPE_NAMES < length met.known + inner.locks
      → Along (above_of known locks) p (e ∷ v) depth (Some (record { depth = depth; node = None }))
  at_lock is full = (0, None, here room (let n = long in omega (arith, n, full)) (locking p is), omega arith, refl)

  -- it goes on
  goes_on : length met.known + inner.locks ≤ MOST_SCOPE_NAMES → (o : Option Spoken) → Rest p e v depth inner o → Along (above_of known locks) p (e ∷ v) depth o
  goes_on fits None (inl r) = λ d o h. by o (turned (above_of known locks) p e v d o h) where
    by : (o : Option ℕ) → IsFull inner ⊎ ((q : Proc) × (child p e ≡ Some q) × (k : ℕ) × Fills inner q v k o) → ⊥
    by o (inl full) = let n = long in omega (arith, n, full, fits)
    by o (inr h) = r.2 h.2 o (subst (λ (q : Proc). Fills inner q v h.2 o) (some_one h.0 r.0 (sym h.1 ∙ r.1)) h.3)
  goes_on fits None (inr r) = λ d o h. by o (turned (above_of known locks) p e v d o h) where
    by : (o : Option ℕ) → IsFull inner ⊎ ((q : Proc) × (child p e ≡ Some q) × (k : ℕ) × Fills inner q v k o) → ⊥
    by o (inl full) = let n = long in omega (arith, n, full, fits)
    by o (inr h) = some_none h.0 (sym h.1 ∙ r.0)
  goes_on fits (Some f) (inl r) = let told = r.2 in (suc told.0, told.1, further r.1 told.2, (let k = told.3 in omega (arith, k)), told.4)
  goes_on fits (Some f) (inr r) = absurd (no_filling f r.1) where
    no_filling : (g : Spoken) → Some g ≡ None → ⊥
    no_filling g k = cc

  one_place : (below : Option Spoken) → (length met.known + inner.locks ≤ MOST_SCOPE_NAMES → Rest p e v depth inner below)
      → Along (above_of known locks) p (e ∷ v) depth (settled met (MOST_SCOPE_NAMES - locks) (is_lock p) depth below)
  one_place below rest = by (head_outcome known locks p e few) where
    short : (s : Short (MOST_SCOPE_NAMES - locks) met) (b : Bool) → is_past (is_lock p) (length met.known) (MOST_SCOPE_NAMES - locks) ≡ b
        → Along (above_of known locks) p (e ∷ v) depth (if b then Some (record { depth = depth; node = None }) else below)
    short s true d =
        let r = past_full (is_lock p) (length met.known) locks inner.locks s.few (omega (arith, few)) d (locks_below (above_of known locks) p e) in
        at_lock r.0 r.1
    short s false d =
        let fits = past_room (is_lock p) (length met.known) locks inner.locks s.few (omega (arith, few)) d (locks_below (above_of known locks) p e) in
        goes_on fits below (rest fits)

    by : HeadOutcome known locks p e met → Along (above_of known locks) p (e ∷ v) depth (settled met (MOST_SCOPE_NAMES - locks) (is_lock p) depth below)
    by (inl h) =
        subst (λ (b : Bool). Along (above_of known locks) p (e ∷ v) depth
        (if b then Some (record { depth = depth; node = Some met.search.at })
        else if is_past (is_lock p) (length met.known) (MOST_SCOPE_NAMES - locks) then Some (record { depth = depth; node = None }) else below)) (sym h.found) (at_name h)
    by (inr s) =
        subst (λ (b : Bool). Along (above_of known locks) p (e ∷ v) depth
        (if b then Some (record { depth = depth; node = Some met.search.at })
        else if is_past (is_lock p) (length met.known) (MOST_SCOPE_NAMES - locks) then Some (record { depth = depth; node = None }) else below)) (sym s.found)
        (short s (is_past (is_lock p) (length met.known) (MOST_SCOPE_NAMES - locks)) refl)

digits : (e : ℕ) → IsDigit e → (e ≡ 1) ⊎ (e ≡ 2)
digits zero h = let k = h.0 in absurd (omega (arith, k))
digits (suc zero) h = inl refl
digits (suc (suc zero)) h = inr refl
digits (suc (suc (suc n))) h = let k = h.1 in absurd (omega (arith, k))

-- of one child, and of two
one_child : (p q : Proc) (e : ℕ) (v : List ℕ) (depth : ℕ) (u : Above) (o : Option Spoken) → (e ≡ 1) ⊎ (e ≡ 2) → first_child p ≡ Some q → second_child p ≡ None
    → Along u q v (depth + 1) o → Rest p e v depth u (if nat_eq e 1 then o else None)
one_child p q e v depth u o (inl is) first second h =
    subst (λ k. Rest p k v depth u (if nat_eq k 1 then o else None)) (sym is) (inl (q, first, h))
one_child p q e v depth u o (inr is) first second h =
    subst (λ k. Rest p k v depth u (if nat_eq k 1 then o else None)) (sym is) (inr (second, refl))

two_children : (p q r : Proc) (e : ℕ) (v : List ℕ) (depth : ℕ) (u : Above) (o w : Option Spoken) → (e ≡ 1) ⊎ (e ≡ 2) → first_child p ≡ Some q → second_child p ≡ Some r
    → Along u q v (depth + 1) o → Along u r v (depth + 1) w → Rest p e v depth u (if nat_eq e 1 then o else w)
two_children p q r e v depth u o w (inl is) first second h k =
    subst (λ n. Rest p n v depth u (if nat_eq n 1 then o else w)) (sym is) (inl (q, first, h))
two_children p q r e v depth u o w (inr is) first second h k =
    subst (λ n. Rest p n v depth u (if nat_eq n 1 then o else w)) (sym is) (inl (r, second, k))

-- what is handed down
handed : (known : List Var) (locks : ℕ) (p : Proc) (e : ℕ)
    → above_of (head_bound (MOST_SCOPE_NAMES - locks) known p e).known (if is_lock p then locks + 1 else locks) ≡ scope_below (above_of known locks) p e
handed known locks p e = λ i. record { scope = known_head known locks p e i; locks = sym (locks_below (above_of known locks) p e) i }

-- as it is there
fits_there : (known : List Var) (locks : ℕ) (p : Proc) (e : ℕ)
    → length (head_bound (MOST_SCOPE_NAMES - locks) known p e).known + (scope_below (above_of known locks) p e).locks ≤ MOST_SCOPE_NAMES
    → length (head_bound (MOST_SCOPE_NAMES - locks) known p e).known + (if is_lock p then locks + 1 else locks) ≤ MOST_SCOPE_NAMES
fits_there known locks p e h =
    subst (λ l. length (head_bound (MOST_SCOPE_NAMES - locks) known p e).known + l ≤ MOST_SCOPE_NAMES) (locks_below (above_of known locks) p e) h

abbrev Exact : List ℕ → Type 0
Exact v = (known : List Var) (locks : ℕ) (p : Proc) (depth : ℕ) → length known + locks ≤ MOST_SCOPE_NAMES → Along (above_of known locks) p v depth (fill_along known locks depth v p)

next : (v : List ℕ) → Exact v → (known : List Var) (locks : ℕ) (p : Proc) (e depth : ℕ)
    → length (head_bound (MOST_SCOPE_NAMES - locks) known p e).known + (scope_below (above_of known locks) p e).locks ≤ MOST_SCOPE_NAMES → (q : Proc)
    → Along (scope_below (above_of known locks) p e) q v (depth + 1)
    (fill_along (head_bound (MOST_SCOPE_NAMES - locks) known p e).known (if is_lock p then locks + 1 else locks) (depth + 1) v q)
next v ih known locks p e depth fits q =
    subst (λ (u : Above). Along u q v (depth + 1) (fill_along (head_bound (MOST_SCOPE_NAMES - locks) known p e).known (if is_lock p then locks + 1 else locks) (depth + 1) v q))
    (handed known locks p e)
    (ih (head_bound (MOST_SCOPE_NAMES - locks) known p e).known (if is_lock p then locks + 1 else locks) q (depth + 1) (fits_there known locks p e fits))

further_on : (e : ℕ) (v : List ℕ) → (e ≡ 1) ⊎ (e ≡ 2) → Exact v → Exact (e ∷ v)
further_on e v is ih known locks nil depth few =
    one_place known locks nil e v depth few None (λ fits. inr (childless e is, refl)) where
      childless : (e : ℕ) → (e ≡ 1) ⊎ (e ≡ 2) → child nil e ≡ None
      childless zero h = refl
      childless (suc zero) h = refl
      childless (suc (suc zero)) h = refl
      childless (suc (suc (suc n))) h = refl
further_on e v is ih known locks (parallel p q) depth few =
    one_place known locks (parallel p q) e v depth few _
    (λ fits. two_children (parallel p q) p q e v depth _ _ _ is refl refl (next v ih known locks (parallel p q) e depth fits p) (next v ih known locks (parallel p q) e depth fits q))
further_on e v is ih known locks (replicated p) depth few =
    one_place known locks (replicated p) e v depth few _
    (λ fits. one_child (replicated p) p e v depth _ _ is refl refl (next v ih known locks (replicated p) e depth fits p))
further_on e v is ih known locks (act a p) depth few =
    one_place known locks (act a p) e v depth few _
    (λ fits. one_child (act a p) p e v depth _ _ is refl refl (next v ih known locks (act a p) e depth fits p))
further_on e v is ih known locks (test t u p q) depth few =
    one_place known locks (test t u p q) e v depth few _
    (λ fits. two_children (test t u p q) p q e v depth _ _ _ is refl refl (next v ih known locks (test t u p q) e depth fits p) (next v ih known locks (test t u p q) e depth fits q))
further_on e v is ih known locks (lookup t x p q) depth few =
    one_place known locks (lookup t x p q) e v depth few _
    (λ fits. two_children (lookup t x p q) p q e v depth _ _ _ is refl refl (next v ih known locks (lookup t x p q) e depth fits p) (next v ih known locks (lookup t x p q) e depth fits q))

exact : (v : List ℕ) → AreDigits v → Exact v
exact [] h known locks p depth few = λ d o k. no_way (above_of known locks) p d o k
exact (e ∷ v) h known locks p depth few =
    further_on e v (digits e (All-head IsDigit e v h)) (λ ks l q n. exact v (All-tail IsDigit e v h) ks l q n) known locks p depth few

-- from the root
pub filling_told : (scope : List Var) (p : Proc) (v : List ℕ) → AreDigits v → length scope ≤ MOST_SCOPE_NAMES
    → IsFillingTold (above_of scope 0) p v (fill_along scope 0 0 v p)
filling_told scope p v h few = by (fill_along scope 0 0 v p) (exact v h scope 0 p 0 (omega (arith, few))) where
  by : (o : Option Spoken) → Along (above_of scope 0) p v 0 o → IsFillingTold (above_of scope 0) p v o
  by None told = told
  by (Some f) told =
      (told.1, subst (λ d. Fills (above_of scope 0) p v d told.1) (let k = told.3 in let back : told.0 ≡ f.depth = omega (arith, k) in back) told.2, told.4)

pub nothing_told : (scope : List Var) (p : Proc) (v : List ℕ) → MOST_SCOPE_NAMES < length scope → IsFillingTold (above_of scope 0) p v None
nothing_told scope p v full = λ d o h. none_full (above_of scope 0) p v d o h (omega (arith, full))
