-- How many names are taken once a file's process is expanded.
use Rattle.std.proofs.Common.{◌≡◌, ◌≤◌, ◌^◌, ◌+◌, ◌*◌, ℕ, zero, suc, Bool, true, false, ◌||◌, List, [], ◌∷◌, ◌++◌, map, length, refl, sym, ap, subst, ◌∙◌, arith}
use Rattle.std.specs.Prelude.{if◌then◌else◌}
use Rattle.std.specs.List.{AllByRecursion}
use Rattle.std.specs.Str.{bytes_eq}
use Rattle.std.proofs.Math.Nat.{suc-mul}
use Rattle.std.proofs.lemmas.Slice.Eq.{bytes_eq-Decides}
use Rattle.sap_terms.specs.Choice.{Choice, instance}
use Rattle.sap_terms.specs.Tree.{Tree, variable, public, fresh, apply, Trees, none, more, trees_of}
use Rattle.sap_terms.specs.Variables.{is_known, tree_vars, trees_vars, facts_vars}
use Rattle.sap_terms.specs.declared.fact.Fact.{Fact}
use Rattle.sap_terms.specs.declared.var.Var.{Var}
use Rattle.sap_process.specs.Action.{Action, new, out, send, input, receive, event, insert, delete, lock, unlock, embedded}
use Rattle.sap_process.specs.Proc as whole
use Rattle.sap_process.specs.Proc.{Proc, node_count}
use Rattle.sap_macro.specs.Expansion.{bound_in, binding_vars, behind, binders, own_names, Expanded, Meaning, by_names, expanded, entered, put, with_definition, no_meaning, meaning_after, meaning_of}
use Rattle.sap_macro.specs.NewNames.{new_name, once, renamed, taken_after}
use Rattle.sap_macro.specs.Written.{Written, nil, call, parallel, replicated, act, test, lookup, Definition}
use Rattle.sap_read.specs.HeldVariables.{IsAmong}
use Rattle.sap_read.specs.Occurring.{OfNames, NamesAre, AllNamesAre, FactNamesAre, FactsNamesAre, ActionNamesAre, WrittenNamesAre}
use Rattle.sap_read.proofs.EachOf.{both}

-- so many times so many
abbrev pub times : ℕ → ℕ → ℕ
times k zero = 0
times k (suc n) = k + times k n

times_plus : (k a b : ℕ) → times k (a + b) ≡ times k a + times k b
times_plus k zero b =
    let s : 0 + b ≡ b = omega arith in ap (times k) s ∙ (omega arith)
times_plus k (suc a) b =
    let s : suc a + b ≡ suc (a + b) = omega arith in
    let e = times_plus k a b in
    ap (times k) s ∙ (omega (arith, e))

times_one : (k : ℕ) → times k 1 ≡ k
times_one k = omega arith

times_next : (k a : ℕ) → times k (a + 1) ≡ times k a + k
times_next k a = let e = times_plus k a 1 in let o = times_one k in omega (arith, e, o)

times_both : (k a b : ℕ) → times k (a + b + 1) ≡ times k a + times k b + k
times_both k a b =
    let e = times_next k (a + b) in let f = times_plus k a b in omega (arith, e, f)

pub times_most : (k n m : ℕ) → n ≤ m → times k n ≤ times k m
times_most k zero m h = omega arith
times_most k (suc n) zero h = absurd (omega (arith, h))
times_most k (suc n) (suc m) h = let e = times_most k n m (omega (arith, h)) in omega (arith, e)

pub times_more : (k l n : ℕ) → k ≤ l → times k n ≤ times l n
times_more k l zero h = omega arith
times_more k l (suc n) h = let e = times_more k l n h in omega (arith, e, h)

-- ---- names that are chosen

pub chosen_length : (taken ys : List (List ℕ)) → length (taken_after taken ys) ≡ length taken + length ys
chosen_length taken [] = omega arith
chosen_length taken (y ∷ ys) = let e = chosen_length (new_name taken y ∷ taken) ys in omega (arith, e)

-- what is taken stays so
abbrev pub Stays : List (List ℕ) → List (List ℕ) → Type 0
Stays taken after = (x : List ℕ) → is_known taken x ≡ true → is_known after x ≡ true

pub or_true : (s t : Bool) → t ≡ true → (s || t) ≡ true
or_true true t h = refl
or_true false t h = h

pub chosen_stays : (taken ys : List (List ℕ)) → Stays taken (taken_after taken ys)
chosen_stays taken [] x h = h
chosen_stays taken (y ∷ ys) x h =
    chosen_stays (new_name taken y ∷ taken) ys x (or_true (bytes_eq (new_name taken y) x) (is_known taken x) h)

-- nothing is lost, and no fewer names are taken
pub record Grows (taken : List (List ℕ)) (e : Expanded) : Type 0 where
  pub longer : length taken ≤ length e.taken
  pub stays : Stays taken e.taken

abbrev pub MeaningGrows : Meaning → Type 0
MeaningGrows m = (f : List ℕ) (ts : List Tree) (taken : List (List ℕ)) → Grows taken (m f ts taken)

same_taken : (taken : List (List ℕ)) (p : Proc) → Grows taken (record { process = p; taken = taken })
same_taken taken p = record { longer = omega arith; stays = λ x h. h }

then_grows : (taken middle : List (List ℕ)) (e : Expanded) → length taken ≤ length middle → Stays taken middle → Grows middle e → Grows taken e
then_grows taken middle e longer stays g =
    let l = g.longer in record { longer = omega (arith, longer, l); stays = λ x h. g.stays x (stays x h) }

same_names : (taken : List (List ℕ)) (e inner : Expanded) → e.taken ≡ inner.taken → Grows taken inner → Grows taken e
same_names taken e inner same g = record {
  longer = subst (λ (z : List (List ℕ)). length taken ≤ length z) (sym same) g.longer;
  stays = λ x h. subst (λ (z : List (List ℕ)). is_known z x ≡ true) (sym same) (g.stays x h);
}

two_grow : (taken : List (List ℕ)) (e first second : Expanded) → e.taken ≡ second.taken → Grows taken first → Grows first.taken second → Grows taken e
two_grow taken e first second same g h = same_names taken e second same (then_grows taken first.taken second g.longer g.stays h)

module _ (m : Meaning) (grows : MeaningGrows m) (r : Choice) (b : List ℕ → List ℕ) where
  pub expanded_grows : (p : Written) (taken : List (List ℕ)) → Grows taken (expanded m r b p taken)
  expanded_grows nil taken = same_taken taken whole.nil
  expanded_grows (call f ts) taken = grows f (map (instance r) ts) taken
  expanded_grows (parallel p q) taken =
      two_grow taken (expanded m r b (parallel p q) taken) (expanded m r b p taken) (expanded m r b q (expanded m r b p taken).taken) refl (expanded_grows p taken) (expanded_grows q (expanded m r b p taken).taken)
  expanded_grows (replicated p) taken = same_names taken (expanded m r b (replicated p) taken) (expanded m r b p taken) refl (expanded_grows p taken)
  expanded_grows (act a p) taken = same_names taken (expanded m r b (act a p) taken) (expanded m r b p taken) refl (expanded_grows p taken)
  expanded_grows (test t u p q) taken =
      two_grow taken (expanded m r b (test t u p q) taken) (expanded m r b p taken) (expanded m r b q (expanded m r b p taken).taken) refl (expanded_grows p taken) (expanded_grows q (expanded m r b p taken).taken)
  expanded_grows (lookup t x p q) taken =
      two_grow taken (expanded m r b (lookup t x p q) taken) (expanded m r b p taken) (expanded m r b q (expanded m r b p taken).taken) refl (expanded_grows p taken) (expanded_grows q (expanded m r b p taken).taken)

pub entered_grows : (m : Meaning) → MeaningGrows m → (d : Definition) (ts : List Tree) (taken : List (List ℕ)) → Grows taken (entered m d ts taken)
entered_grows m grows d ts taken =
    let more = chosen_length taken (own_names d) in
    then_grows taken (taken_after taken (own_names d)) (entered m d ts taken) (omega (arith, more)) (chosen_stays taken (own_names d))
    (expanded_grows m grows (put d.params ts (by_names (renamed taken (own_names d)))) (renamed taken (own_names d)) d.body (taken_after taken (own_names d)))

pub with_grows : (m : Meaning) → MeaningGrows m → (d : Definition) → MeaningGrows (with_definition m d)
with_grows m grows d f ts taken = by (bytes_eq d.name f) where
  by : (t : Bool) → Grows taken (if t then entered m d ts taken else m f ts taken)
  by true = entered_grows m grows d ts taken
  by false = grows f ts taken

after_grows : (ds : List Definition) (m : Meaning) → MeaningGrows m → MeaningGrows (meaning_after m ds)
after_grows [] m grows = grows
after_grows (d ∷ ds) m grows = after_grows ds (with_definition m d) (with_grows m grows d)

pub nothing_grows : MeaningGrows no_meaning
nothing_grows f ts taken = same_taken taken whole.nil

pub meaning_grows : (ds : List Definition) → MeaningGrows (meaning_of ds)
meaning_grows ds = after_grows ds no_meaning nothing_grows

-- ---- how many

-- the places at which a process binds, or may
abbrev places : Written → ℕ
places nil = 0
places (call f ts) = 0
places (parallel p q) = places p + places q
places (replicated p) = places p
places (act a p) = places p + 1
places (test t u p q) = places p + places q
places (lookup t x p q) = places p + places q + 1

nothing_of : (a b : ℕ) → a + b ≡ 0 → (a ≡ 0) × (b ≡ 0)
nothing_of a b h = (omega (arith, h), omega (arith, h))

no_binders : (p : Written) (scope : List (List ℕ)) → places p ≡ 0 → binders scope p ≡ []
no_binders nil scope h = refl
no_binders (call f ts) scope h = refl
no_binders (parallel p q) scope h =
    let n = nothing_of (places p) (places q) h in λ i. no_binders p scope n.0 i ++ no_binders q scope n.1 i
no_binders (replicated p) scope h = no_binders p scope h
no_binders (act a p) scope h = absurd (omega (arith, h))
no_binders (test t u p q) scope h =
    let n = nothing_of (places p) (places q) h in λ i. no_binders p scope n.0 i ++ no_binders q scope n.1 i
no_binders (lookup t x p q) scope h = absurd (omega (arith, h))

module _ (most : ℕ) where
  -- each definition binds at most so many names
  abbrev pub BindsFew : Definition → Type 0
  BindsFew d = length (own_names d) ≤ most

  few_at_places : (d : Definition) → BindsFew d → length (own_names d) ≤ times most (places d.body)
  few_at_places d few = by (places d.body) refl where
    by : (n : ℕ) → places d.body ≡ n → length (own_names d) ≤ times most n
    by zero e = let none : length (own_names d) ≡ 0 = ap (λ ns. length (once [] ns)) (no_binders d.body d.params e) in omega (arith, none)
    by (suc n) e = omega (arith, few)

  -- as many names more are taken as the places of the expansion may bind
  abbrev pub MeaningTakes : Meaning → Type 0
  MeaningTakes m = (f : List ℕ) (ts : List Tree) (taken : List (List ℕ))
      → length (m f ts taken).taken ≤ length taken + times most (node_count (m f ts taken).process)

  module _ (m : Meaning) (takes : MeaningTakes m) (r : Choice) (b : List ℕ → List ℕ) where
    pub expanded_takes : (p : Written) (taken : List (List ℕ))
        → length (expanded m r b p taken).taken + times most (places p) ≤ length taken + times most (node_count (expanded m r b p taken).process)
    expanded_takes nil taken = omega arith
    expanded_takes (call f ts) taken = let e = takes f (map (instance r) ts) taken in omega (arith, e)
    expanded_takes (parallel p q) taken =
        let first = expanded_takes p taken in
        let second = expanded_takes q (expanded m r b p taken).taken in
        let all = times_both most (node_count (expanded m r b p taken).process) (node_count (expanded m r b q (expanded m r b p taken).taken).process) in
        let own = times_plus most (places p) (places q) in
        omega (arith, first, second, all, own)
    expanded_takes (replicated p) taken =
        let e = expanded_takes p taken in let n = times_next most (node_count (expanded m r b p taken).process) in omega (arith, e, n)
    expanded_takes (act a p) taken =
        let e = expanded_takes p taken in let n = times_next most (node_count (expanded m r b p taken).process) in let k = times_next most (places p) in omega (arith, e, n, k)
    expanded_takes (test t u p q) taken =
        let first = expanded_takes p taken in
        let second = expanded_takes q (expanded m r b p taken).taken in
        let all = times_both most (node_count (expanded m r b p taken).process) (node_count (expanded m r b q (expanded m r b p taken).taken).process) in
        let own = times_plus most (places p) (places q) in
        omega (arith, first, second, all, own)
    expanded_takes (lookup t x p q) taken =
        let first = expanded_takes p taken in
        let second = expanded_takes q (expanded m r b p taken).taken in
        let all = times_both most (node_count (expanded m r b p taken).process) (node_count (expanded m r b q (expanded m r b p taken).taken).process) in
        let own = times_both most (places p) (places q) in
        omega (arith, first, second, all, own)

  entered_takes : (m : Meaning) → MeaningTakes m → (d : Definition) → BindsFew d → (ts : List Tree) (taken : List (List ℕ))
      → length (entered m d ts taken).taken ≤ length taken + times most (node_count (entered m d ts taken).process)
  entered_takes m takes d few ts taken =
      let e = expanded_takes m takes (put d.params ts (by_names (renamed taken (own_names d)))) (renamed taken (own_names d)) d.body (taken_after taken (own_names d)) in
      let more = chosen_length taken (own_names d) in
      let own = few_at_places d few in
      omega (arith, e, more, own)

  with_takes : (m : Meaning) → MeaningTakes m → (d : Definition) → BindsFew d → MeaningTakes (with_definition m d)
  with_takes m takes d few f ts taken = by (bytes_eq d.name f) where
    by : (t : Bool) → length (if t then entered m d ts taken else m f ts taken).taken ≤ length taken + times most (node_count (if t then entered m d ts taken else m f ts taken).process)
    by true = entered_takes m takes d few ts taken
    by false = takes f ts taken

  after_takes : (ds : List Definition) (m : Meaning) → AllByRecursion BindsFew ds → MeaningTakes m → MeaningTakes (meaning_after m ds)
  after_takes [] m few takes = takes
  after_takes (d ∷ ds) m few takes = after_takes ds (with_definition m d) few.1 (with_takes m takes d few.0)

  pub meaning_takes : (ds : List Definition) → AllByRecursion BindsFew ds → MeaningTakes (meaning_of ds)
  meaning_takes ds few = after_takes ds no_meaning few (λ f ts taken. omega arith)

-- ---- definitions whose names are among these bind no more names

one_name : (x y : List ℕ) → bytes_eq x y ≡ true → x ≡ y
one_name x y e = (bytes_eq-Decides x y).0 e

abbrev removed : List (List ℕ) → List ℕ → List (List ℕ)
removed [] x = []
removed (y ∷ ys) x = if bytes_eq y x then ys else (y ∷ removed ys x)

one_less : (ys : List (List ℕ)) (x : List ℕ) → is_known ys x ≡ true → length ys ≡ suc (length (removed ys x))
one_less [] x h = absurd (cc)
one_less (y ∷ ys) x h = by (bytes_eq y x) h (one_less ys x) where
  by : (t : Bool) → (t || is_known ys x) ≡ true → (is_known ys x ≡ true → length ys ≡ suc (length (removed ys x))) → suc (length ys) ≡ suc (length (if t then ys else (y ∷ removed ys x)))
  by true k later = refl
  by false k later = ap suc (later k)

still_known : (ys : List (List ℕ)) (x z : List ℕ) → ¬ (x ≡ z) → is_known ys z ≡ true → is_known (removed ys x) z ≡ true
still_known [] x z d h = absurd (cc)
still_known (y ∷ ys) x z d h = by (bytes_eq y x) refl (still_known ys x z d) where
  at : (t : Bool) → bytes_eq y z ≡ t → (t || is_known ys z) ≡ true → bytes_eq y x ≡ true → is_known ys z ≡ true
  at true e k same = absurd (d (sym (one_name y x same) ∙ one_name y z e))
  at false e k same = k

  inside : (t : Bool) → (is_known ys z ≡ true → is_known (removed ys x) z ≡ true) → (t || is_known ys z) ≡ true → (t || is_known (removed ys x) z) ≡ true
  inside true later k = refl
  inside false later k = later k

  by : (t : Bool) → bytes_eq y x ≡ t → (is_known ys z ≡ true → is_known (removed ys x) z ≡ true) → is_known (if t then ys else (y ∷ removed ys x)) z ≡ true
  by true e later = at (bytes_eq y z) refl h e
  by false e later = inside (bytes_eq y z) later h

-- of names each of which is known already or among these there are no more than these, once each
once_few : (ns known ids : List (List ℕ)) → AllByRecursion (λ n. ¬ (is_known known n ≡ true) → is_known ids n ≡ true) ns → length (once known ns) ≤ length ids
once_few [] known ids h = omega arith
once_few (n ∷ ns) known ids h = by (is_known known n) refl (once_few ns) where
  others : (ms : List (List ℕ)) → AllByRecursion (λ z. ¬ (is_known known z ≡ true) → is_known ids z ≡ true) ms
      → AllByRecursion (λ z. ¬ (is_known (n ∷ known) z ≡ true) → is_known (removed ids n) z ≡ true) ms
  others [] k = tt
  others (z ∷ ms) k = (
    (λ new. still_known ids n z (λ same. new (ap (λ t. t || is_known known z) ((bytes_eq-Decides n z).1 same)))
        (k.0 (λ old. new (or_true (bytes_eq n z) (is_known known z) old)))),
    others ms k.1,
  )

  by : (t : Bool) → is_known known n ≡ t
      → ((old ms : List (List ℕ)) → AllByRecursion (λ z. ¬ (is_known old z ≡ true) → is_known ms z ≡ true) ns → length (once old ns) ≤ length ms)
      → length (if t then once known ns else n ∷ once (n ∷ known) ns) ≤ length ids
  by true e later = later known ids h.1
  by false e later =
      let here : is_known ids n ≡ true = h.0 (λ old. let no : true ≡ false = sym old ∙ e in absurd (cc)) in
      let less = one_less ids n here in
      let rest = later (n ∷ known) (removed ids n) (others ns h.1) in
      omega (arith, less, rest)

module _ (N M : OfNames) where
  abbrev VarNameIs : Var → Type 0
  VarNameIs v = N v.name

  mutual
    vars_names : (t : Tree) → NamesAre N M t → AllByRecursion VarNameIs (tree_vars t)
    vars_names (variable v) h = (h, tt)
    vars_names (public n) h = tt
    vars_names (fresh k) h = tt
    vars_names (apply f ts) h = all_vars_names ts h

    all_vars_names : (ts : Trees) → AllNamesAre N M ts → AllByRecursion VarNameIs (trees_vars ts)
    all_vars_names none h = tt
    all_vars_names (more t ts) h = both VarNameIs (tree_vars t) (trees_vars ts) (vars_names t h.0) (all_vars_names ts h.1)

  facts_vars_names : (fs : List Fact) → FactsNamesAre N M fs → AllByRecursion VarNameIs (facts_vars fs)
  facts_vars_names [] h = tt
  facts_vars_names (f ∷ fs) h =
      both VarNameIs (trees_vars (trees_of f.args)) (facts_vars fs) (all_vars_names (trees_of f.args) h.0) (facts_vars_names fs h.1)

  binding_names : (a : Action) → ActionNamesAre N M a → AllByRecursion VarNameIs (binding_vars a)
  binding_names (new x) h = (h, tt)
  binding_names (out t) h = tt
  binding_names (send t u) h = tt
  binding_names (input t) h = vars_names t h
  binding_names (receive t u) h = vars_names u h.1
  binding_names (event f) h = tt
  binding_names (insert t u) h = tt
  binding_names (delete t) h = tt
  binding_names (lock t n) h = tt
  binding_names (unlock t n) h = tt
  binding_names (embedded l e r) h =
      facts_vars_names (l ++ (e ++ r)) (both (FactNamesAre N M) l (e ++ r) h.0 (both (FactNamesAre N M) e r h.1 h.2))

  bound_names : (vs : List Var) (scope : List (List ℕ)) → AllByRecursion VarNameIs vs → AllByRecursion N (bound_in scope vs)
  bound_names [] scope h = tt
  bound_names (v ∷ vs) scope h = by (is_known scope v.name) (λ s. bound_names vs s h.1) where
    by : (t : Bool) → ((s : List (List ℕ)) → AllByRecursion N (bound_in s vs)) → AllByRecursion N ((if t then [] else (v.name ∷ [])) ++ bound_in (if t then scope else (v.name ∷ scope)) vs)
    by true later = later scope
    by false later = (h.0, later (v.name ∷ scope))

  pub binders_names : (p : Written) (scope : List (List ℕ)) → WrittenNamesAre N M p → AllByRecursion N (binders scope p)
  binders_names nil scope h = tt
  binders_names (call f ts) scope h = tt
  binders_names (parallel p q) scope h = both N (binders scope p) (binders scope q) (binders_names p scope h.0) (binders_names q scope h.1)
  binders_names (replicated p) scope h = binders_names p scope h
  binders_names (act a p) scope h =
      both N (bound_in scope (binding_vars a)) (binders (behind scope a) p) (bound_names (binding_vars a) scope (binding_names a h.0)) (binders_names p (behind scope a) h.1)
  binders_names (test t u p q) scope h = both N (binders scope p) (binders scope q) (binders_names p scope h.2) (binders_names q scope h.3)
  binders_names (lookup t x p q) scope h =
      (h.1, both N (binders (x.name ∷ scope) p) (binders scope q) (binders_names p (x.name ∷ scope) h.2) (binders_names q scope h.3))

-- a definition whose names are among these binds no more names
pub binds_few : (ids : List (List ℕ)) (M : OfNames) (d : Definition) → WrittenNamesAre (IsAmong ids) M d.body → BindsFew (length ids) d
binds_few ids M d h = once_few (binders d.params d.body) [] ids (weaker (binders d.params d.body) (binders_names (IsAmong ids) M d.body d.params h)) where
  weaker : (ns : List (List ℕ)) → AllByRecursion (IsAmong ids) ns → AllByRecursion (λ n. ¬ (is_known [] n ≡ true) → is_known ids n ≡ true) ns
  weaker [] k = tt
  weaker (n ∷ ns) k = ((λ new. k.0), weaker ns k.1)

-- ---- so at most as many names are taken as these, times the places of the expansion and one more
pub taken_at_most : (ids : List (List ℕ)) (ds : List Definition) (r : Choice) (b : List ℕ → List ℕ) (p : Written) → AllByRecursion (BindsFew (length ids)) ds
    → length (expanded (meaning_of ds) r b p ids).taken ≤ length ids + times (length ids) (node_count (expanded (meaning_of ds) r b p ids).process)
taken_at_most ids ds r b p few =
    let e = expanded_takes (length ids) (meaning_of ds) (meaning_takes (length ids) ds few) r b p ids in omega (arith, e)

-- where these are few, there is room for one more
product : (k m : ℕ) → times k m ≡ m * k
product k zero = omega arith
product k (suc m) = let e = product k m in let f = suc-mul m k in omega (arith, e, f)

pub room_left : (ids n : ℕ) → ids ≤ 2 ^ 52 → n ≤ 4000 → ids + times ids n + 2 ≤ 2 ^ 64
room_left ids n few small = at 4000 (2 ^ 52) refl refl where
  at : (m k : ℕ) → m ≡ 4000 → k ≡ 2 ^ 52 → ids + times ids n + 2 ≤ 2 ^ 64
  at m k e f =
      let most = times_most ids n m (omega (arith, small, e)) in
      let more = times_more ids k m (omega (arith, few, f)) in
      let is : times k m ≡ 4000 * 2 ^ 52 = product k m ∙ (λ i. e i * f i) in
      omega (arith, few, most, more, is)
