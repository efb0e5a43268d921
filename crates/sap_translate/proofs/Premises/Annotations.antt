-- An annotated process has the labels that the rules need.
use Rattle.sap_translate.specs.Members.{Member}
use Rattle.std.proofs.Common.{◌≡◌, ℕ, zero, suc, ◌+◌, ◌^◌, ◌<◌, ◌≤◌, ◌⊎◌, inl, inr, List, [], ◌∷◌, ◌++◌, Some, Bool, true, false, ◌||◌, ◌==◌, cond, drop, arith, refl, sym, ap, subst, ◌∙◌}
use Rattle.std.specs.Prelude.{decimal}
use Rattle.std.specs.Str.{bytes_eq}
use Rattle.std.proofs.lemmas.Fmt.{decimal_injective}
use Rattle.std.proofs.lemmas.Slice.Eq.{bytes_eq-Decides}
use Rattle.sap_terms.specs.Tree.{Tree}
use Rattle.sap_terms.specs.Variables.{is_known}
use Rattle.sap_process.specs.Action.{Action}
use Rattle.sap_process.specs.Action as action
use Rattle.sap_process.specs.Heads.{locks_set}
use Rattle.sap_process.specs.Proc.{Proc, act, node_count}
use Rattle.sap_process.specs.Proc as whole
use Rattle.sap_locks.specs.Ways.{LockMark, locked, unlocked, IsLockOf, IsOpen, LockSite, lock_count, lock_sites_from, way_above, way_behind}
use Rattle.sap_process.specs.Places.{place}
use Rattle.sap_locks.specs.Annotation as annotation
use Rattle.sap_locks.specs.Annotation.{over, IsLockedOver, is_forking, action_unlock, unlock_at, unlabelled, unlabelled_action}
use Rattle.sap_terms.specs.Signature.{Sig}
use Rattle.sap_terms.specs.declared.var.Var.{Var}
use Rattle.sap_process.specs.Flaws.{IsWellFormed}
use Rattle.sap_process.specs.Sites.{bound_by, message_var}
use Rattle.sap_process.specs.Sorted.{with_sorts}
use Rattle.std.proofs.lemmas.List.{append_assoc, append-nil}
use Rattle.sap_translate.specs.Sound.{IsSound}
use Rattle.sap_translate.proofs.Premises.Sound.{well_formed_sound}
use Rattle.sap_translate.specs.OpenLocks.{UnlocksAreOpen, closed}
use Rattle.sap_translate.specs.relation.Labels.{label_names, LabelsApart, HasLabels, action_labelled, labelled, IsRelabelled}
use Rattle.sap_process.specs.Scopes.{lock_var}
use Rattle.sap_translate.proofs.Shared.Lookups.{member_left, member_right}
use Rattle.sap_translate.proofs.Terms.Derive.{member, contains}
use Rattle.sap_translate.proofs.Shared.Facts.{eq_true}

-- an unlock of this label stands at the head, or somewhere
abbrev HeadCarries : ℕ → Action → Type 0
HeadCarries n (action.unlock t l) = l ≡ n
HeadCarries n a = ⊥

abbrev Carries : ℕ → Proc → Type 0
Carries n whole.nil = ⊥
Carries n (whole.parallel p q) = Carries n p ⊎ Carries n q
Carries n (whole.replicated p) = Carries n p
Carries n (act a p) = HeadCarries n a ⊎ Carries n p
Carries n (whole.test t u p q) = Carries n p ⊎ Carries n q
Carries n (whole.lookup t x p q) = Carries n p ⊎ Carries n q

abbrev lock_site : List ℕ → List LockMark → ℕ → Proc → LockSite
lock_site path way k p = place path (way_above way k) p

-- each place from this one on has the property
abbrev pub At : (LockSite → Type 0) → List ℕ → List LockMark → ℕ → Proc → Type 0
At P path way k p = (s : LockSite) → Member s (lock_sites_from path way k p) → P s

-- the place of such an unlock
record Unlocking (sites : List LockSite) (n : ℕ) : Type 0 where
  site : LockSite
  stands : Member site sites
  term : Tree
  is : unlock_at site.body ≡ Some (term, n)

unlocking_more : (sites more : List LockSite) (n : ℕ) → ((s : LockSite) → Member s sites → Member s more) → Unlocking sites n → Unlocking more n
unlocking_more sites more n h u = record { site = u.site; stands = h u.site u.stands; term = u.term; is = u.is }

head_unlocking : (a : Action) (n : ℕ) → HeadCarries n a → (t : Tree) × (action_unlock a ≡ Some (t, n))
head_unlocking (action.unlock t l) n h = (t, ap (λ m. Some (t, m)) h)
head_unlocking (action.new x) n h = absurd h
head_unlocking (action.out t) n h = absurd h
head_unlocking (action.send t u) n h = absurd h
head_unlocking (action.input t) n h = absurd h
head_unlocking (action.receive t u) n h = absurd h
head_unlocking (action.event f) n h = absurd h
head_unlocking (action.insert t u) n h = absurd h
head_unlocking (action.delete t) n h = absurd h
head_unlocking (action.lock t l) n h = absurd h
head_unlocking (action.embedded l e r) n h = absurd h

below_first : (s : LockSite) (xs ys : List LockSite) (n : ℕ) → Unlocking xs n → Unlocking (s ∷ (xs ++ ys)) n
below_first s xs ys n u = unlocking_more xs (s ∷ (xs ++ ys)) n (λ z m. Member.later (member_left ys m)) u

below_second : (s : LockSite) (xs ys : List LockSite) (n : ℕ) → Unlocking ys n → Unlocking (s ∷ (xs ++ ys)) n
below_second s xs ys n u = unlocking_more ys (s ∷ (xs ++ ys)) n (λ z m. Member.later (member_right xs m)) u

unlocking : (n : ℕ) (p : Proc) (path : List ℕ) (way : List LockMark) (k : ℕ) → Carries n p → Unlocking (lock_sites_from path way k p) n
unlocking n whole.nil path way k h = absurd h
unlocking n (whole.parallel p q) path way k (inl h) = below_first _ _ _ n (unlocking n p (path ++ 1 ∷ []) way k h)
unlocking n (whole.parallel p q) path way k (inr h) = below_second _ (lock_sites_from (path ++ 1 ∷ []) way k p) _ n (unlocking n q (path ++ 2 ∷ []) way (k + lock_count p) h)
unlocking n (whole.replicated p) path way k h = unlocking_more _ _ n (λ z m. Member.later m) (unlocking n p (path ++ 1 ∷ []) way k h)
unlocking n (act a p) path way k (inl h) = let u = head_unlocking a n h in record { site = lock_site path way k (act a p); stands = Member.here; term = u.0; is = u.1 }
unlocking n (act a p) path way k (inr h) = unlocking_more _ _ n (λ z m. Member.later m) (unlocking n p (path ++ 1 ∷ []) (way_behind way k a) (k + locks_set a) h)
unlocking n (whole.test t u p q) path way k (inl h) = below_first _ _ _ n (unlocking n p (path ++ 1 ∷ []) way k h)
unlocking n (whole.test t u p q) path way k (inr h) = below_second _ (lock_sites_from (path ++ 1 ∷ []) way k p) _ n (unlocking n q (path ++ 2 ∷ []) way (k + lock_count p) h)
unlocking n (whole.lookup t x p q) path way k (inl h) = below_first _ _ _ n (unlocking n p (path ++ 1 ∷ []) way k h)
unlocking n (whole.lookup t x p q) path way k (inr h) = below_second _ (lock_sites_from (path ++ 1 ∷ []) way k p) _ n (unlocking n q (path ++ 2 ∷ []) way (k + lock_count p) h)

-- the locks on the way have lesser numbers
abbrev pub Below : ℕ → List LockMark → Type 0
Below k way = (n : ℕ) (t : Tree) → Member (locked n t) way → n < k

-- lock n of the term stands on the way, and is open at its end
abbrev OpenWith : List LockMark → ℕ → Tree → Type 0
OpenWith way n t = Member (locked n t) way × IsOpen way n

-- where a place isn't faulty, no unlock below it has the label of a lock that is open there
fork_none : (p : Proc) (path : List ℕ) (way : List LockMark) (k : ℕ) → is_forking p ≡ true → At annotation.IsLabelled path way k p → (IsLockedOver (lock_site path way k p) → ⊥)
    → (n : ℕ) (t : Tree) → OpenWith way n t → Carries n p → ⊥
fork_none p path way k forks h none n t has carried =
    let r = unlocking n p path way k carried in
    none (record {
      forks = forks;
      number = n;
      is_open = has.1;
      below = r.site;
      stands = contains r.stands;
      term = r.term;
      is = (n, r.is);
      own = (h r.site r.stands).1 r.term n r.is;
    })

-- the open locks that are unlocked below are among these
abbrev Covers : List LockMark → List (ℕ × Tree) → Proc → Type 0
Covers way o p = (n : ℕ) (t : Tree) → OpenWith way n t → Carries n p → Member (n, t) o

abbrev NotOver : LockSite → Type 0
NotOver s = IsLockedOver s → ⊥

not_closed : (l : ℕ) (b : ℕ × Tree) (o : List (ℕ × Tree)) → Member b o → (b.0 ≡ l → ⊥) → Member b (closed l o)
not_closed l b [] m d = elim m [ ]
not_closed l b (c ∷ o) m d = go (λ k. not_closed l b o k d) m (l == c.0) refl
  where
    first : Member b (c ∷ o) → (c ≡ b) ⊎ Member b o
    first m = by m
      where
        by : {c : ℕ × Tree} → Member b (c ∷ o) → (c ≡ b) ⊎ Member b o
        by Member.here = inl refl
        by (Member.later k) = inr k

    go : (Member b o → Member b (closed l o)) → Member b (c ∷ o) → (e : Bool) → (l == c.0) ≡ e → Member b (cond e (closed l o) (c ∷ closed l o))
    go more m true h = elim (first m) [ inl s ↦ absurd (d (ap (λ (z : ℕ × Tree). z.0) (sym s) ∙ sym (eq_true l c.0 h))) | inr k ↦ more k ]
    go more m false h = elim (first m) [ inl s ↦ subst (λ z. Member z (c ∷ closed l o)) s Member.here | inr k ↦ Member.later (more k) ]

-- marks
abbrev mark_term : LockMark → Tree
mark_term (locked k t) = t
mark_term (unlocked t) = t

abbrev mark_number : LockMark → ℕ
mark_number (locked k t) = k
mark_number (unlocked t) = 0

abbrev is_locked : LockMark → Bool
is_locked (locked k t) = true
is_locked (unlocked t) = false

first_mark : {a b : LockMark} {way : List LockMark} → Member b (a ∷ way) → (a ≡ b) ⊎ Member b way
first_mark Member.here = inl refl
first_mark (Member.later m) = inr m

behind_unlock : {n : ℕ} {t u : Tree} {way : List LockMark} → Member (locked n u) (unlocked t ∷ way) → Member (locked n u) way
behind_unlock {n} {t} {u} m = elim (first_mark m) [
  | inl same ↦ (let h : false ≡ true = ap is_locked same in cc)
  | inr l ↦ l
]

covers_lock : (way : List LockMark) (k : ℕ) (o : List (ℕ × Tree)) (t : Tree) (l : ℕ) (p : Proc) → l ≡ k + 1 → Below (k + 1) way → Covers way o p → Covers (locked (k + 1) t ∷ way) ((l, t) ∷ o) p
covers_lock way k o t l p e low c n u has carried = elim (first_mark has.0) [
  | inl same ↦ subst (λ z. Member z ((l, t) ∷ o)) (λ i. ((e ∙ ap mark_number same) i, ap mark_term same i)) Member.here
  | inr m ↦ Member.later (elder m has.1)
]
  where
    elder : Member (locked n u) way → (k + 1 ≡ n) ⊎ IsOpen way n → Member (n, u) o
    elder m (inl at) = let less : n < k + 1 = low n u m in absurd (omega (arith, at, less))
    elder m (inr opened) = c n u (m, opened) carried

pub below_lock : (way : List LockMark) (k : ℕ) (t : Tree) → Below (k + 1) way → Below (k + 1 + 1) (locked (k + 1) t ∷ way)
below_lock way k t low n u m = elim (first_mark m) [
  | inl same ↦ (let is : k + 1 ≡ n = ap mark_number same in omega (arith, is))
  | inr l ↦ (let less : n < k + 1 = low n u l in omega (arith, less))
]

pub below_unlock : (way : List LockMark) (k : ℕ) (t : Tree) → Below k way → Below k (unlocked t ∷ way)
below_unlock way k t low n u m = low n u (behind_unlock m)

pub below_more : (way : List LockMark) (k n : ℕ) → Below (k + 1) way → Below (k + n + 1) way
below_more way k n low m u l = let less : m < k + 1 = low m u l in omega (arith, less)

pub below_same : (way : List LockMark) (k : ℕ) → Below (k + 1) way → Below (k + 0 + 1) way
below_same way k low m u l = let less : m < k + 1 = low m u l in omega (arith, less)

covers_unlock : (way : List LockMark) (o : List (ℕ × Tree)) (t : Tree) (l : ℕ) (p : Proc) → IsLockOf way l t → Covers way o (act (action.unlock t l) p) → Covers (unlocked t ∷ way) (closed l o) p
covers_unlock way o t l p own c m u has carried =
    not_closed l (m, u) o (c m u (behind_unlock has.0, has.1.0) (inr carried)) (λ e. has.1.1 (subst (λ n. IsLockOf way n t) (sym e) own))

-- the places of the parts
pub in_first : (P : LockSite → Type 0) (s : LockSite) (xs ys : List LockSite) → ((z : LockSite) → Member z (s ∷ (xs ++ ys)) → P z) → (z : LockSite) → Member z xs → P z
in_first P s xs ys h z m = h z (Member.later (member_left ys m))

pub in_second : (P : LockSite → Type 0) (s : LockSite) (xs ys : List LockSite) → ((z : LockSite) → Member z (s ∷ (xs ++ ys)) → P z) → (z : LockSite) → Member z ys → P z
in_second P s xs ys h z m = h z (Member.later (member_right xs m))

pub in_rest : (P : LockSite → Type 0) (s : LockSite) (xs : List LockSite) → ((z : LockSite) → Member z (s ∷ xs) → P z) → (z : LockSite) → Member z xs → P z
in_rest P s xs h z m = h z (Member.later m)

locks_ok : (p : Proc) (path : List ℕ) (way : List LockMark) (k : ℕ) (o : List (ℕ × Tree)) → Below (k + 1) way → At annotation.IsLabelled path way k p → At NotOver path way k p → Covers way o p → UnlocksAreOpen o p
locks_ok whole.nil path way k o d h n c = tt
locks_ok (whole.parallel p q) path way k o d h n c =
    let none = fork_none (whole.parallel p q) path way k refl h (n _ Member.here) in (
      locks_ok p (path ++ 1 ∷ []) way k [] d (in_first annotation.IsLabelled _ _ _ h) (in_first NotOver _ _ _ n) (λ m t has carried. absurd (none m t has (inl carried))),
      locks_ok q (path ++ 2 ∷ []) way (k + lock_count p) [] (below_more way k (lock_count p) d) (in_second annotation.IsLabelled _ (lock_sites_from (path ++ 1 ∷ []) way k p) _ h) (in_second NotOver _ (lock_sites_from (path ++ 1 ∷ []) way k p) _ n) (λ m t has carried. absurd (none m t has (inr carried))),
    )
locks_ok (whole.replicated p) path way k o d h n c =
    locks_ok p (path ++ 1 ∷ []) way k [] d (in_rest annotation.IsLabelled _ _ h) (in_rest NotOver _ _ n) (λ m t has carried. absurd (fork_none (whole.replicated p) path way k refl h (n _ Member.here) m t has carried))
locks_ok (act (action.lock t l) p) path way k o d h n c =
    locks_ok p (path ++ 1 ∷ []) (locked (k + 1) t ∷ way) (k + 1) ((l, t) ∷ o) (below_lock way k t d) (in_rest annotation.IsLabelled _ _ h) (in_rest NotOver _ _ n) (covers_lock way k o t l p ((h _ Member.here).0 t l refl) d (λ m u has carried. c m u has (inr carried)))
locks_ok (act (action.unlock t l) p) path way k o d h n c =
    let own : IsLockOf way l t = (h _ Member.here).1 t l refl in (
      c l t (member (locked l t) way own.stands, own.is_open) (inl refl),
      locks_ok p (path ++ 1 ∷ []) (unlocked t ∷ way) (k + 0) (closed l o) (below_unlock way (k + 0 + 1) t (below_same way k d)) (in_rest annotation.IsLabelled _ _ h) (in_rest NotOver _ _ n) (covers_unlock way o t l p own c),
    )
locks_ok (act (action.new x) p) path way k o d h n c = locks_ok p (path ++ 1 ∷ []) way (k + 0) o (below_same way k d) (in_rest annotation.IsLabelled _ _ h) (in_rest NotOver _ _ n) (λ m u has carried. c m u has (inr carried))
locks_ok (act (action.out t) p) path way k o d h n c = locks_ok p (path ++ 1 ∷ []) way (k + 0) o (below_same way k d) (in_rest annotation.IsLabelled _ _ h) (in_rest NotOver _ _ n) (λ m u has carried. c m u has (inr carried))
locks_ok (act (action.send t u) p) path way k o d h n c = locks_ok p (path ++ 1 ∷ []) way (k + 0) o (below_same way k d) (in_rest annotation.IsLabelled _ _ h) (in_rest NotOver _ _ n) (λ m u has carried. c m u has (inr carried))
locks_ok (act (action.input t) p) path way k o d h n c = locks_ok p (path ++ 1 ∷ []) way (k + 0) o (below_same way k d) (in_rest annotation.IsLabelled _ _ h) (in_rest NotOver _ _ n) (λ m u has carried. c m u has (inr carried))
locks_ok (act (action.receive t u) p) path way k o d h n c = locks_ok p (path ++ 1 ∷ []) way (k + 0) o (below_same way k d) (in_rest annotation.IsLabelled _ _ h) (in_rest NotOver _ _ n) (λ m u has carried. c m u has (inr carried))
locks_ok (act (action.event f) p) path way k o d h n c = locks_ok p (path ++ 1 ∷ []) way (k + 0) o (below_same way k d) (in_rest annotation.IsLabelled _ _ h) (in_rest NotOver _ _ n) (λ m u has carried. c m u has (inr carried))
locks_ok (act (action.insert t u) p) path way k o d h n c = locks_ok p (path ++ 1 ∷ []) way (k + 0) o (below_same way k d) (in_rest annotation.IsLabelled _ _ h) (in_rest NotOver _ _ n) (λ m u has carried. c m u has (inr carried))
locks_ok (act (action.delete t) p) path way k o d h n c = locks_ok p (path ++ 1 ∷ []) way (k + 0) o (below_same way k d) (in_rest annotation.IsLabelled _ _ h) (in_rest NotOver _ _ n) (λ m u has carried. c m u has (inr carried))
locks_ok (act (action.embedded l e r) p) path way k o d h n c = locks_ok p (path ++ 1 ∷ []) way (k + 0) o (below_same way k d) (in_rest annotation.IsLabelled _ _ h) (in_rest NotOver _ _ n) (λ m u has carried. c m u has (inr carried))
locks_ok (whole.test t u p q) path way k o d h n c = (
  locks_ok p (path ++ 1 ∷ []) way k o d (in_first annotation.IsLabelled _ _ _ h) (in_first NotOver _ _ _ n) (λ m u has carried. c m u has (inl carried)),
  locks_ok q (path ++ 2 ∷ []) way (k + lock_count p) o (below_more way k (lock_count p) d) (in_second annotation.IsLabelled _ (lock_sites_from (path ++ 1 ∷ []) way k p) _ h) (in_second NotOver _ (lock_sites_from (path ++ 1 ∷ []) way k p) _ n) (λ m u has carried. c m u has (inr carried)),
)
locks_ok (whole.lookup t x p q) path way k o d h n c = (
  locks_ok p (path ++ 1 ∷ []) way k o d (in_first annotation.IsLabelled _ _ _ h) (in_first NotOver _ _ _ n) (λ m u has carried. c m u has (inl carried)),
  locks_ok q (path ++ 2 ∷ []) way (k + lock_count p) o (below_more way k (lock_count p) d) (in_second annotation.IsLabelled _ (lock_sites_from (path ++ 1 ∷ []) way k p) _ h) (in_second NotOver _ (lock_sites_from (path ++ 1 ∷ []) way k p) _ n) (λ m u has carried. c m u has (inr carried)),
)

-- labels of locks above are apart

abbrev AtMost : ℕ → List ℕ → Type 0
AtMost k [] = Unit {0}
AtMost k (i ∷ ls) = (i ≤ k) × AtMost k ls

at_most_more : (ls : List ℕ) (k n : ℕ) → k ≤ n → AtMost k ls → AtMost n ls
at_most_more [] k n le h = tt
at_most_more (i ∷ ls) k n le h = (let less : i ≤ k = h.0 in omega (arith, le, less), at_most_more ls k n le h.1)

label_apart : (j i k : ℕ) → j ≤ k → i ≡ k + 1 → k + 1 < 2 ^ 64 → bytes_eq (lock_var j).name (lock_var i).name ≡ false
label_apart j i k le e small = go (bytes_eq (lock_var j).name (lock_var i).name) refl
  where
    go : (b : Bool) → bytes_eq (lock_var j).name (lock_var i).name ≡ b → b ≡ false
    go true h =
        let names : (lock_var j).name ≡ (lock_var i).name = (bytes_eq-Decides (lock_var j).name (lock_var i).name).0 h in
        let digits : decimal j ≡ decimal i = ap (drop 10) names in
        let same : j ≡ i = decimal_injective j i (omega (arith, le, small)) (omega (arith, e, small)) digits in
        absurd (omega (arith, same, le, e))
    go false h = refl

label_new : (ls : List ℕ) (i k : ℕ) → AtMost k ls → i ≡ k + 1 → k + 1 < 2 ^ 64 → is_known (label_names ls) (lock_var i).name ≡ false
label_new [] i k h e small = refl
label_new (j ∷ ls) i k h e small = (λ n. label_apart j i k h.0 e small n || is_known (label_names ls) (lock_var i).name) ∙ label_new ls i k h.1 e small

labels_apart : (p : Proc) (path : List ℕ) (way : List LockMark) (k : ℕ) (ls : List ℕ) → At annotation.IsLabelled path way k p → AtMost k ls → k + lock_count p < 2 ^ 64 → LabelsApart ls p
labels_apart whole.nil path way k ls h a s = tt
labels_apart (whole.parallel p q) path way k ls h a s = (labels_apart p (path ++ 1 ∷ []) way k ls (in_first annotation.IsLabelled _ _ _ h) a (omega (arith, s)), labels_apart q (path ++ 2 ∷ []) way (k + lock_count p) ls (in_second annotation.IsLabelled _ (lock_sites_from (path ++ 1 ∷ []) way k p) _ h) (at_most_more ls k (k + lock_count p) (omega arith) a) (omega (arith, s)))
labels_apart (whole.replicated p) path way k ls h a s = labels_apart p (path ++ 1 ∷ []) way k ls (in_rest annotation.IsLabelled _ _ h) a s
labels_apart (act (action.lock t l) p) path way k ls h a s =
    let e : l ≡ k + 1 = (h _ Member.here).0 t l refl in (
      label_new ls l k a e (omega (arith, s)),
      labels_apart p (path ++ 1 ∷ []) (locked (k + 1) t ∷ way) (k + 1) (l ∷ ls) (in_rest annotation.IsLabelled _ _ h) (omega (arith, e), at_most_more ls k (k + 1) (omega arith) a) (omega (arith, s)),
    )
labels_apart (act (action.unlock t l) p) path way k ls h a s = labels_apart p (path ++ 1 ∷ []) (unlocked t ∷ way) (k + 0) ls (in_rest annotation.IsLabelled _ _ h) (at_most_more ls k (k + 0) (omega arith) a) (omega (arith, s))
labels_apart (act (action.new x) p) path way k ls h a s = labels_apart p (path ++ 1 ∷ []) way (k + 0) ls (in_rest annotation.IsLabelled _ _ h) (at_most_more ls k (k + 0) (omega arith) a) (omega (arith, s))
labels_apart (act (action.out t) p) path way k ls h a s = labels_apart p (path ++ 1 ∷ []) way (k + 0) ls (in_rest annotation.IsLabelled _ _ h) (at_most_more ls k (k + 0) (omega arith) a) (omega (arith, s))
labels_apart (act (action.send t u) p) path way k ls h a s = labels_apart p (path ++ 1 ∷ []) way (k + 0) ls (in_rest annotation.IsLabelled _ _ h) (at_most_more ls k (k + 0) (omega arith) a) (omega (arith, s))
labels_apart (act (action.input t) p) path way k ls h a s = labels_apart p (path ++ 1 ∷ []) way (k + 0) ls (in_rest annotation.IsLabelled _ _ h) (at_most_more ls k (k + 0) (omega arith) a) (omega (arith, s))
labels_apart (act (action.receive t u) p) path way k ls h a s = labels_apart p (path ++ 1 ∷ []) way (k + 0) ls (in_rest annotation.IsLabelled _ _ h) (at_most_more ls k (k + 0) (omega arith) a) (omega (arith, s))
labels_apart (act (action.event f) p) path way k ls h a s = labels_apart p (path ++ 1 ∷ []) way (k + 0) ls (in_rest annotation.IsLabelled _ _ h) (at_most_more ls k (k + 0) (omega arith) a) (omega (arith, s))
labels_apart (act (action.insert t u) p) path way k ls h a s = labels_apart p (path ++ 1 ∷ []) way (k + 0) ls (in_rest annotation.IsLabelled _ _ h) (at_most_more ls k (k + 0) (omega arith) a) (omega (arith, s))
labels_apart (act (action.delete t) p) path way k ls h a s = labels_apart p (path ++ 1 ∷ []) way (k + 0) ls (in_rest annotation.IsLabelled _ _ h) (at_most_more ls k (k + 0) (omega arith) a) (omega (arith, s))
labels_apart (act (action.embedded l e r) p) path way k ls h a s = labels_apart p (path ++ 1 ∷ []) way (k + 0) ls (in_rest annotation.IsLabelled _ _ h) (at_most_more ls k (k + 0) (omega arith) a) (omega (arith, s))
labels_apart (whole.test t u p q) path way k ls h a s = (labels_apart p (path ++ 1 ∷ []) way k ls (in_first annotation.IsLabelled _ _ _ h) a (omega (arith, s)), labels_apart q (path ++ 2 ∷ []) way (k + lock_count p) ls (in_second annotation.IsLabelled _ (lock_sites_from (path ++ 1 ∷ []) way k p) _ h) (at_most_more ls k (k + lock_count p) (omega arith) a) (omega (arith, s)))
labels_apart (whole.lookup t x p q) path way k ls h a s = (labels_apart p (path ++ 1 ∷ []) way k ls (in_first annotation.IsLabelled _ _ _ h) a (omega (arith, s)), labels_apart q (path ++ 2 ∷ []) way (k + lock_count p) ls (in_second annotation.IsLabelled _ (lock_sites_from (path ++ 1 ∷ []) way k p) _ h) (at_most_more ls k (k + lock_count p) (omega arith) a) (omega (arith, s)))

pub annotated_is : (p : Proc) → annotation.IsAnnotated p → lock_count p < 2 ^ 64 → HasLabels p
annotated_is p h s =
    let labels : At annotation.IsLabelled [] [] 0 p = λ u m. h.labelled u (contains m) in
    record {
      locks = locks_ok p [] [] 0 [] (λ n t m. elim m [ ]) labels (λ u m f. h.flawless u (contains m) over f) (λ n t has carried. absurd has.1);
      labels = labels_apart p [] [] 0 [] labels tt (omega (arith, s));
    }

-- the label of a head, and of a place by its path from here

abbrev label_here : Action → ℕ
label_here (action.lock t l) = l
label_here (action.unlock t l) = l
label_here _ = 0

abbrev label_at : Proc → List ℕ → ℕ
label_at whole.nil path = 0
label_at (whole.parallel p q) [] = 0
label_at (whole.parallel p q) (zero ∷ path) = 0
label_at (whole.parallel p q) (suc zero ∷ path) = label_at p path
label_at (whole.parallel p q) (suc (suc d) ∷ path) = label_at q path
label_at (whole.replicated p) [] = 0
label_at (whole.replicated p) (d ∷ path) = label_at p path
label_at (act a p) [] = label_here a
label_at (act a p) (d ∷ path) = label_at p path
label_at (whole.test t u p q) [] = 0
label_at (whole.test t u p q) (zero ∷ path) = 0
label_at (whole.test t u p q) (suc zero ∷ path) = label_at p path
label_at (whole.test t u p q) (suc (suc d) ∷ path) = label_at q path
label_at (whole.lookup t x p q) [] = 0
label_at (whole.lookup t x p q) (zero ∷ path) = 0
label_at (whole.lookup t x p q) (suc zero ∷ path) = label_at p path
label_at (whole.lookup t x p q) (suc (suc d) ∷ path) = label_at q path

-- the labels of the places below this path are those
abbrev Tells : (List ℕ → ℕ) → List ℕ → (List ℕ → ℕ) → Type 0
Tells label path below = (rest : List ℕ) → label (path ++ rest) ≡ below rest

tells_child : (label : List ℕ → ℕ) (path : List ℕ) (below : List ℕ → ℕ) (d : ℕ) → Tells label path below → Tells label (path ++ d ∷ []) (λ rest. below (d ∷ rest))
tells_child label path below d h rest = ap label (append_assoc path (d ∷ []) rest) ∙ h (d ∷ rest)

tells_here : (label : List ℕ → ℕ) (path : List ℕ) (below : List ℕ → ℕ) → Tells label path below → label path ≡ below []
tells_here label path below h = ap label (sym (append-nil path)) ∙ h []

action_itself : (a : Action) → action_labelled (label_here a) a ≡ a
action_itself (action.lock t l) = refl
action_itself (action.unlock t l) = refl
action_itself (action.new x) = refl
action_itself (action.out t) = refl
action_itself (action.send t u) = refl
action_itself (action.input t) = refl
action_itself (action.receive t u) = refl
action_itself (action.event f) = refl
action_itself (action.insert t u) = refl
action_itself (action.delete t) = refl
action_itself (action.embedded l e r) = refl

action_bare : (n : ℕ) (a : Action) → action_labelled n (unlabelled_action a) ≡ action_labelled n a
action_bare n (action.lock t l) = refl
action_bare n (action.unlock t l) = refl
action_bare n (action.new x) = refl
action_bare n (action.out t) = refl
action_bare n (action.send t u) = refl
action_bare n (action.input t) = refl
action_bare n (action.receive t u) = refl
action_bare n (action.event f) = refl
action_bare n (action.insert t u) = refl
action_bare n (action.delete t) = refl
action_bare n (action.embedded l e r) = refl

-- a process has its own labels
itself : (p : Proc) (label : List ℕ → ℕ) (path : List ℕ) → Tells label path (label_at p) → labelled label path p ≡ p
itself whole.nil label path h = refl
itself (whole.parallel p q) label path h = λ i. whole.parallel (itself p label (path ++ 1 ∷ []) (tells_child label path (label_at (whole.parallel p q)) 1 h) i) (itself q label (path ++ 2 ∷ []) (tells_child label path (label_at (whole.parallel p q)) 2 h) i)
itself (whole.replicated p) label path h = λ i. whole.replicated (itself p label (path ++ 1 ∷ []) (tells_child label path (label_at (whole.replicated p)) 1 h) i)
itself (act a p) label path h = λ i. act ((ap (λ n. action_labelled n a) (tells_here label path (label_at (act a p)) h) ∙ action_itself a) i) (itself p label (path ++ 1 ∷ []) (tells_child label path (label_at (act a p)) 1 h) i)
itself (whole.test t u p q) label path h = λ i. whole.test t u (itself p label (path ++ 1 ∷ []) (tells_child label path (label_at (whole.test t u p q)) 1 h) i) (itself q label (path ++ 2 ∷ []) (tells_child label path (label_at (whole.test t u p q)) 2 h) i)
itself (whole.lookup t x p q) label path h = λ i. whole.lookup t x (itself p label (path ++ 1 ∷ []) (tells_child label path (label_at (whole.lookup t x p q)) 1 h) i) (itself q label (path ++ 2 ∷ []) (tells_child label path (label_at (whole.lookup t x p q)) 2 h) i)

-- labels that are set don't depend on those that stood there
bare : (p : Proc) (label : List ℕ → ℕ) (path : List ℕ) → labelled label path (unlabelled p) ≡ labelled label path p
bare whole.nil label path = refl
bare (whole.parallel p q) label path = λ i. whole.parallel (bare p label (path ++ 1 ∷ []) i) (bare q label (path ++ 2 ∷ []) i)
bare (whole.replicated p) label path = λ i. whole.replicated (bare p label (path ++ 1 ∷ []) i)
bare (act a p) label path = λ i. act (action_bare (label path) a i) (bare p label (path ++ 1 ∷ []) i)
bare (whole.test t u p q) label path = λ i. whole.test t u (bare p label (path ++ 1 ∷ []) i) (bare q label (path ++ 2 ∷ []) i)
bare (whole.lookup t x p q) label path = λ i. whole.lookup t x (bare p label (path ++ 1 ∷ []) i) (bare q label (path ++ 2 ∷ []) i)

-- an annotation is the process with labels
pub annotation_is : (p q : Proc) → annotation.IsAnnotation p q → IsRelabelled p q
annotation_is p q h = record {
  label = label_at q;
  is = sym (sym (bare p (label_at q) []) ∙ ap (labelled (label_at q) []) (sym h.same) ∙ bare q (label_at q) [] ∙ itself q (label_at q) [] (λ rest. refl));
}

-- no more locks than places
pub count_below : (p : Proc) → lock_count p < node_count p
count_below whole.nil = omega arith
count_below (whole.parallel p q) = (let a = count_below p in let b = count_below q in omega (arith, a, b))
count_below (whole.replicated p) = (let a = count_below p in omega (arith, a))
count_below (act a p) = (let b = count_below p in let c = one a in omega (arith, b, c))
  where
    one : (a : Action) → locks_set a ≤ 1
    one (action.lock t l) = omega arith
    one a = omega arith
count_below (whole.test t u p q) = (let a = count_below p in let b = count_below q in omega (arith, a, b))
count_below (whole.lookup t x p q) = (let a = count_below p in let b = count_below q in omega (arith, a, b))

pub same_nodes : (p : Proc) → node_count (unlabelled p) ≡ node_count p
same_nodes whole.nil = refl
same_nodes (whole.parallel p q) = λ i. same_nodes p i + same_nodes q i + 1
same_nodes (whole.replicated p) = λ i. same_nodes p i + 1
same_nodes (act a p) = λ i. same_nodes p i + 1
same_nodes (whole.test t u p q) = λ i. same_nodes p i + same_nodes q i + 1
same_nodes (whole.lookup t x p q) = λ i. same_nodes p i + same_nodes q i + 1

sorted_nodes : (v : List Var) (p : Proc) → node_count (with_sorts v p) ≡ node_count p
sorted_nodes v whole.nil = refl
sorted_nodes v (whole.parallel p q) = λ i. sorted_nodes v p i + sorted_nodes v q i + 1
sorted_nodes v (whole.replicated p) = λ i. sorted_nodes v p i + 1
sorted_nodes v (act a p) = λ i. sorted_nodes (v ++ bound_by v a) p i + 1
sorted_nodes v (whole.test t u p q) = λ i. sorted_nodes v p i + sorted_nodes v q i + 1
sorted_nodes v (whole.lookup t x p q) = λ i. sorted_nodes (v ++ message_var x ∷ []) p i + sorted_nodes v q i + 1

-- A process that is well-formed, with its sorts and then its annotation, is sound.
pub annotation_sound : (g : Sig) (p q : Proc) → IsWellFormed g p → node_count p < 2 ^ 64 → annotation.IsAnnotation (with_sorts [] p) q → IsSound g q
annotation_sound g p q fine small h =
    let nodes : node_count q ≡ node_count p = sym (same_nodes q) ∙ ap node_count h.same ∙ same_nodes (with_sorts [] p) ∙ sorted_nodes [] p in
    let few : lock_count q < node_count q = count_below q in
    well_formed_sound g p q fine (annotation_is (with_sorts [] p) q h) (annotated_is q h.annotated (omega (arith, nodes, few, small)))
