-- The locks that are open, where a thread moves.
use Rattle.sap_translate.specs.Members.{Member}
use Rattle.sap_translate.proofs.Terms.Choices.{put_more}
use Rattle.sap_translate.proofs.Shared.Facts.{eq_self}
use Rattle.sap_translate.proofs.Parts.LockPart.{lock_quiet}
use Rattle.sap_translate.proofs.Traces.LockTraces.{NoLock, no_lock_fact, no_unlock_fact}
use Rattle.sap_translate.proofs.Shared.Lookups.{member_cases, in_left, in_right, member_left, member_right}
use Rattle.sap_process.specs.Scopes.{lock_var}
use Rattle.sap_translate.proofs.Terms.Substitution.{within_more, known-append}
use Rattle.sap_translate.specs.relation.Envs.{Env, names, join}
use Rattle.sap_translate.specs.relation.Totals.{total}
use Rattle.sap_translate.specs.OpenLocks.{UnlocksAreOpen, closed}
use Rattle.sap_translate.specs.relation.Locks.{Holder}
use Rattle.sap_translate.specs.relation.Agents.{Agent, rest_of}
use Rattle.sap_translate.specs.relation.Related.{Holding, Covered, LocksPart}
use Rattle.sap_terms.specs.Normal.{IsNormalForm}
use Rattle.sap_terms.specs.Equations.{Equations}
use Rattle.sap_terms.specs.Trace.{Trace}
use Rattle.sap_process.specs.Sites.{var_names}
use Rattle.sap_terms.specs.Variables.{is_known}
use Rattle.sap_terms.specs.Tree.{Tree}
use Rattle.sap_terms.specs.declared.fact.Fact.{Fact}
use Rattle.std.proofs.Common.{◌≡◌, ◌||◌, ◌==◌, ℕ, zero, suc, ◌≤◌, List, [], ◌∷◌, ◌++◌, Option, Some, None, refl, sym, ap, ◌∙◌, arith, Bool, true, false, cond, slice_get, slice_set, subst}

-- C holds of each item that is there, with its number
pub every_at_set : {A : Type 0} (C : ℕ → A → Type 0) (xs : List (Option A)) (t : ℕ) (o : Option A) → ((u : ℕ) (a : A) → (t ≡ u → ⊥) → slice_get xs u ≡ Some (Some a) → C u a) → ((a : A) → o ≡ Some a → C t a) → (u : ℕ) (a : A) → slice_get (slice_set xs t o) u ≡ Some (Some a) → C u a
every_at_set C [] t o all h k a e = cc
every_at_set C (x ∷ xs) zero o all h zero a e = h a (cc)
every_at_set C (x ∷ xs) zero o all h (suc k) a e = all (suc k) a (λ z. cc) e
every_at_set C (x ∷ xs) (suc t) o all h zero a e = all zero a (λ z. cc) e
every_at_set C (x ∷ xs) (suc t) o all h (suc k) a e = every_at_set (λ n b. C (suc n) b) xs t o (λ j b d g. all (suc j) b (λ z. d (cc)) g) h k a e

pub every_at_push : {A : Type 0} (C : ℕ → A → Type 0) (xs : List (Option A)) (y : A) → ((u : ℕ) (a : A) → slice_get xs u ≡ Some (Some a) → C u a) → ((t : ℕ) → C t y) → (u : ℕ) (a : A) → slice_get (xs ++ Some y ∷ []) u ≡ Some (Some a) → C u a
every_at_push C [] y all h zero a e = let same : y ≡ a = cc in subst (λ z. C zero z) same (h zero)
every_at_push C [] y all h (suc k) a e = cc
every_at_push C (x ∷ xs) y all h zero a e = all zero a e
every_at_push C (x ∷ xs) y all h (suc k) a e = every_at_push (λ n b. C (suc n) b) xs y (λ j b g. all (suc j) b g) (λ t. h (suc t)) k a e

pub no_open : (e : Equations) (hs : List Holder) (t : ℕ) (a : Agent) → UnlocksAreOpen [] (rest_of a) → Covered e hs t a
no_open e hs t a ok = ([], ok, λ l m h. elim h [ ])

-- one thread moves
pub locks_set : {e : Equations} {agents : List (Option Agent)} {held : Tree → Bool} {hs : List Holder} {full : Trace} (t : ℕ) (a b : Agent) → slice_get agents t ≡ Some (Some a) → (Covered e hs t a → Covered e hs t b) → LocksPart e agents held hs full → LocksPart e (slice_set agents t (Some b)) held hs full
locks_set {e} {agents} {held} {hs} t a b g f k = record {
  part = k.part;
  covers = every_at_set (λ u z. Covered e hs u z) agents t (Some b) (λ u z d h. k.covers u z h) (λ z h. let same : b ≡ z = cc in subst (λ y. Covered e hs t y) same (f (k.covers t a g)));
}

pub locks_none : {e : Equations} {agents : List (Option Agent)} {held : Tree → Bool} {hs : List Holder} {full : Trace} (t : ℕ) → LocksPart e agents held hs full → LocksPart e (slice_set agents t None) held hs full
locks_none {e} {agents} {held} {hs} t k = record {
  part = k.part;
  covers = every_at_set (λ u z. Covered e hs u z) agents t None (λ u z d h. k.covers u z h) (λ z h. absurd (cc));
}

pub locks_push : {e : Equations} {agents : List (Option Agent)} {held : Tree → Bool} {hs : List Holder} {full : Trace} (b : Agent) → UnlocksAreOpen [] (rest_of b) → LocksPart e agents held hs full → LocksPart e (agents ++ Some b ∷ []) held hs full
locks_push {e} {agents} {held} {hs} b ok k = record {
  part = k.part;
  covers = every_at_push (λ u z. Covered e hs u z) agents b k.covers (λ u. no_open e hs u b ok);
}

pub locks_quiet : {e : Equations} {agents : List (Option Agent)} {held : Tree → Bool} {hs : List Holder} {full : Trace} (acts : List Fact) → NoLock acts → LocksPart e agents held hs full → LocksPart e agents held hs (full ++ acts ∷ [])
locks_quiet {held = held} {hs = hs} {full = full} acts none k = record {
  part = lock_quiet held hs full acts k.part (λ l x m. no_lock_fact acts l x none m) (λ l x m. no_unlock_fact acts l x none m);
  covers = k.covers;
}

-- more is in scope, and more is held
pub longer : {e : Equations} {hs : List Holder} {t : ℕ} {l : ℕ} {m : Tree} (env τ : Env) → Holding e hs t env l m → Holding e hs t (join env τ) l m
longer {e} {l = l} {m = m} env τ k = record {
  holder = k.holder;
  among = k.among;
  thread = k.thread;
  label = k.label;
  known = known-append env.scope τ.scope (lock_var l) ∙ ap (λ b. b || is_known (var_names τ.scope) (lock_var l).name) k.known;
  bound = ap (λ b. cond b (env.choice (lock_var l)) (τ.choice (lock_var l))) k.known ∙ k.bound;
  form = subst (λ u. IsNormalForm e u k.holder.term) (sym (put_more env τ m k.within)) k.form;
  within = within_more (names env) (names env ++ names τ) (λ x h. member_left (names τ) h) m k.within;
}

pub among_others : {e : Equations} {hs gs : List Holder} {t : ℕ} {env : Env} {l : ℕ} {m : Tree} (k : Holding e hs t env l m) → Member k.holder gs → Holding e gs t env l m
among_others k n = record { holder = k.holder; among = n; thread = k.thread; label = k.label; known = k.known; bound = k.bound; form = k.form; within = k.within }

-- a list apart at a member
pub record Split {A : Type 0} (x : A) (xs : List A) : Type 0 where
  pub before : List A
  pub after : List A
  pub is : xs ≡ before ++ x ∷ after

pub split_at : {A : Type 0} {x : A} {xs : List A} → Member x xs → Split x xs
split_at {xs = xs} (Member.here {xs = ys}) = record { before = []; after = ys; is = refl }
split_at (Member.later {y = y} m) = let s = split_at m in record { before = y ∷ s.before; after = s.after; is = ap (λ zs. y ∷ zs) s.is }

not_here : {A : Type 0} {z x : A} {after : List A} → Member z (x ∷ after) → (z ≡ x → ⊥) → Member z after
not_here Member.here d = absurd (d refl)
not_here (Member.later k) d = k

-- all but x
pub but_one : {A : Type 0} {y : A} (x : A) (before after : List A) → Member y (before ++ x ∷ after) → (y ≡ x → ⊥) → Member y (before ++ after)
but_one x before after m d = elim (member_cases before (x ∷ after) m) [
  | in_left a ↦ member_left after a
  | in_right b ↦ member_right before (not_here b d)
]

pub member_counts : {A : Type 0} (w : A → ℕ) (x : A) (xs : List A) → Member x xs → w x ≤ total w xs
member_counts w x [] m = elim m [ ]
member_counts w x (y ∷ xs) Member.here = omega arith
member_counts w x (y ∷ xs) (Member.later m) = let h = member_counts w x xs m in omega arith

closed_one : (l : ℕ) (c z : ℕ × Tree) (o : List (ℕ × Tree)) → (l == c.0) ≡ false → (Member z (closed l o) → Member z o × (z.0 ≡ l → ⊥)) → Member z (c ∷ closed l o) → Member z (c ∷ o) × (z.0 ≡ l → ⊥)
closed_one l c z o e more Member.here = (Member.here, λ s. let h : (l == c.0) ≡ true = subst (λ y. (l == y) ≡ true) (sym s) (eq_self l) in let z : true ≡ false = sym h ∙ e in cc)
closed_one l c z o e more (Member.later k) = let r = more k in (Member.later r.0, r.1)

-- what is open after an unlock has another label
pub closed_other : (l : ℕ) (b : ℕ × Tree) (o : List (ℕ × Tree)) → Member b (closed l o) → Member b o × (b.0 ≡ l → ⊥)
closed_other l b [] m = elim m [ ]
closed_other l b (c ∷ o) m = go (closed_other l b o) ((l == c.0)) refl m
  where
    go : (Member b (closed l o) → Member b o × (b.0 ≡ l → ⊥)) → (d : Bool) → (l == c.0) ≡ d → Member b (cond d (closed l o) (c ∷ closed l o)) → Member b (c ∷ o) × (b.0 ≡ l → ⊥)
    go more true e k = let r = more k in (Member.later r.0, r.1)
    go more false e k = closed_one l c b o e more k
