-- What has no flaw of scope is closed.
use Rattle.std.proofs.Common.{◌≡◌, ℕ, ◌+◌, Bool, true, false, ◌||◌, List, [], ◌∷◌, ◌++◌, Some, refl, sym, ap, ◌∙◌, subst, ⊎_elim}
use Rattle.std.proofs.lemmas.Bool.{cases_Bool, false≢true}
use Rattle.std.proofs.lemmas.List.Elements.{Contains-append_left, Contains-append_right}
use Rattle.std.specs.List.{filter}
use Rattle.std.specs.Prelude.{Contains, cond, if◌then◌else◌, not, slice_get}
use Rattle.std.specs.Str.{bytes_eq}
use Rattle.sap_terms.specs.Signature.{Sig}
use Rattle.sap_terms.specs.Tree.{Tree, trees_of}
use Rattle.sap_terms.specs.Variables.{facts_vars, is_known, new_vars, tree_vars, trees_vars}
use Rattle.sap_terms.specs.declared.var.Var.{Var}
use Rattle.sap_terms.proofs.PlainLaws.Items.{first_item, got_contained, later_item}
use Rattle.sap_process.specs.Action.{Action, new, out, send, input, receive, event, insert, delete, lock, unlock, embedded}
use Rattle.sap_process.specs.Flaws.{HasNoScopeFlaw, Rebinds, unbound}
use Rattle.sap_process.specs.Heads.{binder, locks_set, terms_vars}
use Rattle.sap_process.specs.Places.{place}
use Rattle.sap_process.specs.Proc as whole
use Rattle.sap_process.specs.Proc.{Proc}
use Rattle.sap_process.specs.Sites.{Site, above_of, bound_by, fresh_var, message_var, sites_from, sites_in, var_names}
use Rattle.sap_process.specs.declared.flaw.Flaw.TheVariants.{Unbound, Rebound}
use Rattle.sap_macro.specs.Expansion.{behind, scope_behind}
use Rattle.sap_macro.specs.Instances.{BindsNew, IsClosed, IsOverScope, used_vars}
use Rattle.sap_macro.specs.Seen.{seen}
use Rattle.sap_macro.specs.Written.{Written, nil, call, parallel, replicated, act, test, lookup}
use Rattle.sap_terms.proofs.PlainLaws.Known.{one_name}

-- ---- which names are known

-- the lists know the same names
abbrev KnowTheSame : List (List ℕ) → List (List ℕ) → Type 0
KnowTheSame a b = (x : List ℕ) → is_known a x ≡ is_known b x

known_two : (a b : List (List ℕ)) (x : List ℕ) → is_known (a ++ b) x ≡ (is_known a x || is_known b x)
known_two [] b x = refl
known_two (y ∷ a) b x = ap (λ z. bytes_eq y x || z) (known_two a b x) ∙ three (bytes_eq y x) where
  three : (c : Bool) → (c || (is_known a x || is_known b x)) ≡ ((c || is_known a x) || is_known b x)
  three true = refl
  three false = refl

-- one name more, in front or behind
known_more : (a b : List (List ℕ)) (n : List ℕ) → KnowTheSame a b → KnowTheSame (n ∷ a) (b ++ n ∷ [])
known_more a b n h x = by (bytes_eq n x) (is_known a x) (is_known b x) (h x) ∙ sym (known_two b (n ∷ []) x) where
  by : (c p q : Bool) → p ≡ q → (c || p) ≡ (q || (c || false))
  by true p true e = refl
  by true p false e = refl
  by false p true e = e
  by false p false e = e

-- a name that is known already
known_again : (a b : List (List ℕ)) (n : List ℕ) → is_known a n ≡ true → KnowTheSame a b → KnowTheSame a (b ++ n ∷ [])
known_again a b n k h x = by (bytes_eq n x) refl ∙ sym (known_two b (n ∷ []) x) where
  by : (c : Bool) → bytes_eq n x ≡ c → is_known a x ≡ (is_known b x || (c || false))
  by true e = ap (is_known a) (sym (one_name n x e)) ∙ k ∙ sym (or_true (is_known b x)) where
    or_true : (q : Bool) → (q || true) ≡ true
    or_true true = refl
    or_true false = refl
  by false e = h x ∙ or_same (is_known b x) where
    or_same : (q : Bool) → q ≡ (q || false)
    or_same true = refl
    or_same false = refl

-- behind a pattern
known_behind : (vs : List Var) (names known : List (List ℕ)) → KnowTheSame names known → KnowTheSame (scope_behind names vs) (known ++ var_names (new_vars known vs))
known_behind [] names known h x = h x ∙ by (is_known known x) ∙ sym (known_two known [] x) where
  by : (q : Bool) → q ≡ (q || false)
  by true = refl
  by false = refl
known_behind (v ∷ vs) names known h x =
    by (known_behind vs names known h x) (known_behind vs (v.name ∷ names) (known ++ v.name ∷ []) (known_more names known v.name h) x) (is_known names v.name) (is_known known v.name)
    (h v.name)
  where
    last : (a : List (List ℕ)) → is_known ((known ++ v.name ∷ []) ++ a) x ≡ is_known (known ++ (v.name ∷ a)) x
    last a =
        known_two (known ++ v.name ∷ []) a x ∙ ap (λ z. z || is_known a x) (known_two known (v.name ∷ []) x) ∙ turned (is_known known x) (bytes_eq v.name x) (is_known a x)
        ∙ sym (known_two known (v.name ∷ a) x)
      where
        turned : (p q r : Bool) → ((p || (q || false)) || r) ≡ (p || (q || r))
        turned true q r = refl
        turned false true r = refl
        turned false false r = refl

    by : is_known (scope_behind names vs) x ≡ is_known (known ++ var_names (new_vars known vs)) x
        → is_known (scope_behind (v.name ∷ names) vs) x ≡ is_known ((known ++ v.name ∷ []) ++ var_names (new_vars (known ++ v.name ∷ []) vs)) x → (p q : Bool) → p ≡ q → is_known (scope_behind (if p then names else (v.name ∷ names)) vs) x
        ≡ is_known (known ++ var_names (if q then new_vars known vs else v ∷ new_vars (known ++ v.name ∷ []) vs)) x
    by old more true true e = old
    by old more true false e = absurd (false≢true (sym e))
    by old more false true e = absurd (false≢true e)
    by old more false false e = more ∙ last (var_names (new_vars (known ++ v.name ∷ []) vs))

names_two : (a b : List Var) → var_names (a ++ b) ≡ var_names a ++ var_names b
names_two [] b = refl
names_two (v ∷ a) b = ap (λ ns. v.name ∷ ns) (names_two a b)

nothing_more : (names : List (List ℕ)) (scope : List Var) → KnowTheSame names (var_names scope) → KnowTheSame names (var_names (scope ++ []))
nothing_more names scope h x = h x ∙ by (is_known (var_names scope) x) ∙ sym (ap (λ ns. is_known ns x) (names_two scope []) ∙ known_two (var_names scope) [] x) where
  by : (q : Bool) → q ≡ (q || false)
  by true = refl
  by false = refl

pattern_more : (names : List (List ℕ)) (scope vs : List Var) → KnowTheSame names (var_names scope)
    → KnowTheSame (scope_behind names vs) (var_names (scope ++ new_vars (var_names scope) vs))
pattern_more names scope vs h x =
    known_behind vs names (var_names scope) h x ∙ sym (ap (λ ns. is_known ns x) (names_two scope (new_vars (var_names scope) vs)))

-- behind an action
action_more : (names : List (List ℕ)) (scope : List Var) (a : Action) → KnowTheSame names (var_names scope) → KnowTheSame (behind names a) (var_names (scope ++ bound_by scope a))
action_more names scope (new x) h = by (is_known names x.name) refl where
  by : (b : Bool) → is_known names x.name ≡ b → KnowTheSame (if b then names else (x.name ∷ names)) (var_names (scope ++ fresh_var x ∷ []))
  by true e = subst (KnowTheSame names) (sym (names_two scope (fresh_var x ∷ []))) (known_again names (var_names scope) x.name e h)
  by false e = subst (KnowTheSame (x.name ∷ names)) (sym (names_two scope (fresh_var x ∷ []))) (known_more names (var_names scope) x.name h)
action_more names scope (out t) h = nothing_more names scope h
action_more names scope (send t u) h = nothing_more names scope h
action_more names scope (input t) h = pattern_more names scope (tree_vars t) h
action_more names scope (receive t u) h = pattern_more names scope (tree_vars u) h
action_more names scope (event f) h = nothing_more names scope h
action_more names scope (insert t u) h = nothing_more names scope h
action_more names scope (delete t) h = nothing_more names scope h
action_more names scope (lock t n) h = nothing_more names scope h
action_more names scope (unlock t n) h = nothing_more names scope h
action_more names scope (embedded l e r) h = pattern_more names scope (facts_vars (l ++ (e ++ r))) h

-- ---- what is used is bound

module _ (names known : List (List ℕ)) (h : KnowTheSame names known) where
  abbrev loose : List Var → List Var
  loose vs = filter (λ (v : Var). not (is_known known v.name)) vs

  over_scope : (vs : List Var) → loose vs ≡ [] → IsOverScope names vs
  over_scope [] e = tt
  over_scope (v ∷ vs) e = by (over_scope vs) (is_known known v.name) refl where
    by : (loose vs ≡ [] → IsOverScope names vs) → (b : Bool) → is_known known v.name ≡ b → IsOverScope names (v ∷ vs)
    by rest true k = (h v.name ∙ k, rest (sym (ap (λ z. cond (not z) (v ∷ loose vs) (loose vs)) k) ∙ e))
    by rest false k = let some : v ∷ loose vs ≡ [] = sym (ap (λ z. cond (not z) (v ∷ loose vs) (loose vs)) k) ∙ e in absurd (cc)

  first_over : (a b : List Var) → IsOverScope names (a ++ b) → IsOverScope names a
  first_over [] b o = tt
  first_over (v ∷ a) b o = (o.0, first_over a b o.1)

  second_over : (a b : List Var) → IsOverScope names (a ++ b) → IsOverScope names b
  second_over [] b o = o
  second_over (v ∷ a) b o = second_over a b o.1

  both_over : (a b : List Var) → IsOverScope names a → IsOverScope names b → IsOverScope names (a ++ b)
  both_over [] b o p = p
  both_over (v ∷ a) b o p = (o.0, both_over a b o.1 p)

  list_over : (ts : List Tree) → IsOverScope names (terms_vars ts) → IsOverScope names (trees_vars (trees_of ts))
  list_over [] o = tt
  list_over (t ∷ ts) o =
      both_over (tree_vars t) (trees_vars (trees_of ts)) (first_over (tree_vars t) (terms_vars ts) o) (list_over ts (second_over (tree_vars t) (terms_vars ts) o))

  one_over : (t : Tree) → IsOverScope names (terms_vars (t ∷ [])) → IsOverScope names (tree_vars t)
  one_over t o = first_over (tree_vars t) [] o

  two_over : (t u : Tree) → IsOverScope names (terms_vars (t ∷ u ∷ [])) → IsOverScope names (tree_vars t) × IsOverScope names (tree_vars u)
  two_over t u o = (first_over (tree_vars t) (terms_vars (u ∷ [])) o, one_over u (second_over (tree_vars t) (terms_vars (u ∷ [])) o))

-- ---- place by place

-- nothing unbound is used at the place, and it binds nothing again
pub record IsGood (s : Site) : Type 0 where
  pub bound : unbound s.above.scope s.body ≡ []
  pub new_binder : ¬ Rebinds s

abbrev AreGood : List Site → Type 0
AreGood ss = (s : Site) → Contains ss s → IsGood s

first_good : (a b : List Site) → AreGood (a ++ b) → AreGood a
first_good a b h s c = h s (Contains-append_left a b s c)

second_good : (a b : List Site) → AreGood (a ++ b) → AreGood b
second_good a b h s c = h s (Contains-append_right a b s c)

later_good : (s : Site) (b : List Site) → AreGood (s ∷ b) → AreGood b
later_good s b h r c = h r (later_item s b r c)

head_good : (s : Site) (b : List Site) → AreGood (s ∷ b) → IsGood s
head_good s b h = h s (first_item s b)

-- a binder that isn't in scope
binds_new : (names : List (List ℕ)) (scope : List Var) (path : List ℕ) (k : ℕ) (p : Proc) (x : Var) → KnowTheSame names (var_names scope) → binder p ≡ Some x
    → IsGood (place path (above_of scope k) p) → is_known names x.name ≡ false
binds_new names scope path k p x h e good =
    ⊎_elim (λ t. absurd (good.new_binder (record { var = x; stands = e; in_scope = sym (h x.name) ∙ t }))) (λ f. f) (cases_Bool (is_known names x.name))

module _ (names : List (List ℕ)) (scope : List Var) (h : KnowTheSame names (var_names scope)) (path : List ℕ) (k : ℕ) where
  over : (vs : List Var) → filter (λ (v : Var). not (is_known (var_names scope) v.name)) vs ≡ [] → IsOverScope names vs
  over vs e = over_scope names (var_names scope) h vs e

  used_bound : (a : Action) (p : Proc) → IsGood (place path (above_of scope k) (whole.act a p)) → IsOverScope names (used_vars a)
  used_bound (new x) p g = tt
  used_bound (out t) p g = one_over names (var_names scope) h t (over (terms_vars (t ∷ [])) g.bound)
  used_bound (send t u) p g =
      let o = two_over names (var_names scope) h t u (over (terms_vars (t ∷ u ∷ [])) g.bound) in
      both_over names (var_names scope) h (tree_vars t) (tree_vars u) o.0 o.1
  used_bound (input t) p g = tt
  used_bound (receive t u) p g = one_over names (var_names scope) h t (over (terms_vars (t ∷ [])) g.bound)
  used_bound (event f) p g = list_over names (var_names scope) h f.args (over (terms_vars f.args) g.bound)
  used_bound (insert t u) p g =
      let o = two_over names (var_names scope) h t u (over (terms_vars (t ∷ u ∷ [])) g.bound) in
      both_over names (var_names scope) h (tree_vars t) (tree_vars u) o.0 o.1
  used_bound (delete t) p g = one_over names (var_names scope) h t (over (terms_vars (t ∷ [])) g.bound)
  used_bound (lock t n) p g = one_over names (var_names scope) h t (over (terms_vars (t ∷ [])) g.bound)
  used_bound (unlock t n) p g = one_over names (var_names scope) h t (over (terms_vars (t ∷ [])) g.bound)
  used_bound (embedded l e r) p g = tt

  binder_new : (a : Action) (p : Proc) → IsGood (place path (above_of scope k) (whole.act a p)) → BindsNew names a
  binder_new (new x) p g = binds_new names scope path k (whole.act (new x) p) x h refl g
  binder_new (out t) p g = tt
  binder_new (send t u) p g = tt
  binder_new (input t) p g = tt
  binder_new (receive t u) p g = tt
  binder_new (event f) p g = tt
  binder_new (insert t u) p g = tt
  binder_new (delete t) p g = tt
  binder_new (lock t n) p g = tt
  binder_new (unlock t n) p g = tt
  binder_new (embedded l e r) p g = tt

-- the places below a place that branches
abbrev below_one : List ℕ → List Var → ℕ → Proc → List Site
below_one path scope k p = sites_from (path ++ 1 ∷ []) scope k p

abbrev below_two : List ℕ → List Var → ℕ → Proc → List Site
below_two path scope k p = sites_from (path ++ 2 ∷ []) scope k p

-- the process has the form of what is written, where these are in scope; a use is there as flaws see it, or it names nothing else in
-- its arguments, and anything may stand for it
pub data Shows : List (List ℕ) → Written → Proc → Type 0 where
  nil_shows : {names : List (List ℕ)} → Shows names nil whole.nil
  use_shows : {names : List (List ℕ)} {f : List ℕ} {ts : List Tree} → Shows names (call f ts) (seen (call f ts))
  anything : {names : List (List ℕ)} {f : List ℕ} {ts : List Tree} {q : Proc} → IsOverScope names (trees_vars (trees_of ts)) → Shows names (call f ts) q
  parallel_shows : {names : List (List ℕ)} {p u : Written} {a b : Proc} → Shows names p a → Shows names u b → Shows names (parallel p u) (whole.parallel a b)
  replicated_shows : {names : List (List ℕ)} {p : Written} {a : Proc} → Shows names p a → Shows names (replicated p) (whole.replicated a)
  act_shows : {names : List (List ℕ)} {c : Action} {p : Written} {a : Proc} → Shows (behind names c) p a → Shows names (act c p) (whole.act c a)
  test_shows : {names : List (List ℕ)} {t v : Tree} {p u : Written} {a b : Proc} → Shows names p a → Shows names u b → Shows names (test t v p u) (whole.test t v a b)
  lookup_shows : {names : List (List ℕ)} {t : Tree} {x : Var} {p u : Written} {a b : Proc} → Shows (x.name ∷ names) p a → Shows names u b
      → Shows names (lookup t x p u) (whole.lookup t x a b)

closed_in : (names : List (List ℕ)) (w : Written) (q : Proc) → Shows names w q → (scope : List Var) (path : List ℕ) (k : ℕ) → KnowTheSame names (var_names scope)
    → AreGood (sites_from path scope k q) → IsClosed names w
closed_in names w q nil_shows scope path k h g = tt
closed_in names w q (use_shows {f = f} {ts = ts}) scope path k h g =
    let here = head_good (place path (above_of scope k) (seen (call f ts))) (below_one path (scope ++ []) (k + 0) whole.nil) g in
    list_over names (var_names scope) h ts (over names scope h path k (terms_vars ts) here.bound)
closed_in names w q (anything o) scope path k h g = o
closed_in names w q (parallel_shows {p = p} {u = u} {a = a} {b = b} l r) scope path k h g =
    let rest = later_good (place path (above_of scope k) (whole.parallel a b)) (below_one path scope k a ++ below_two path scope k b) g in (
      closed_in names p a l scope (path ++ 1 ∷ []) k h (first_good (below_one path scope k a) (below_two path scope k b) rest),
      closed_in names u b r scope (path ++ 2 ∷ []) k h (second_good (below_one path scope k a) (below_two path scope k b) rest),
    )
closed_in names w q (replicated_shows {p = p} {a = a} l) scope path k h g =
    closed_in names p a l scope (path ++ 1 ∷ []) k h (later_good (place path (above_of scope k) (whole.replicated a)) (below_one path scope k a) g)
closed_in names w q (act_shows {c = c} {p = p} {a = a} l) scope path k h g =
    let below = below_one path (scope ++ bound_by scope c) (k + locks_set c) a in
    let here = head_good (place path (above_of scope k) (whole.act c a)) below g in (
      used_bound names scope h path k c a here,
      (
        binder_new names scope h path k c a here,
        closed_in (behind names c) p a l (scope ++ bound_by scope c) (path ++ 1 ∷ []) (k + locks_set c) (action_more names scope c h)
            (later_good (place path (above_of scope k) (whole.act c a)) below g),
      ),
    )
closed_in names w q (test_shows {t = t} {v = v} {p = p} {u = u} {a = a} {b = b} l r) scope path k h g =
    let below = below_one path scope k a ++ below_two path scope k b in
    let here = head_good (place path (above_of scope k) (whole.test t v a b)) below g in
    let rest = later_good (place path (above_of scope k) (whole.test t v a b)) below g in
    let used = two_over names (var_names scope) h t v (over names scope h path k (terms_vars (t ∷ v ∷ [])) here.bound) in (
      used.0,
      (
        used.1,
        (
          closed_in names p a l scope (path ++ 1 ∷ []) k h (first_good (below_one path scope k a) (below_two path scope k b) rest),
          closed_in names u b r scope (path ++ 2 ∷ []) k h (second_good (below_one path scope k a) (below_two path scope k b) rest),
        ),
      ),
    )
closed_in names w q (lookup_shows {t = t} {x = x} {p = p} {u = u} {a = a} {b = b} l r) scope path k h g =
    let inner = scope ++ message_var x ∷ [] in
    let below = below_one path inner k a ++ below_two path scope k b in
    let here = head_good (place path (above_of scope k) (whole.lookup t x a b)) below g in
    let rest = later_good (place path (above_of scope k) (whole.lookup t x a b)) below g in (
      one_over names (var_names scope) h t (over names scope h path k (terms_vars (t ∷ [])) here.bound),
      (
        binds_new names scope path k (whole.lookup t x a b) x h refl here,
        (
          closed_in (x.name ∷ names) p a l inner (path ++ 1 ∷ []) k
              (subst (KnowTheSame (x.name ∷ names)) (sym (names_two scope (message_var x ∷ []))) (known_more names (var_names scope) x.name h))
              (first_good (below_one path inner k a) (below_two path scope k b) rest),
          closed_in names u b r scope (path ++ 2 ∷ []) k h (second_good (below_one path inner k a) (below_two path scope k b) rest),
        ),
      ),
    )

-- what is written shows as flaws see it
seen_shows : (names : List (List ℕ)) (w : Written) → Shows names w (seen w)
seen_shows names nil = nil_shows
seen_shows names (call f ts) = use_shows
seen_shows names (parallel p q) = parallel_shows (seen_shows names p) (seen_shows names q)
seen_shows names (replicated p) = replicated_shows (seen_shows names p)
seen_shows names (act a p) = act_shows (seen_shows (behind names a) p)
seen_shows names (test t u p q) = test_shows (seen_shows names p) (seen_shows names q)
seen_shows names (lookup t x p q) = lookup_shows (seen_shows (x.name ∷ names) p) (seen_shows names q)

-- a place without a flaw
good_at : (g : Sig) (scope : List Var) (p : Proc) → HasNoScopeFlaw g scope p → AreGood (sites_in scope p)
good_at g scope p none s c =
    let at = got_contained (sites_in scope p) s c in
    record {
      bound = by (unbound s.above.scope s.body) refl at.0 at.1;
      new_binder = λ r. none Rebound tt at.0 (record { site = s; stands = at.1; flaw = r });
    }
  where
    by : (vs : List Var) → unbound s.above.scope s.body ≡ vs → (k : ℕ) → slice_get (sites_in scope p) k ≡ Some s → unbound s.above.scope s.body ≡ []
    by [] e k is = e
    by (v ∷ vs) e k is =
        absurd (none Unbound tt k (record { site = s; stands = is; flaw = λ empty. let some : v ∷ vs ≡ [] = sym e ∙ empty in absurd (cc) }))

pub shown_closed : (g : Sig) (scope : List Var) (w : Written) (q : Proc) → Shows (var_names scope) w q → HasNoScopeFlaw g scope q → IsClosed (var_names scope) w
shown_closed g scope w q l none = closed_in (var_names scope) w q l scope [] 0 (λ x. refl) (good_at g scope q none)

pub unflawed_closed : (g : Sig) (scope : List Var) (w : Written) → HasNoScopeFlaw g scope (seen w) → IsClosed (var_names scope) w
unflawed_closed g scope w none = shown_closed g scope w (seen w) (seen_shows (var_names scope) w) none
