-- The tests of a place, and the flaws that they tell.
use Rattle.std.proofs.Common.{◌≡◌, ℕ, ◌+◌, ◌<◌, List, [], ◌∷◌, ◌++◌, Bool, true, false, not, ◌||◌, ◌&&◌, Option, Some, None, option_map, length, inl, inr, refl, sym, ap, subst, ◌∙◌}
use Rattle.std.specs.Prelude.{◌⊎◌, nat_lt}
use Rattle.std.specs.List.{list_any, flat_map}
use Rattle.std.specs.Option.{option_map_or}
use Rattle.std.proofs.lemmas.List.{append_assoc, append-nil}
use Rattle.std.proofs.lemmas.Bool.{ltb-true, lt-ltb}
use Rattle.std.proofs.lemmas.Bool.Decides.{Decides-eqb}
use Rattle.sap_terms.specs.Message.{IsOver, AreOver}
use Rattle.sap_terms.specs.Same.{same_sort}
use Rattle.sap_terms.specs.Signature.{Sig, arity_of, is_destructor_of}
use Rattle.sap_terms.specs.Tree.{Tree, variable, public, fresh, apply, Trees, none, more, trees_of, list_of}
use Rattle.sap_terms.specs.Variables.{is_known}
use Rattle.sap_terms.specs.declared.limits.TheConstants.{MOST_SCOPE_NAMES}
use Rattle.sap_terms.specs.declared.var.Sort.{Sort}
use Rattle.sap_terms.specs.declared.var.Sort.TheVariants.{Msg, Fresh, Pub}
use Rattle.sap_terms.specs.declared.var.Var.{Var}
use Rattle.sap_terms.proofs.PlainLaws.Tests.{and_left, and_right, and_true}
use Rattle.sap_process.specs.Heads.{terms_vars, head_terms, head_vars, binder, bound_as, patterns, stored_facts, shown_facts}
use Rattle.sap_process.specs.Sites.{Site, var_names}
use Rattle.sap_terms.specs.Destructors.{HasDestructor, AnyHasDestructor}
use Rattle.sap_process.specs.Flaws.{AppliesBadly, BindsConstant, HasReservedVar, HasReservedFact, HasClash, HasOtherArity, HasOtherForm, HasPatternDestructor, unbound, Rebinds, scope_at, binder_of, HasSortClash, HasFlaw}
use Rattle.sap_terms.specs.TermTests.{has_arity, is_over, are_over, has_destructor, any_has_destructor}
use Rattle.sap_process.specs.code.Tests.{is_constant, binds_constant, is_reserved_var, is_reserved_fact, noted_all, has_clash, has_items, rebinds, is_other_sort, has_other_sort, has_flaw}
use Rattle.sap_process.specs.code.Walks.{seen_at, clashes}
use Rattle.sap_process.specs.declared.flaw.Flaw.{Flaw}
use Rattle.sap_process.specs.declared.flaw.Flaw.TheVariants.{BadFunction, ReservedVar, ReservedFact, FactClash, PatternDestructor, Unbound, Rebound, SortClash, ScopeFull}
use Rattle.sap_process.specs.declared.met.Seen.{Seen}
use Rattle.sap_process.proofs.Members.{any-found, any-holds, not-true, or-left, or-right, or-cases}
use Rattle.sap_process.proofs.Clashes.{AreShapes, shapes-none, clash-sound, clash-complete, shapes-all}

-- terms over a signature

arity-there : (o : Option ℕ) (k : ℕ) → has_arity o k ≡ true → o ≡ Some k
arity-there None k h = cc
arity-there (Some n) k h = ap Some ((Decides-eqb n k).0 h)

arity-tested : (o : Option ℕ) (k : ℕ) → o ≡ Some k → has_arity o k ≡ true
arity-tested o k h = rw h ((Decides-eqb k k).1 refl)

mutual
  pub over-sound : (g : Sig) (t : Tree) → is_over g t ≡ true → IsOver g t
  over-sound g (variable v) h = tt
  over-sound g (public n) h = tt
  over-sound g (fresh k) h = tt
  over-sound g (apply f ts) h =
      (arity-there (arity_of g f) (length (list_of ts)) (and_left _ _ h), all-over-sound g ts (and_right _ _ h))

  all-over-sound : (g : Sig) (ts : Trees) → are_over g ts ≡ true → AreOver g ts
  all-over-sound g none h = tt
  all-over-sound g (more t ts) h = (over-sound g t (and_left _ _ h), all-over-sound g ts (and_right _ _ h))

mutual
  pub over-complete : (g : Sig) (t : Tree) → IsOver g t → is_over g t ≡ true
  over-complete g (variable v) o = refl
  over-complete g (public n) o = refl
  over-complete g (fresh k) o = refl
  over-complete g (apply f ts) o =
      and_true _ _ (arity-tested (arity_of g f) (length (list_of ts)) o.0) (all-over-complete g ts o.1)

  all-over-complete : (g : Sig) (ts : Trees) → AreOver g ts → are_over g ts ≡ true
  all-over-complete g none o = refl
  all-over-complete g (more t ts) o = and_true _ _ (over-complete g t o.0) (all-over-complete g ts o.1)

-- terms are over it where no term isn't
over-any : (g : Sig) (ts : List Tree) → not (are_over g (trees_of ts)) ≡ list_any (λ t. not (is_over g t)) ts
over-any g [] = refl
over-any g (t ∷ ts) = by (is_over g t) (over-any g ts) where
  by : (b : Bool) → not (are_over g (trees_of ts)) ≡ list_any (λ u. not (is_over g u)) ts → not (b && are_over g (trees_of ts)) ≡ (not b || list_any (λ u. not (is_over g u)) ts)
  by true later = later
  by false later = refl

-- destructors

mutual
  destructor-sound : (g : Sig) (t : Tree) → has_destructor g t ≡ true → HasDestructor g t
  destructor-sound g (variable v) h = cc
  destructor-sound g (public n) h = cc
  destructor-sound g (fresh k) h = cc
  destructor-sound g (apply f ts) h =
      elim (or-cases (is_destructor_of g f) (any_has_destructor g ts) h) as (λ _. HasDestructor g (apply f ts)) [ inl e ↦ inl e | inr e ↦ inr (any-destructor-sound g ts e) ]

  any-destructor-sound : (g : Sig) (ts : Trees) → any_has_destructor g ts ≡ true → AnyHasDestructor g ts
  any-destructor-sound g none h = cc
  any-destructor-sound g (more t ts) h =
      elim (or-cases (has_destructor g t) (any_has_destructor g ts) h) as (λ _. AnyHasDestructor g (more t ts)) [ inl e ↦ inl (destructor-sound g t e) | inr e ↦ inr (any-destructor-sound g ts e) ]

or-first : (a b : Bool) → a ≡ true → (a || b) ≡ true
or-first true b h = refl
or-first false b h = cc

or-second : (a b : Bool) → b ≡ true → (a || b) ≡ true
or-second true b h = refl
or-second false b h = h

mutual
  destructor-complete : (g : Sig) (t : Tree) → HasDestructor g t → has_destructor g t ≡ true
  destructor-complete g (variable v) h = absurd h
  destructor-complete g (public n) h = absurd h
  destructor-complete g (fresh k) h = absurd h
  destructor-complete g (apply f ts) (inl e) = or-first (is_destructor_of g f) (any_has_destructor g ts) e
  destructor-complete g (apply f ts) (inr h) = or-second (is_destructor_of g f) (any_has_destructor g ts) (any-destructor-complete g ts h)

  any-destructor-complete : (g : Sig) (ts : Trees) → AnyHasDestructor g ts → any_has_destructor g ts ≡ true
  any-destructor-complete g none h = absurd h
  any-destructor-complete g (more t ts) (inl h) = or-first (has_destructor g t) (any_has_destructor g ts) (destructor-complete g t h)
  any-destructor-complete g (more t ts) (inr h) = or-second (has_destructor g t) (any_has_destructor g ts) (any-destructor-complete g ts h)

destructor-any : (g : Sig) (ts : List Tree) → any_has_destructor g (trees_of ts) ≡ list_any (has_destructor g) ts
destructor-any g [] = refl
destructor-any g (t ∷ ts) = ap (λ b. has_destructor g t || b) (destructor-any g ts)

-- sorts

sort-same : (s : Sort) → same_sort s s ≡ true
sort-same Msg = refl
sort-same Fresh = refl
sort-same Pub = refl

sort-equal : (s t : Sort) → same_sort s t ≡ true → s ≡ t
sort-equal Msg Msg h = refl
sort-equal Fresh Fresh h = refl
sort-equal Pub Pub h = refl
sort-equal _ _ h = cc

sort-tested : (s t : Sort) → s ≡ t → same_sort s t ≡ true
sort-tested s t e = rw e (sort-same t)

-- a bound variable

bound-found : (test : Var → Bool) (o : Option Var) → option_map_or test o false ≡ true → (v : Var) × (o ≡ Some v) × (test v ≡ true)
bound-found test None h = cc
bound-found test (Some v) h = (v, refl, h)

bound-holds : (test : Var → Bool) (o : Option Var) (v : Var) → o ≡ Some v → test v ≡ true → option_map_or test o false ≡ true
bound-holds test o v e h = rw e h

-- where the test passes the fact holds, and where it doesn't it doesn't
abbrev pub Tells : Bool → Type 0 → Type 0
Tells b P = (b ≡ true → P) × (b ≡ false → P → ⊥)

both-tell : (a b : Bool) (P Q : Type 0) → Tells a P → Tells b Q → Tells (a || b) (P ⊎ Q)
both-tell a b P Q ta tb = (sound, complete) where
  sound : (a || b) ≡ true → P ⊎ Q
  sound h = elim (or-cases a b h) as (λ _. P ⊎ Q) [ inl e ↦ inl (ta.0 e) | inr e ↦ inr (tb.0 e) ]

  complete : (a || b) ≡ false → P ⊎ Q → ⊥
  complete h (inl p) = ta.1 (or-left a b h) p
  complete h (inr q) = tb.1 (or-right a b h) q

applies-tells : (g : Sig) (s : Site) → Tells (not (are_over g (trees_of (head_terms s.body)))) (AppliesBadly g s)
applies-tells g s = (sound, λ h a. complete h a (is_over g a.term) refl) where
  sound : not (are_over g (trees_of (head_terms s.body))) ≡ true → AppliesBadly g s
  sound h =
      let found = any-found (λ t. not (is_over g t)) (head_terms s.body) (sym (over-any g (head_terms s.body)) ∙ h) in
      record {
        term = found.0;
        stands = found.1;
        bad = λ o.
            let over : is_over g found.0 ≡ true = over-complete g found.0 o in
            let no : is_over g found.0 ≡ false = not-true (is_over g found.0) found.2 in
            cc;
      }

  complete : not (are_over g (trees_of (head_terms s.body))) ≡ false → (a : AppliesBadly g s) → (b : Bool) → is_over g a.term ≡ b → ⊥
  complete h a true e = a.bad (over-sound g a.term e)
  complete h a false e =
      let any = any-holds (λ t. not (is_over g t)) (head_terms s.body) a.term a.stands (ap not e) in
      let none : list_any (λ t. not (is_over g t)) (head_terms s.body) ≡ false = sym (over-any g (head_terms s.body)) ∙ h in
      cc

binds-tells : (g : Sig) (s : Site) → Tells (binds_constant g s.body) (BindsConstant g s)
binds-tells g s = (sound, complete) where
  sound : binds_constant g s.body ≡ true → BindsConstant g s
  sound h =
      let found = bound-found (is_constant g) (bound_as s.body) h in
      record {
        var = found.0;
        stands = found.1;
        plain = sort-equal found.0.sort Msg (and_left (same_sort found.0.sort Msg) (has_arity (arity_of g found.0.name) 0) found.2);
        constant = arity-there (arity_of g found.0.name) 0 (and_right (same_sort found.0.sort Msg) (has_arity (arity_of g found.0.name) 0) found.2);
      }

  complete : binds_constant g s.body ≡ false → BindsConstant g s → ⊥
  complete h c =
      let holds : binds_constant g s.body ≡ true = bound-holds (is_constant g) (bound_as s.body) c.var c.stands (and_true _ _ (sort-tested c.var.sort Msg c.plain) (arity-tested (arity_of g c.var.name) 0 c.constant)) in
      cc

reserved-var-tells : (s : Site) → Tells (list_any is_reserved_var (head_vars s.body)) (HasReservedVar s)
reserved-var-tells s = (
  λ h. let found = any-found is_reserved_var (head_vars s.body) h in record { var = found.0; stands = found.1; reserved = found.2 },
  λ h r. let any = any-holds is_reserved_var (head_vars s.body) r.var r.stands r.reserved in cc,
)

reserved-fact-tells : (s : Site) → Tells (list_any is_reserved_fact (stored_facts s.body ++ shown_facts s.body)) (HasReservedFact s)
reserved-fact-tells s = (
  λ h. let found = any-found is_reserved_fact (stored_facts s.body ++ shown_facts s.body) h in record { fact = found.0; stands = found.1; reserved = found.2 },
  λ h r. let any = any-holds is_reserved_fact (stored_facts s.body ++ shown_facts s.body) r.fact r.stands r.reserved in cc,
)

pattern-tells : (g : Sig) (s : Site) → Tells (any_has_destructor g (trees_of (patterns s.body))) (HasPatternDestructor g s)
pattern-tells g s = (
  λ h. let found = any-found (has_destructor g) (patterns s.body) (sym (destructor-any g (patterns s.body)) ∙ h) in
      record { term = found.0; stands = found.1; destructor = destructor-sound g found.0 found.2 },
  λ h r.
      let any = any-holds (has_destructor g) (patterns s.body) r.term r.stands (destructor-complete g r.term r.destructor) in
      let none : list_any (has_destructor g) (patterns s.body) ≡ false = sym (destructor-any g (patterns s.body)) ∙ h in
      cc,
)

items-tell : {X : Type 0} (xs : List X) → Tells (has_items xs) (¬ (xs ≡ []))
items-tell [] = (λ h. cc, λ h n. n refl)
items-tell (x ∷ xs) = (λ h e. cc, λ h n. cc)

rebinds-tells : (s : Site) → Tells (rebinds s.above.scope s.body) (Rebinds s)
rebinds-tells s = (
  λ h. let found = bound-found (λ (v : Var). is_known (var_names s.above.scope) v.name) (binder s.body) h in record { var = found.0; stands = found.1; in_scope = found.2 },
  λ h r. let holds = bound-holds (λ (v : Var). is_known (var_names s.above.scope) v.name) (binder s.body) r.var r.stands r.in_scope in cc,
)

-- the sort of a binder
other-sort : (o : Option Var) (t : Sort) → is_other_sort (option_map (λ (b : Var). b.sort) o) t ≡ true → (b : Var) × (o ≡ Some b) × ¬ (b.sort ≡ t)
other-sort None t h = cc
other-sort (Some b) t h = (
  b,
  refl,
  λ e.
      let same : same_sort b.sort t ≡ true = sort-tested b.sort t e in
      let apart : same_sort b.sort t ≡ false = not-true (same_sort b.sort t) h in
      cc,
)

apart-tested : (s t : Sort) → ¬ (s ≡ t) → not (same_sort s t) ≡ true
apart-tested s t d = by (same_sort s t) refl where
  by : (b : Bool) → same_sort s t ≡ b → not b ≡ true
  by true e = absurd (d (sort-equal s t e))
  by false e = refl

sort-clash-tells : (s : Site) → Tells (list_any (has_other_sort (scope_at s.above.scope s.body)) (terms_vars (head_terms s.body))) (HasSortClash s)
sort-clash-tells s = (sound, complete) where
  sound : list_any (has_other_sort (scope_at s.above.scope s.body)) (terms_vars (head_terms s.body)) ≡ true → HasSortClash s
  sound h =
      let found = any-found (has_other_sort (scope_at s.above.scope s.body)) (terms_vars (head_terms s.body)) h in
      let v = found.0 in
      let is_other = is_other_sort (option_map (λ (b : Var). b.sort) (binder_of (scope_at s.above.scope s.body) v.name)) v.sort in
      let other = other-sort (binder_of (scope_at s.above.scope s.body) v.name) v.sort (and_right (not (same_sort v.sort Msg)) is_other found.2) in
      record {
        var = v;
        stands = found.1;
        signed = λ e.
            let same : same_sort v.sort Msg ≡ true = sort-tested v.sort Msg e in
            let apart : same_sort v.sort Msg ≡ false = not-true (same_sort v.sort Msg) (and_left (not (same_sort v.sort Msg)) is_other found.2) in
            cc;
        bound = other.0;
        binder = other.1;
        other = other.2;
      }

  complete : list_any (has_other_sort (scope_at s.above.scope s.body)) (terms_vars (head_terms s.body)) ≡ false → HasSortClash s → ⊥
  complete h c =
      let apart : is_other_sort (option_map (λ (b : Var). b.sort) (binder_of (scope_at s.above.scope s.body) c.var.name)) c.var.sort ≡ true = subst (λ (o : Option Var). is_other_sort (option_map (λ (b : Var). b.sort) o) c.var.sort ≡ true) (sym c.binder) (apart-tested c.bound.sort c.var.sort c.other) in
      let any = any-holds (has_other_sort (scope_at s.above.scope s.body)) (terms_vars (head_terms s.body)) c.var c.stands (and_true _ _ (apart-tested c.var.sort Msg c.signed) apart) in
      cc

full-tells : (n : ℕ) → Tells (nat_lt MOST_SCOPE_NAMES n) (MOST_SCOPE_NAMES < n)
full-tells n = (ltb-true MOST_SCOPE_NAMES n, λ h l. let t : nat_lt MOST_SCOPE_NAMES n ≡ true = lt-ltb MOST_SCOPE_NAMES n l in cc)

-- the shapes that are noted are those of the facts at the places before
pub record AreSeen (m : Seen) (before : List Site) : Type 0 where
  pub stored : AreShapes true m.stored (flat_map (λ (b : Site). stored_facts b.body) before)
  pub shown : AreShapes false m.shown (flat_map (λ (b : Site). shown_facts b.body) before)

-- where the flaw turns on them
abbrev pub Kept : Flaw → Seen → List Site → Type 0
Kept FactClash m before = AreSeen m before
Kept _ m before = Unit {0}

clash-tells : (m : Seen) (before : List Site) (s : Site) (g : Sig) → AreSeen m before → Tells (clashes m s.body) (HasFlaw g before s FactClash)
clash-tells m before s g kept =
    both-tell (has_clash true m.stored (stored_facts s.body)) (has_clash false m.shown (shown_facts s.body)) (HasClash HasOtherForm (flat_map (λ (b : Site). stored_facts b.body) before) (stored_facts s.body)) (HasClash HasOtherArity (flat_map (λ (b : Site). shown_facts b.body) before) (shown_facts s.body))
    (clash-sound true m.stored (flat_map (λ (b : Site). stored_facts b.body) before) (stored_facts s.body) kept.stored, clash-complete true m.stored (flat_map (λ (b : Site). stored_facts b.body) before) (stored_facts s.body) kept.stored)
    (clash-sound false m.shown (flat_map (λ (b : Site). shown_facts b.body) before) (shown_facts s.body) kept.shown, clash-complete false m.shown (flat_map (λ (b : Site). shown_facts b.body) before) (shown_facts s.body) kept.shown)

-- each test tells its flaw
pub flaw-tells : (g : Sig) (w : Flaw) (m : Seen) (before : List Site) (s : Site) → Kept w m before → Tells (has_flaw g w (clashes m s.body) s.above.scope s.above.locks s.body) (HasFlaw g before s w)
flaw-tells g BadFunction m before s kept = both-tell (not (are_over g (trees_of (head_terms s.body)))) (binds_constant g s.body) (AppliesBadly g s) (BindsConstant g s) (applies-tells g s) (binds-tells g s)
flaw-tells g ReservedVar m before s kept = reserved-var-tells s
flaw-tells g ReservedFact m before s kept = reserved-fact-tells s
flaw-tells g FactClash m before s kept = clash-tells m before s g kept
flaw-tells g PatternDestructor m before s kept = pattern-tells g s
flaw-tells g Unbound m before s kept = items-tell (unbound s.above.scope s.body)
flaw-tells g Rebound m before s kept = rebinds-tells s
flaw-tells g SortClash m before s kept = sort-clash-tells s
flaw-tells g ScopeFull m before s kept = full-tells (length s.above.scope + s.above.locks)

flat-push : {X Y : Type 0} (f : X → List Y) (xs : List X) (x : X) → flat_map f xs ++ f x ≡ flat_map f (xs ++ x ∷ [])
flat-push f [] x = sym (append-nil (f x))
flat-push f (y ∷ ys) x = append_assoc (f y) (flat_map f ys) (f x) ∙ ap (λ zs. f y ++ zs) (flat-push f ys x)

clash-kept : (m : Seen) (before : List Site) (s : Site) → AreSeen m before → clashes m s.body ≡ false → AreSeen (seen_at m s.body) (before ++ s ∷ [])
clash-kept m before s kept h = record {
  stored = subst (AreShapes true (noted_all true m.stored (stored_facts s.body))) (flat-push (λ (b : Site). stored_facts b.body) before s) (shapes-all true m.stored (flat_map (λ (b : Site). stored_facts b.body) before) (stored_facts s.body) kept.stored (or-left _ _ h));
  shown = subst (AreShapes false (noted_all false m.shown (shown_facts s.body))) (flat-push (λ (b : Site). shown_facts b.body) before s) (shapes-all false m.shown (flat_map (λ (b : Site). shown_facts b.body) before) (shown_facts s.body) kept.shown (or-right (has_clash true m.stored (stored_facts s.body)) _ h));
}

-- and where a place hasn't the flaw, its facts are noted as well
pub kept-on : (g : Sig) (w : Flaw) (m : Seen) (before : List Site) (s : Site) → Kept w m before → has_flaw g w (clashes m s.body) s.above.scope s.above.locks s.body ≡ false → Kept w (seen_at m s.body) (before ++ s ∷ [])
kept-on g BadFunction m before s kept h = tt
kept-on g ReservedVar m before s kept h = tt
kept-on g ReservedFact m before s kept h = tt
kept-on g FactClash m before s kept h = clash-kept m before s kept h
kept-on g PatternDestructor m before s kept h = tt
kept-on g Unbound m before s kept h = tt
kept-on g Rebound m before s kept h = tt
kept-on g SortClash m before s kept h = tt
kept-on g ScopeFull m before s kept h = tt

pub kept-none : (w : Flaw) → Kept w (record { stored = []; shown = [] }) []
kept-none BadFunction = tt
kept-none ReservedVar = tt
kept-none ReservedFact = tt
kept-none FactClash = record { stored = shapes-none true; shown = shapes-none false }
kept-none PatternDestructor = tt
kept-none Unbound = tt
kept-none Rebound = tt
kept-none SortClash = tt
kept-none ScopeFull = tt
