-- Which names are marked.
use Rattle.std.proofs.Common.{◌≡◌, ◌≤◌, ◌<◌, ℕ, zero, suc, ◌-◌, Bool, true, false, ◌||◌, ◌⊎◌, inl, inr, List, [], ◌∷◌, ◌++◌, Some, length, refl, sym, ap, ◌∙◌, subst, ⊎_elim, arith}
use Rattle.std.proofs.lemmas.Bool.{cases_lt, false≢true, or_left, or_right, or_cases}
use Rattle.std.proofs.lemmas.List.Elements.{Contains-append_cases, Contains-append_left, Contains-append_right}
use Rattle.std.proofs.lemmas.List.Folds.{list_any-append}
use Rattle.std.proofs.lemmas.Option.{slice_get_within}
use Rattle.std.specs.List.{list_any}
use Rattle.std.specs.Prelude.{if◌then◌else◌, Contains, slice_get}
use Rattle.std.specs.Str.{bytes_eq}
use Rattle.sap_terms.specs.NameSet.{with_name}
use Rattle.sap_terms.specs.Variables.{is_known}
use Rattle.sap_terms.proofs.PlainLaws.Items.{contains_got, first_item, got_contained, item_cases, none_contained}
use Rattle.sap_macro.specs.MacroCauses.{Use, uses}
use Rattle.sap_macro.specs.Order.{AreInOrder, UsesOnly}
use Rattle.sap_macro.specs.Written.{Written, nil, call, parallel, replicated, act, test, lookup, Definition}
use Rattle.sap_uses.specs.ScopeFlaws.{LeadsTo, at_once, further}
use Rattle.sap_uses.specs.code.Marks.{AreReached, IsMarked, marked, marked_behind}
use Rattle.sap_terms.proofs.PlainLaws.Known.{one_name, own_name, clash, in_tail}

-- ---- one name more

one_kept : (names : List (List ℕ)) (n f : List ℕ) → IsMarked names f → IsMarked (with_name names n) f
one_kept names n f h = by (list_any (bytes_eq n) names) where
  by : (b : Bool) → list_any (bytes_eq f) (if b then names else names ++ n ∷ []) ≡ true
  by true = h
  by false = list_any-append (bytes_eq f) names (n ∷ []) ∙ or_left (list_any (bytes_eq f) names) (list_any (bytes_eq f) (n ∷ [])) h

one_there : (names : List (List ℕ)) (n : List ℕ) → IsMarked (with_name names n) n
one_there names n = by (list_any (bytes_eq n) names) refl where
  by : (b : Bool) → list_any (bytes_eq n) names ≡ b → list_any (bytes_eq n) (if b then names else names ++ n ∷ []) ≡ true
  by true e = e
  by false e =
      list_any-append (bytes_eq n) names (n ∷ [])
      ∙ or_right (list_any (bytes_eq n) names) (list_any (bytes_eq n) (n ∷ [])) (or_left (bytes_eq n n) false (own_name n))

one_only : (names : List (List ℕ)) (n f : List ℕ) → IsMarked (with_name names n) f → IsMarked names f ⊎ (n ≡ f)
one_only names n f h = by (list_any (bytes_eq n) names) h where
  last : (bytes_eq f n || false) ≡ true → IsMarked names f ⊎ (n ≡ f)
  last e = ⊎_elim (λ is. inr (sym (one_name f n is))) (λ n. absurd (false≢true n)) (or_cases (bytes_eq f n) false e)

  by : (b : Bool) → list_any (bytes_eq f) (if b then names else names ++ n ∷ []) ≡ true → IsMarked names f ⊎ (n ≡ f)
  by true e = inl e
  by false e =
      ⊎_elim (λ old. inl old) last
      (or_cases (list_any (bytes_eq f) names) (bytes_eq f n || false) (sym (list_any-append (bytes_eq f) names (n ∷ [])) ∙ e))

-- ---- the names of a process

pub kept : (names : List (List ℕ)) (w : Written) (f : List ℕ) → IsMarked names f → IsMarked (marked names w) f
kept names nil f h = h
kept names (call g ts) f h = one_kept names g f h
kept names (parallel p q) f h = kept (marked names p) q f (kept names p f h)
kept names (replicated p) f h = kept names p f h
kept names (act a p) f h = kept names p f h
kept names (test t u p q) f h = kept (marked names p) q f (kept names p f h)
kept names (lookup t x p q) f h = kept (marked names p) q f (kept names p f h)

module _ (u : Use) where
  -- of two processes, the second behind the first
  marked_two : (names : List (List ℕ)) (p q : Written) → (Contains (uses p) u → IsMarked (marked names p) u.0)
      → (Contains (uses q) u → IsMarked (marked (marked names p) q) u.0) → Contains (uses p ++ uses q) u → IsMarked (marked (marked names p) q) u.0
  marked_two names p q h k c = ⊎_elim (λ l. kept (marked names p) q u.0 (h l)) k (Contains-append_cases (uses p) (uses q) u c)

  pub uses_marked : (names : List (List ℕ)) (w : Written) → Contains (uses w) u → IsMarked (marked names w) u.0
  uses_marked names nil c = absurd (none_contained c)
  uses_marked names (call f ts) c = subst (λ (v : Use). IsMarked (with_name names f) v.0) (item_cases (f, ts) u c) (one_there names f)
  uses_marked names (parallel p q) c = marked_two names p q (uses_marked names p) (uses_marked (marked names p) q) c
  uses_marked names (replicated p) c = uses_marked names p c
  uses_marked names (act a p) c = uses_marked names p c
  uses_marked names (test t v p q) c = marked_two names p q (uses_marked names p) (uses_marked (marked names p) q) c
  uses_marked names (lookup t x p q) c = marked_two names p q (uses_marked names p) (uses_marked (marked names p) q) c

-- the process uses the name
abbrev pub IsUsed : Written → List ℕ → Type 0
IsUsed w f = (u : Use) × Contains (uses w) u × (u.0 ≡ f)

left_used : (a b : List Use) (f : List ℕ) → (u : Use) × Contains a u × (u.0 ≡ f) → (u : Use) × Contains (a ++ b) u × (u.0 ≡ f)
left_used a b f (u, c, e) = (u, Contains-append_left a b u c, e)

right_used : (a b : List Use) (f : List ℕ) → (u : Use) × Contains b u × (u.0 ≡ f) → (u : Use) × Contains (a ++ b) u × (u.0 ≡ f)
right_used a b f (u, c, e) = (u, Contains-append_right a b u c, e)

only_two : (names : List (List ℕ)) (p q : Written) (f : List ℕ) → (IsMarked (marked names p) f → IsMarked names f ⊎ IsUsed p f)
    → (IsMarked (marked (marked names p) q) f → IsMarked (marked names p) f ⊎ IsUsed q f) → IsMarked (marked (marked names p) q) f
    → IsMarked names f ⊎ ((u : Use) × Contains (uses p ++ uses q) u × (u.0 ≡ f))
only_two names p q f h k m =
    ⊎_elim (λ o. ⊎_elim (λ n. inl n) (λ l. inr (left_used (uses p) (uses q) f l)) (h o)) (λ r. inr (right_used (uses p) (uses q) f r)) (k m)

pub only_marked : (names : List (List ℕ)) (w : Written) (f : List ℕ) → IsMarked (marked names w) f → IsMarked names f ⊎ IsUsed w f
only_marked names nil f h = inl h
only_marked names (call g ts) f h = ⊎_elim (λ o. inl o) (λ e. inr ((g, ts), first_item (g, ts) [], e)) (one_only names g f h)
only_marked names (parallel p q) f h = only_two names p q f (only_marked names p f) (only_marked (marked names p) q f) h
only_marked names (replicated p) f h = only_marked names p f h
only_marked names (act a p) f h = only_marked names p f h
only_marked names (test t v p q) f h = only_two names p q f (only_marked names p f) (only_marked (marked names p) q f) h
only_marked names (lookup t x p q) f h = only_two names p q f (only_marked names p f) (only_marked (marked names p) q f) h

-- ---- no body uses a definition that stands behind it, or itself

module _ (u : Use) where
  known_two : (known : List (List ℕ)) (a b : List Use) → (Contains a u → is_known known u.0 ≡ true) → (Contains b u → is_known known u.0 ≡ true) → Contains (a ++ b) u
      → is_known known u.0 ≡ true
  known_two known a b h k c = ⊎_elim h k (Contains-append_cases a b u c)

  used_known : (known : List (List ℕ)) (w : Written) → UsesOnly known w → Contains (uses w) u → is_known known u.0 ≡ true
  used_known known nil h c = absurd (none_contained c)
  used_known known (call f ts) h c = subst (λ (v : Use). is_known known v.0 ≡ true) (item_cases (f, ts) u c) h
  used_known known (parallel p q) h c = known_two known (uses p) (uses q) (used_known known p h.0) (used_known known q h.1) c
  used_known known (replicated p) h c = used_known known p h c
  used_known known (act a p) h c = used_known known p h c
  used_known known (test t v p q) h c = known_two known (uses p) (uses q) (used_known known p h.0) (used_known known q h.1) c
  used_known known (lookup t x p q) h c = known_two known (uses p) (uses q) (used_known known p h.0) (used_known known q h.1) c

-- what is defined wasn't known before
new_at : (ds : List Definition) (known : List (List ℕ)) (k : ℕ) (e : Definition) → AreInOrder known ds → slice_get ds k ≡ Some e → is_known known e.name ≡ true → ⊥
new_at [] known k e o is h = absurd (cc)
new_at (d ∷ ds) known zero e o is h =
    let same : d ≡ e = cc in
    clash (is_known known d.name) (subst (λ (x : Definition). is_known known x.name ≡ true) (sym same) h) o.0
new_at (d ∷ ds) known (suc k) e o is h = new_at ds (d.name ∷ known) k e o.1.1 is (in_tail e.name d.name known h)

unused_at : (ds : List Definition) (known : List (List ℕ)) (i j : ℕ) (d e : Definition) (u : Use) → AreInOrder known ds → i ≤ j → slice_get ds i ≡ Some d → slice_get ds j ≡ Some e
    → Contains (uses d.body) u → ¬ (u.0 ≡ e.name)
unused_at [] known i j d e u o l at there c same = absurd (cc)
unused_at (x ∷ ds) known zero j d e u o l at there c same =
    let first : x ≡ d = cc in
    let only : UsesOnly known d.body = subst (λ (y : Definition). UsesOnly known y.body) first o.1.0 in
    new_at (x ∷ ds) known j e o there (subst (λ n. is_known known n ≡ true) same (used_known u known d.body only c))
unused_at (x ∷ ds) known (suc i) zero d e u o l at there c same = absurd (omega (arith, l))
unused_at (x ∷ ds) known (suc i) (suc j) d e u o l at there c same = unused_at ds (x.name ∷ known) i j d e u o.1.1 (omega (arith, l)) at there c same

-- ---- from the last definition to the first

-- what is marked where the definitions from this index on were gone through
pub record AreMarked (ds : List Definition) (p : Written) (k : ℕ) (names : List (List ℕ)) : Type 0 where
  pub within : k ≤ length ds
  pub sound : (f : List ℕ) → IsMarked names f → LeadsTo ds p f
  pub main : (u : Use) → Contains (uses p) u → IsMarked names u.0
  pub bodies : (j : ℕ) (d : Definition) → k ≤ j → slice_get ds j ≡ Some d → IsMarked names d.name → (u : Use) → Contains (uses d.body) u → IsMarked names u.0

used_sound : (ds : List Definition) (p : Written) (f : List ℕ) → IsUsed p f → LeadsTo ds p f
used_sound ds p f (u, c, e) = subst (LeadsTo ds p) e (at_once {u = u} c)

body_sound : (ds : List Definition) (p : Written) (d : Definition) (f : List ℕ) → LeadsTo ds p d.name → Contains ds d → IsUsed d.body f → LeadsTo ds p f
body_sound ds p d f l at (u, c, e) = subst (LeadsTo ds p) e (further {d = d} {u = u} l at c)

pub none_marked : (ds : List Definition) (p : Written) (k : ℕ) (first names : List (List ℕ)) → first ≡ [] → names ≡ marked first p → k ≡ length ds → AreMarked ds p k names
none_marked ds p k first names empty is same = record {
  within = omega (arith, same);
  sound = λ f h. ⊎_elim (λ o. absurd (false≢true (subst (λ (m : List (List ℕ)). IsMarked m f) empty o))) (used_sound ds p f)
      (only_marked first p f (subst (λ (m : List (List ℕ)). IsMarked m f) is h));
  main = λ u c. subst (λ (m : List (List ℕ)). IsMarked m u.0) (sym is) (uses_marked u first p c);
  bodies = λ j d l at m u c. let below = slice_get_within ds j d at in absurd (omega (arith, l, below, same));
}

module _ (ds : List Definition) (p : Written) (k : ℕ) (d : Definition) (names : List (List ℕ)) (order : AreInOrder [] ds) (some : 0 < k) (at : slice_get ds (k - 1) ≡ Some d)
    (h : AreMarked ds p k names) where
  -- a definition from here on is this one, or a later one
  here_or_later : (j : ℕ) (e : Definition) → k - 1 ≤ j → slice_get ds j ≡ Some e → (d ≡ e) ⊎ (k ≤ j)
  here_or_later j e l there = ⊎_elim (λ b. inl (this (omega (arith, b, l)))) (λ later. inr later) (cases_lt j k) where
    this : j ≡ k - 1 → d ≡ e
    this same =
        let got : Some d ≡ Some e = sym at ∙ ap (slice_get ds) (sym same) ∙ there in
        cc

  -- where it isn't reached
  passed_over : list_any (bytes_eq d.name) names ≡ false → AreMarked ds p (k - 1) names
  passed_over missed = record {
    within = let most = h.within in omega (arith, most);
    sound = h.sound;
    main = h.main;
    bodies = λ j e l there m u c. ⊎_elim (λ same. clash (list_any (bytes_eq e.name) names) m (subst (λ (x : Definition). list_any (bytes_eq x.name) names ≡ false) same missed))
        (λ later. h.bodies j e later there m u c) (here_or_later j e l there);
  }

  -- where it is
  gone_into : IsMarked names d.name → AreMarked ds p (k - 1) (marked names d.body)
  gone_into met = record {
    within = let most = h.within in omega (arith, most);
    sound = λ f m. ⊎_elim (h.sound f) (body_sound ds p d f (h.sound d.name met) (contains_got ds d (k - 1) at)) (only_marked names d.body f m);
    main = λ u c. kept names d.body u.0 (h.main u c);
    bodies = λ j e l there m u c. ⊎_elim
        (λ same. uses_marked u names d.body (subst (λ (x : Definition). Contains (uses x.body) u) (sym same) c))
        (λ later. kept names d.body u.0 (h.bodies j e later there (marked_before j e l there m) u c)) (here_or_later j e l there);
  } where
    marked_before : (j : ℕ) (e : Definition) → k - 1 ≤ j → slice_get ds j ≡ Some e → IsMarked (marked names d.body) e.name → IsMarked names e.name
    marked_before j e l there m = ⊎_elim (λ o. o) (λ used. absurd (never used)) (only_marked names d.body e.name m) where
      never : IsUsed d.body e.name → ⊥
      never (u, c, same) = unused_at ds [] (k - 1) j d e u order l at there c same

  pub one_marked : (later : List (List ℕ)) → later ≡ marked_behind names d → AreMarked ds p (k - 1) later
  one_marked later is = subst (AreMarked ds p (k - 1)) (sym is) (by (list_any (bytes_eq d.name) names) refl) where
    by : (b : Bool) → list_any (bytes_eq d.name) names ≡ b → AreMarked ds p (k - 1) (if b then marked names d.body else names)
    by true e = gone_into e
    by false e = passed_over e

-- all of them were
pub all_marked : (ds : List Definition) (p : Written) (k : ℕ) (names : List (List ℕ)) → k ≤ 0 → AreMarked ds p k names → AreReached ds p names
all_marked ds p k names end h = record { sound = h.sound; all = all } where
  all : (f : List ℕ) → LeadsTo ds p f → IsMarked names f
  all f (at_once {u = u} c) = h.main u c
  all f (further {d = d} {u = u} l at c) =
      let got = got_contained ds d at in
      h.bodies got.0 d (omega (arith, end)) got.1 (all d.name l) u c
