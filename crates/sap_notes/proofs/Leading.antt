-- Which names a process leads to.
use Rattle.std.proofs.Common.{◌≡◌, ◌≤◌, ◌<◌, ℕ, zero, suc, ◌-◌, Bool, true, false, ◌⊎◌, inl, inr, List, [], ◌∷◌, ◌++◌, Some, length, refl, sym, ap, ◌∙◌, subst, ⊎_elim, arith}
use Rattle.std.proofs.lemmas.Bool.{cases_lt}
use Rattle.std.proofs.lemmas.List.Elements.{Contains-append_cases, Contains-append_left, Contains-append_right}
use Rattle.std.proofs.lemmas.Option.{slice_get_within}
use Rattle.std.specs.List.{list_any}
use Rattle.std.specs.Prelude.{if◌then◌else◌, Contains, slice_get}
use Rattle.std.specs.Str.{bytes_eq}
use Rattle.sap_terms.specs.Variables.{is_known}
use Rattle.sap_terms.proofs.PlainLaws.Items.{contains_got, first_item, got_contained, item_cases, none_contained}
use Rattle.sap_terms.proofs.PlainLaws.Known.{clash, in_tail}
use Rattle.sap_macro.specs.MacroCauses.{Use, uses}
use Rattle.sap_macro.specs.Order.{AreInOrder, UsesOnly}
use Rattle.sap_macro.specs.Written.{Written, nil, call, parallel, replicated, act, test, lookup, Definition}
use Rattle.sap_read.specs.FileProcess.{calls}
use Rattle.sap_uses.specs.ScopeFlaws.{LeadsTo, at_once, further}
use Rattle.sap_notes.specs.code.Gathered.{gathered}
use Rattle.sap_notes.specs.code.Led.{AreLedTo, IsAmong, with_calls_of}
use Rattle.sap_notes.proofs.Gathered.{kept, none_among, only, there}

-- ---- the names of a process are those of its uses

-- the process uses the name
abbrev pub IsUsed : Written → List ℕ → Type 0
IsUsed w f = (u : Use) × Contains (uses w) u × (u.0 ≡ f)

module _ (u : Use) where
  both_called : (p q : Written) → (Contains (uses p) u → Contains (calls p) u.0) → (Contains (uses q) u → Contains (calls q) u.0) → Contains (uses p ++ uses q) u
      → Contains (calls p ++ calls q) u.0
  both_called p q h k c =
      ⊎_elim (λ l. Contains-append_left (calls p) (calls q) u.0 (h l)) (λ r. Contains-append_right (calls p) (calls q) u.0 (k r)) (Contains-append_cases (uses p) (uses q) u c)

  pub called : (w : Written) → Contains (uses w) u → Contains (calls w) u.0
  called nil c = absurd (none_contained c)
  called (call f ts) c = subst (λ (v : Use). Contains (f ∷ []) v.0) (item_cases (f, ts) u c) (first_item f [])
  called (parallel p q) c = both_called p q (called p) (called q) c
  called (replicated p) c = called p c
  called (act a p) c = called p c
  called (test t v p q) c = both_called p q (called p) (called q) c
  called (lookup t x p q) c = both_called p q (called p) (called q) c

module _ (f : List ℕ) where
  left_used : (a b : List Use) → (u : Use) × Contains a u × (u.0 ≡ f) → (u : Use) × Contains (a ++ b) u × (u.0 ≡ f)
  left_used a b (u, c, e) = (u, Contains-append_left a b u c, e)

  right_used : (a b : List Use) → (u : Use) × Contains b u × (u.0 ≡ f) → (u : Use) × Contains (a ++ b) u × (u.0 ≡ f)
  right_used a b (u, c, e) = (u, Contains-append_right a b u c, e)

  both_used : (p q : Written) → (Contains (calls p) f → IsUsed p f) → (Contains (calls q) f → IsUsed q f) → Contains (calls p ++ calls q) f
      → (u : Use) × Contains (uses p ++ uses q) u × (u.0 ≡ f)
  both_used p q h k c =
      ⊎_elim (λ l. left_used (uses p) (uses q) (h l)) (λ r. right_used (uses p) (uses q) (k r)) (Contains-append_cases (calls p) (calls q) f c)

  pub used : (w : Written) → Contains (calls w) f → IsUsed w f
  used nil c = absurd (none_contained c)
  used (call g ts) c = ((g, ts), first_item (g, ts) [], item_cases g f c)
  used (parallel p q) c = both_used p q (used p) (used q) c
  used (replicated p) c = used p c
  used (act a p) c = used p c
  used (test t v p q) c = both_used p q (used p) (used q) c
  used (lookup t x p q) c = both_used p q (used p) (used q) c

-- ---- no body uses a definition that stands behind it, or itself

module _ (u : Use) where
  known_two : (known : List (List ℕ)) (a b : List Use) → (Contains a u → is_known known u.0 ≡ true) → (Contains b u → is_known known u.0 ≡ true) → Contains (a ++ b) u
      → is_known known u.0 ≡ true
  known_two known a b h k c = ⊎_elim h k (Contains-append_cases a b u c)

  used_known : (known : List (List ℕ)) (w : Written) → UsesOnly known w → Contains (uses w) u → is_known known u.0 ≡ true
  used_known known nil h c = absurd (none_contained c)
  used_known known (call f ts) h c = subst (λ (v : Use). is_known known v.0 ≡ true) (item_cases (f, ts) u c) h
  used_known known (parallel p q) h c = known_two known (uses p) (uses q) (used_known known p h.0) (used_known known q h.1) c
  used_known known (replicated p) h c = used_known known p h c
  used_known known (act a p) h c = used_known known p h c
  used_known known (test t v p q) h c = known_two known (uses p) (uses q) (used_known known p h.0) (used_known known q h.1) c
  used_known known (lookup t x p q) h c = known_two known (uses p) (uses q) (used_known known p h.0) (used_known known q h.1) c

-- what is defined wasn't known before
new_at : (ds : List Definition) (known : List (List ℕ)) (k : ℕ) (e : Definition) → AreInOrder known ds → slice_get ds k ≡ Some e → is_known known e.name ≡ true → ⊥
new_at [] known k e o is h = absurd (cc)
new_at (d ∷ ds) known zero e o is h =
    let same : d ≡ e = cc in
    clash (is_known known d.name) (subst (λ (x : Definition). is_known known x.name ≡ true) (sym same) h) o.0
new_at (d ∷ ds) known (suc k) e o is h = new_at ds (d.name ∷ known) k e o.1.1 is (in_tail e.name d.name known h)

unused_at : (ds : List Definition) (known : List (List ℕ)) (i j : ℕ) (d e : Definition) (u : Use) → AreInOrder known ds → i ≤ j → slice_get ds i ≡ Some d → slice_get ds j ≡ Some e
    → Contains (uses d.body) u → ¬ (u.0 ≡ e.name)
unused_at [] known i j d e u o l at there c same = absurd (cc)
unused_at (x ∷ ds) known zero j d e u o l at there c same =
    let first : x ≡ d = cc in
    let only : UsesOnly known d.body = subst (λ (y : Definition). UsesOnly known y.body) first o.1.0 in
    new_at (x ∷ ds) known j e o there (subst (λ n. is_known known n ≡ true) same (used_known u known d.body only c))
unused_at (x ∷ ds) known (suc i) zero d e u o l at there c same = absurd (omega (arith, l))
unused_at (x ∷ ds) known (suc i) (suc j) d e u o l at there c same = unused_at ds (x.name ∷ known) i j d e u o.1.1 (omega (arith, l)) at there c same

-- ---- from the last definition to the first

-- what is gathered where the definitions from this index on were gone through
pub record AreGone (ds : List Definition) (p : Written) (k : ℕ) (names : List (List ℕ)) : Type 0 where
  pub within : k ≤ length ds
  pub sound : (f : List ℕ) → IsAmong names f → LeadsTo ds p f
  pub main : (u : Use) → Contains (uses p) u → IsAmong names u.0
  pub bodies : (j : ℕ) (d : Definition) → k ≤ j → slice_get ds j ≡ Some d → IsAmong names d.name → (u : Use) → Contains (uses d.body) u → IsAmong names u.0

used_sound : (ds : List Definition) (p : Written) (f : List ℕ) → IsUsed p f → LeadsTo ds p f
used_sound ds p f (u, c, e) = subst (LeadsTo ds p) e (at_once {u = u} c)

body_sound : (ds : List Definition) (p : Written) (d : Definition) (f : List ℕ) → LeadsTo ds p d.name → Contains ds d → IsUsed d.body f → LeadsTo ds p f
body_sound ds p d f l at (u, c, e) = subst (LeadsTo ds p) e (further {d = d} {u = u} l at c)

pub none_gone : (ds : List Definition) (p : Written) (k : ℕ) (first names : List (List ℕ)) → first ≡ [] → names ≡ gathered first (calls p) → k ≡ length ds → AreGone ds p k names
none_gone ds p k first names empty is same = record {
  within = omega (arith, same);
  sound = λ f h. ⊎_elim (λ o. absurd (none_among f (subst (λ (m : List (List ℕ)). IsAmong m f) empty o))) (λ c. used_sound ds p f (used f p c))
      (only first (calls p) f (subst (λ (m : List (List ℕ)). IsAmong m f) is h));
  main = λ u c. subst (λ (m : List (List ℕ)). IsAmong m u.0) (sym is) (there first (calls p) u.0 (called u p c));
  bodies = λ j d l at m u c. let below = slice_get_within ds j d at in absurd (omega (arith, l, below, same));
}

module _ (ds : List Definition) (p : Written) (k : ℕ) (d : Definition) (names : List (List ℕ)) (order : AreInOrder [] ds) (some : 0 < k) (at : slice_get ds (k - 1) ≡ Some d)
    (h : AreGone ds p k names) where
  -- a definition from here on is this one, or a later one
  here_or_later : (j : ℕ) (e : Definition) → k - 1 ≤ j → slice_get ds j ≡ Some e → (d ≡ e) ⊎ (k ≤ j)
  here_or_later j e l there = ⊎_elim (λ b. inl (this (omega (arith, b, l)))) (λ later. inr later) (cases_lt j k) where
    this : j ≡ k - 1 → d ≡ e
    this same =
        let got : Some d ≡ Some e = sym at ∙ ap (slice_get ds) (sym same) ∙ there in
        cc

  -- where it isn't led to
  passed_over : list_any (bytes_eq d.name) names ≡ false → AreGone ds p (k - 1) names
  passed_over missed = record {
    within = let most = h.within in omega (arith, most);
    sound = h.sound;
    main = h.main;
    bodies = λ j e l there m u c. ⊎_elim (λ same. clash (list_any (bytes_eq e.name) names) m (subst (λ (x : Definition). list_any (bytes_eq x.name) names ≡ false) same missed))
        (λ later. h.bodies j e later there m u c) (here_or_later j e l there);
  }

  -- where it is
  gone_into : IsAmong names d.name → AreGone ds p (k - 1) (gathered names (calls d.body))
  gone_into met = record {
    within = let most = h.within in omega (arith, most);
    sound = λ f m. ⊎_elim (h.sound f) (λ c. body_sound ds p d f (h.sound d.name met) (contains_got ds d (k - 1) at) (used f d.body c)) (only names (calls d.body) f m);
    main = λ u c. kept names (calls d.body) u.0 (h.main u c);
    bodies = λ j e l at_j m u c. ⊎_elim
        (λ same. there names (calls d.body) u.0 (called u d.body (subst (λ (x : Definition). Contains (uses x.body) u) (sym same) c)))
        (λ later. kept names (calls d.body) u.0 (h.bodies j e later at_j (among_before j e l at_j m) u c)) (here_or_later j e l at_j);
  } where
    among_before : (j : ℕ) (e : Definition) → k - 1 ≤ j → slice_get ds j ≡ Some e → IsAmong (gathered names (calls d.body)) e.name → IsAmong names e.name
    among_before j e l at_j m = ⊎_elim (λ o. o) (λ c. absurd (never (used e.name d.body c))) (only names (calls d.body) e.name m) where
      never : IsUsed d.body e.name → ⊥
      never (u, c, same) = unused_at ds [] (k - 1) j d e u order l at at_j c same

  pub one_gone : (later : List (List ℕ)) → later ≡ with_calls_of names d → AreGone ds p (k - 1) later
  one_gone later is = subst (AreGone ds p (k - 1)) (sym is) (by (list_any (bytes_eq d.name) names) refl) where
    by : (b : Bool) → list_any (bytes_eq d.name) names ≡ b → AreGone ds p (k - 1) (if b then gathered names (calls d.body) else names)
    by true e = gone_into e
    by false e = passed_over e

-- all of them were
pub all_gone : (ds : List Definition) (p : Written) (k : ℕ) (names : List (List ℕ)) → k ≤ 0 → AreGone ds p k names → AreLedTo ds p names
all_gone ds p k names end h = record { sound = h.sound; all = all } where
  all : (f : List ℕ) → LeadsTo ds p f → IsAmong names f
  all f (at_once {u = u} c) = h.main u c
  all f (further {d = d} {u = u} l at c) =
      let got = got_contained ds d at in
      h.bodies got.0 d (omega (arith, end)) got.1 (all d.name l) u c
