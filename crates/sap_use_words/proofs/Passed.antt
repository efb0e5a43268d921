-- Through each use of an expansion one comes to a place.
use Rattle.std.proofs.Common.{◌≡◌, ℕ, suc, ◌+◌, true, false, List, [], ◌∷◌, ◌++◌, ◌⊎◌, inl, inr, map, Some, append_assoc, refl, sym, ap, ◌∙◌, subst, ⊎_elim, arith}
use Rattle.std.proofs.lemmas.Bool.{cases_Bool, false≢true}
use Rattle.std.proofs.lemmas.List.Elements.{Contains-append_cases, Contains-push_cases}
use Rattle.std.specs.Prelude.{if◌then◌else◌, Contains, slice_get}
use Rattle.std.specs.Str.{bytes_eq}
use Rattle.sap_terms.specs.Choice.{Choice, instance}
use Rattle.sap_terms.specs.Tree.{Tree}
use Rattle.sap_terms.specs.Variables.{is_known}
use Rattle.sap_macro.specs.Expansion.{put, unchanged}
use Rattle.sap_macro.specs.Located.{Located, nil_at, call_at, parallel_at, replicated_at, act_at, test_at, lookup_at, without_numbers}
use Rattle.sap_macro.specs.Order.{AreInOrder, UsesOnly}
use Rattle.sap_origin.specs.Definitions.{LocatedDefinition, plain_definition}
use Rattle.sap_origin.specs.Meant.{definition_of}
use Rattle.sap_origin.specs.Origins.{start}
use Rattle.sap_origin.specs.Reached.{Reaches, Standing, entered, reaches_here, reaches_use, reaches_left, reaches_right, reaches_copy, reaches_behind, reaches_then, reaches_else, reaches_found, reaches_missing}
use Rattle.sap_use_words.specs.ExpandedUses.{Led, expanded_uses, led_after, led_by, none_led, uses_in, with_led}
use Rattle.sap_use_words.specs.Passing.{IsPassed}
use Rattle.sap_use_words.specs.WrittenUses.{LocatedUse, use_at}
use Rattle.sap_terms.proofs.PlainLaws.Known.{one_name, in_cases}

none_in : {X : Type 0} (x : X) → Contains [] x → ⊥
none_in x h = let less = h.1 in omega (arith, less)

first_or : {X : Type 0} (y : X) (xs : List X) (x : X) → Contains (y ∷ xs) x → (y ≡ x) ⊎ Contains xs x
first_or {X} y xs x h = ⊎_elim (λ c. inl (only (Contains-push_cases [] y x c))) inr (Contains-append_cases (y ∷ []) xs x h)
  where
    only : Contains [] x ⊎ (y ≡ x) → y ≡ x
    only (inl c) = absurd (none_in x c)
    only (inr e) = e

-- what the law of definitions in order says: each name stands for its definition
abbrev pub NamesStand : Type 0
NamesStand = (ds : List LocatedDefinition) (k : ℕ) (d : LocatedDefinition) → AreInOrder [] (map plain_definition ds) → slice_get ds k ≡ Some d → definition_of ds d.name ≡ Some d

-- ---- through uses to places

module _ (all : List LocatedDefinition) where
  -- to a place, through all uses so far
  record Goes (s : Standing) (p : Located) : Type 0 where
    path : List ℕ
    standing : Standing
    place : Located
    inner : List ℕ
    reaches : Reaches all s p path standing place
    uses_are : standing.uses ≡ inner ++ s.uses

  abbrev AreGoing : List (List ℕ) → Type 0
  AreGoing known = (s : Standing) (k : ℕ) (f : List ℕ) (ts : List Tree) → is_known known f ≡ true → Goes s (call_at k f ts)

  here : (s : Standing) (p : Located) → Reaches all s p [] s p → Goes s p
  here s p r = record { path = []; standing = s; place = p; inner = []; reaches = r; uses_are = refl }

  goes_in : (known : List (List ℕ)) → AreGoing known → (s : Standing) (p : Located) → UsesOnly known (without_numbers p) → Goes s p
  goes_in known g s (nil_at k) u = here s (nil_at k) (reaches_here tt)
  goes_in known g s (call_at k f ts) u = g s k f ts u
  goes_in known g s (parallel_at k p q) u = here s (parallel_at k p q) (reaches_here tt)
  goes_in known g s (replicated_at k p) u = here s (replicated_at k p) (reaches_here tt)
  goes_in known g s (act_at k a p) u = here s (act_at k a p) (reaches_here tt)
  goes_in known g s (test_at k t v p q) u = here s (test_at k t v p q) (reaches_here tt)
  goes_in known g s (lookup_at k t x p q) u = here s (lookup_at k t x p q) (reaches_here tt)

  abbrev ArePassed : Led → Type 0
  ArePassed m = (s : Standing) (r : Choice) (k : ℕ) (f : List ℕ) (ts : List Tree) (u : LocatedUse) → Contains (m s r k f ts) u → IsPassed all s (call_at k f ts) u

  -- below a form
  onward : (s : Standing) (p q : Located) (e : ℕ) (u : LocatedUse) → ((path : List ℕ) (z : Standing) (w : Located) → Reaches all s p path z w → Reaches all s q (e ∷ path) z w)
      → IsPassed all s p u → IsPassed all s q u
  onward s p q e u step h =
      record { path = e ∷ h.path; standing = h.standing; place = h.place; inner = h.inner; reaches = step h.path h.standing h.place h.reaches; uses_are = h.uses_are }

  passed_in : (m : Led) → ArePassed m → (s : Standing) (r : Choice) (p : Located) (u : LocatedUse) → Contains (uses_in m s r p) u → IsPassed all s p u
  passed_in m h s r (nil_at k) u c = absurd (none_in u c)
  passed_in m h s r (call_at k f ts) u c = h s r k f ts u c
  passed_in m h s r (parallel_at k p q) u c =
      ⊎_elim (λ a. onward s p (parallel_at k p q) 1 u (λ path z w y. reaches_left y) (passed_in m h s r p u a))
      (λ a. onward s q (parallel_at k p q) 2 u (λ path z w y. reaches_right y) (passed_in m h s r q u a)) (Contains-append_cases (uses_in m s r p) (uses_in m s r q) u c)
  passed_in m h s r (replicated_at k p) u c = onward s p (replicated_at k p) 1 u (λ path z w y. reaches_copy y) (passed_in m h s r p u c)
  passed_in m h s r (act_at k a p) u c = onward s p (act_at k a p) 1 u (λ path z w y. reaches_behind y) (passed_in m h s r p u c)
  passed_in m h s r (test_at k t v p q) u c =
      ⊎_elim (λ a. onward s p (test_at k t v p q) 1 u (λ path z w y. reaches_then y) (passed_in m h s r p u a))
      (λ a. onward s q (test_at k t v p q) 2 u (λ path z w y. reaches_else y) (passed_in m h s r q u a)) (Contains-append_cases (uses_in m s r p) (uses_in m s r q) u c)
  passed_in m h s r (lookup_at k t x p q) u c =
      ⊎_elim (λ a. onward s p (lookup_at k t x p q) 1 u (λ path z w y. reaches_found y) (passed_in m h s r p u a))
      (λ a. onward s q (lookup_at k t x p q) 2 u (λ path z w y. reaches_missing y) (passed_in m h s r q u a)) (Contains-append_cases (uses_in m s r p) (uses_in m s r q) u c)

  module _ (known : List (List ℕ)) (m : Led) (d : LocatedDefinition) (is : definition_of all d.name ≡ Some d) (only : UsesOnly known (without_numbers d.body)) (g : AreGoing known)
      (h : ArePassed m) where
    stands_for : (f : List ℕ) → d.name ≡ f → definition_of all f ≡ Some d
    stands_for f e = subst (λ (a : List ℕ). definition_of all a ≡ Some d) e is

    goes_through : (s : Standing) (k : ℕ) (f : List ℕ) (ts : List Tree) → d.name ≡ f → Goes s (call_at k f ts)
    goes_through s k f ts e =
        let below = goes_in known g (entered s k d) d.body only in
        record {
          path = below.path;
          standing = below.standing;
          place = below.place;
          inner = below.inner ++ (k + s.behind) ∷ [];
          reaches = reaches_use (stands_for f e) tt below.reaches;
          uses_are = below.uses_are ∙ sym (append_assoc below.inner ((k + s.behind) ∷ []) s.uses);
        }

    goes_more : AreGoing (d.name ∷ known)
    goes_more s k f ts y = ⊎_elim (λ e. goes_through s k f ts e) (λ z. g s k f ts z) (in_cases f d.name known y)

    into : (s : Standing) (k : ℕ) (f : List ℕ) (ts : List Tree) (u : LocatedUse) → d.name ≡ f → IsPassed all (entered s k d) d.body u → IsPassed all s (call_at k f ts) u
    into s k f ts u e p =
        record { path = p.path; standing = p.standing; place = p.place; inner = p.inner; reaches = reaches_use (stands_for f e) tt p.reaches; uses_are = p.uses_are }

    itself : (s : Standing) (k : ℕ) (f : List ℕ) (ts : List Tree) (us : List Tree) → d.name ≡ f → IsPassed all s (call_at k f ts) (use_at s k d.name us)
    itself s k f ts us e =
        let below = goes_in known g (entered s k d) d.body only in
        record { path = below.path; standing = below.standing; place = below.place; inner = below.inner; reaches = reaches_use (stands_for f e) tt below.reaches; uses_are = below.uses_are }

    by_params : (xs : List (List ℕ)) (s : Standing) (r : Choice) (k : ℕ) (f : List ℕ) (ts : List Tree) (u : LocatedUse) → d.name ≡ f → Contains (led_by m d xs s r k ts) u
        → IsPassed all s (call_at k f ts) u
    by_params [] s r k f ts u e c = into s k f ts u e (passed_in m h (entered s k d) r d.body u c)
    by_params (x ∷ xs) s r k f ts u e c =
        let us = map (instance r) ts in
        ⊎_elim (λ (a : use_at s k d.name us ≡ u). subst (λ (v : LocatedUse). IsPassed all s (call_at k f ts) v) a (itself s k f ts us e))
        (λ a. into s k f ts u e (passed_in m h (entered s k d) (put d.params us unchanged) d.body u a))
        (first_or (use_at s k d.name us) (uses_in m (entered s k d) (put d.params us unchanged) d.body) u c)

    passed_more : ArePassed (with_led m d)
    passed_more s r k f ts u c =
        ⊎_elim
        (λ e. by_params d.params s r k f ts u (one_name d.name f e)
        (subst (λ (us : List LocatedUse). Contains us u) (ap (λ b. if b then led_by m d d.params s r k ts else m s r k f ts) e) c))
        (λ e. h s r k f ts u (subst (λ (us : List LocatedUse). Contains us u) (ap (λ b. if b then led_by m d d.params s r k ts else m s r k f ts) e) c)) (cases_Bool (bytes_eq d.name f))

  passed_after : (ds : List LocatedDefinition) (known : List (List ℕ)) (m : Led) → AreInOrder known (map plain_definition ds)
      → ((k : ℕ) (d : LocatedDefinition) → slice_get ds k ≡ Some d → definition_of all d.name ≡ Some d) → AreGoing known → ArePassed m → ArePassed (led_after m ds)
  passed_after [] known m order is g h = h
  passed_after (d ∷ ds) known m order is g h =
      passed_after ds (d.name ∷ known) (with_led m d) order.1.1 (λ k e at. is (suc k) e at) (goes_more known m d (is 0 d refl) order.1.0 g h)
      (passed_more known m d (is 0 d refl) order.1.0 g h)

pub each_passed : NamesStand → (ds : List LocatedDefinition) (n : ℕ) (p : Located) (u : LocatedUse) → AreInOrder [] (map plain_definition ds) → Contains (expanded_uses ds n p) u
    → IsPassed ds (start n) p u
each_passed stand ds n p u order c =
    passed_in ds (led_after none_led ds)
    (passed_after ds ds [] none_led order (λ k d at. stand ds k d order at) (λ s k f ts y. absurd (false≢true y)) (λ s r k f ts v y. absurd (none_in v y))) (start n) unchanged p u c
