-- What is found first under the facts that guards pick, one after another, is what is found first in the list of all ways to pick.
use Rattle.std.proofs.Common.{◌≡◌, ℕ, List, [], ◌∷◌, ◌++◌, Bool, true, false, ◌||◌, Option, Some, None, map, refl, sym, ap, subst, ◌∙◌, inl, inr}
use Rattle.std.proofs.lemmas.List.Concat.{flat_map-cons}
use Rattle.std.specs.List.{AllZip, flat_map, list_any}
use Rattle.sap_formula.specs.Truth.{EachIn}
use Rattle.sap_judge.proofs.Members.{any_left, any_right, each_append, each_map}
use Rattle.sap_judge.proofs.Tests.{IsIn}
use Rattle.sap_judge.specs.Guards.{Action, sights}
use Rattle.sap_judge.specs.Reasons.{picks}
use Rattle.sap_judge.specs.code.Folded.{are_idle, is_bare}
use Rattle.sap_judge.specs.code.Ready.{Place, atom_of, guards_of, seen_behind}
use Rattle.sap_match.specs.Atoms.{Held, Sight}
use Rattle.sap_match.specs.Matched.{guarded, onward}
use Rattle.sap_search.specs.Claims.{Chosen}
use Rattle.sap_search.specs.Explained.{first_led, first_some, or_next}
use Rattle.sap_search.specs.Plan.{Guard}
use Rattle.sap_terms.specs.Trace.{Trace}

-- the first of some

or_none : {Y : Type 0} (o : Option Y) → or_next o None ≡ o
or_none None = refl
or_none (Some y) = refl

or_assoc : {Y : Type 0} (a b c : Option Y) → or_next (or_next a b) c ≡ or_next a (or_next b c)
or_assoc None b c = refl
or_assoc (Some y) b c = refl

some_append : {X Y : Type 0} (f : X → Option Y) (xs ys : List X) → first_some f (xs ++ ys) ≡ or_next (first_some f xs) (first_some f ys)
some_append f [] ys = refl
some_append f (x ∷ xs) ys = ap (or_next (f x)) (some_append f xs ys) ∙ sym (or_assoc (f x) (first_some f xs) (first_some f ys))

some_flat : {X Y Z : Type 0} (f : Y → Option Z) (h : X → List Y) (xs : List X) → first_some f (flat_map h xs) ≡ first_some (λ x. first_some f (h x)) xs
some_flat f h [] = refl
some_flat f h (x ∷ xs) = ap (first_some f) (flat_map-cons h x xs) ∙ some_append f (h x) (flat_map h xs) ∙ ap (or_next (first_some f (h x))) (some_flat f h xs)

some_map : {X Y Z : Type 0} (f : Y → Option Z) (k : X → Y) (xs : List X) → first_some f (map k xs) ≡ first_some (λ x. f (k x)) xs
some_map f k [] = refl
some_map f k (x ∷ xs) = ap (or_next (f (k x))) (some_map f k xs)

some_same : {X Y : Type 0} (f h : X → Option Y) (xs : List X) → ((x : X) → f x ≡ h x) → first_some f xs ≡ first_some h xs
some_same f h [] e = refl
some_same f h (x ∷ xs) e = λ i. or_next (e x i) (some_same f h xs e i)

some_none : {X Y : Type 0} (xs : List X) → first_some {X = X} {Y = Y} (λ x. None) xs ≡ None
some_none [] = refl
some_none (x ∷ xs) = some_none xs

-- where something is found it is found at one of them, and at none before
pub record Split {X Y : Type 0} (f : X → Option Y) (xs : List X) (y : Y) : Type 0 where
  pub before : List X
  pub at : X
  pub after : List X
  pub is : xs ≡ before ++ at ∷ after
  pub missed : EachIn (λ x. f x ≡ None) before
  pub found : f at ≡ Some y

pub first_split : {X Y : Type 0} (f : X → Option Y) (xs : List X) (y : Y) → first_some f xs ≡ Some y → Split f xs y
first_split f [] y h = absurd (cc)
first_split {X} {Y} f (x ∷ xs) y h = by (f x) refl h (first_split f xs y) where
  by : (o : Option Y) → f x ≡ o → or_next o (first_some f xs) ≡ Some y → (first_some f xs ≡ Some y → Split f xs y) → Split f (x ∷ xs) y
  by (Some z) e h g = record { before = []; at = x; after = xs; is = refl; missed = tt; found = e ∙ h }
  by None e h g =
      let r = g h in
      record { before = x ∷ r.before; at = r.at; after = r.after; is = ap (λ l. x ∷ l) r.is; missed = (e, r.missed); found = r.found }

pub first_missed : {X Y : Type 0} (f : X → Option Y) (xs : List X) → first_some f xs ≡ None → EachIn (λ x. f x ≡ None) xs
first_missed f [] h = tt
first_missed {X} {Y} f (x ∷ xs) h = by (f x) refl h (first_missed f xs) where
  by : (o : Option Y) → f x ≡ o → or_next o (first_some f xs) ≡ None → (first_some f xs ≡ None → EachIn (λ x. f x ≡ None) xs) → EachIn (λ x. f x ≡ None) (x ∷ xs)
  by (Some z) e h g = absurd (cc)
  by None e h g = (e, g h)

-- lists of lists

each_flat : {X Y : Type 0} (Q : Y → Type 0) (h : X → List Y) (xs : List X) → ((x : X) → IsIn xs x → EachIn Q (h x)) → EachIn Q (flat_map h xs)
each_flat Q h [] f = tt
each_flat Q h (x ∷ xs) f = subst (EachIn Q) (sym (flat_map-cons h x xs)) (each_append Q (h x) (flat_map h xs) (f x (inl refl)) (each_flat Q h xs (λ y i. f y (inr i))))

each_mapped : {X Y : Type 0} (Q : Y → Type 0) (k : X → Y) (xs : List X) → EachIn (λ x. Q (k x)) xs → EachIn Q (map k xs)
each_mapped Q k [] e = tt
each_mapped Q k (x ∷ xs) e = (e.0, each_mapped Q k xs e.1)

in_map : {X Y : Type 0} (k : X → Y) (xs : List X) (x : X) → IsIn xs x → IsIn (map k xs) (k x)
in_map k [] x i = absurd i
in_map k (y ∷ xs) x (inl e) = inl (ap k e)
in_map k (y ∷ xs) x (inr i) = inr (in_map k xs x i)

in_flat : {X Y : Type 0} (h : X → List Y) (xs : List X) (x : X) (y : Y) → IsIn xs x → IsIn (h x) y → IsIn (flat_map h xs) y
in_flat h [] x y i j = absurd i
in_flat h (z ∷ xs) x y (inl e) j = subst (λ l. IsIn l y) (sym (flat_map-cons h z xs)) (any_left (λ u. u ≡ y) (h z) (flat_map h xs) (subst (λ u. IsIn (h u) y) (sym e) j))
in_flat h (z ∷ xs) x y (inr i) j = subst (λ l. IsIn l y) (sym (flat_map-cons h z xs)) (any_right (λ u. u ≡ y) (h z) (flat_map h xs) (in_flat h xs x y i j))

-- each guard's fact is one of its name
abbrev pub AreIn : Trace → List Action → List Sight → Type 0
AreIn tr acts ss = AllZip (λ a s. IsIn (sights a.pattern.name tr) s) acts ss

pub picks_in : (tr : Trace) (acts : List Action) → EachIn (AreIn tr acts) (picks tr acts)
picks_in tr [] = (tt, tt)
picks_in tr (a ∷ acts) =
    each_flat (AreIn tr (a ∷ acts)) (λ s. map (λ ss. s ∷ ss) (picks tr acts)) (sights a.pattern.name tr) (λ s i. each_mapped (AreIn tr (a ∷ acts)) (λ ss. s ∷ ss) (picks tr acts) (each_map (AreIn tr acts) (λ ss. AreIn tr (a ∷ acts) (s ∷ ss)) (picks tr acts) (λ ss h. (i, h)) (picks_in tr acts)))

pub in_picks : (tr : Trace) (acts : List Action) (ss : List Sight) → AreIn tr acts ss → IsIn (picks tr acts) ss
in_picks tr [] [] h = inl refl
in_picks tr [] (s ∷ ss) h = absurd h
in_picks tr (a ∷ acts) [] h = absurd h
in_picks tr (a ∷ acts) (s ∷ ss) h = in_flat (λ s. map (λ ss. s ∷ ss) (picks tr acts)) (sights a.pattern.name tr) s (s ∷ ss) h.0 (in_map (λ ss. s ∷ ss) (picks tr acts) ss (in_picks tr acts ss h.1))

-- what is held where these facts are picked
abbrev pub led : List Guard → List Sight → List Held → Option (List Held)
led [] [] held = Some held
led [] (s ∷ ss) held = None
led (d ∷ ds) [] held = None
led (d ∷ ds) (s ∷ ss) held = onward (guarded d.atom s.fact s.time held) (λ mid. led ds ss mid)

module _ (tr : Trace) (p : Place) (leaf : List Held → Option (List Chosen)) where
  -- one guard's fact
  one_fact : (ds : List Guard) (acts : List Action) (o : Option (List Held)) → ((mid : List Held) → first_led ds mid leaf ≡ first_some (λ ss. onward (led ds ss mid) leaf) (picks tr acts)) → onward o (λ h. first_led ds h leaf) ≡ first_some (λ ss. onward (onward o (λ mid. led ds ss mid)) leaf) (picks tr acts)
  one_fact ds acts None f = sym (some_none (picks tr acts))
  one_fact ds acts (Some mid) f = f mid

  pub led_flat : (acts : List Action) (seen : List (List ℕ)) (held : List Held) → first_led (guards_of tr p seen acts) held leaf ≡ first_some (λ ss. onward (led (guards_of tr p seen acts) ss held) leaf) (picks tr acts)
  led_flat [] seen held = sym (or_none (leaf held))
  led_flat (a ∷ acts) seen held =
      let ds = guards_of tr p (seen_behind p seen a) acts in
      some_same (λ s. onward (guarded (atom_of p seen a) s.fact s.time held) (λ h. first_led ds h leaf)) (λ s. first_some (λ ss. onward (led (guards_of tr p seen (a ∷ acts)) ss held) leaf) (map (λ ss. s ∷ ss) (picks tr acts))) (sights a.pattern.name tr) (λ s.
      one_fact ds acts (guarded (atom_of p seen a) s.fact s.time held) (λ mid. led_flat acts (seen_behind p seen a) mid) ∙ sym (some_map (λ ss. onward (led (guards_of tr p seen (a ∷ acts)) ss held) leaf) (λ ss. s ∷ ss) (picks tr acts)))
      ∙ sym (some_flat (λ ss. onward (led (guards_of tr p seen (a ∷ acts)) ss held) leaf) (λ s. map (λ ss. s ∷ ss) (picks tr acts)) (sights a.pattern.name tr))

-- where some guard has no fact nothing is found

onward_none : {X : Type 0} (o : Option X) (f : X → Option (List Chosen)) → ((x : X) → f x ≡ None) → onward o f ≡ None
onward_none None f e = refl
onward_none (Some x) f e = e x

pub idle_led : (gs : List Guard) (held : List Held) (leaf : List Held → Option (List Chosen)) → are_idle gs ≡ true → first_led gs held leaf ≡ None
idle_led [] held leaf h = absurd (cc)
idle_led (d ∷ ds) held leaf h = by d.facts refl (λ mid e. idle_led ds mid leaf e) where
  rest : (ss : List Sight) → (is_bare ss || are_idle ds) ≡ true → is_bare ss ≡ false → are_idle ds ≡ true
  rest [] h e = absurd (cc)
  rest (s ∷ ss) h e = h

  by : (ss : List Sight) → d.facts ≡ ss → ((mid : List Held) → are_idle ds ≡ true → first_led ds mid leaf ≡ None) → first_some (λ s. onward (guarded d.atom s.fact s.time held) (λ h. first_led ds h leaf)) d.facts ≡ None
  by [] e f = ap (first_some (λ s. onward (guarded d.atom s.fact s.time held) (λ h. first_led ds h leaf))) e
  by (s ∷ ss) e f =
      let more : are_idle ds ≡ true = rest d.facts h (ap is_bare e) in
      some_same (λ s. onward (guarded d.atom s.fact s.time held) (λ h. first_led ds h leaf)) (λ s. None) d.facts (λ s. onward_none (guarded d.atom s.fact s.time held) (λ h. first_led ds h leaf) (λ mid. f mid more)) ∙ some_none d.facts
