-- Steps of a walk.
use Rattle.std.proofs.Common.{◌≡◌, ◌≤◌, ℕ, ◌+◌, ◌-◌, ◌^◌, min, true, List, [], ◌∷◌, ◌++◌, Some, refl, sym, ap, subst, inl, inr, ⊎_elim, arith}
use Rattle.sap_terms.specs.NameMap.{value_at}
use Rattle.sap_terms.specs.Tree.{Tree}
use Rattle.sap_terms.specs.Variables.{is_known}
use Rattle.sap_macro.specs.Order.{UsesOnly}
use Rattle.sap_macro.specs.Written.{Written, nil, call}
use Rattle.sap_beyond.specs.code.Shapes.{Shape, leaf, one, two, shaped}
use Rattle.sap_beyond.specs.code.Steps.{AreKept, IsFound, IsOver, IsOverBoth, IsUsed, Leads, Names, Uses, UsesOf, extent, kept_at, left_behind, passed, wanted_at}
use Rattle.sap_beyond.specs.declared.beyond.By.{By}
use Rattle.sap_beyond.specs.declared.beyond.By.TheVariants.{Number, Digits}
use Rattle.sap_beyond.specs.declared.beyond.Step.{Step}
use Rattle.sap_beyond.specs.declared.beyond.Step.TheVariants.{Past, Here, In}
use Rattle.sap_beyond.proofs.Found.{found_here, in_first, in_one, in_second}

-- ---- uses

pub of_use : (by : By) (c : List ℕ → Shape) (names : List (List ℕ)) (index : List (List ℕ × ℕ)) (extents : List ℕ) (w : Written) (f : List ℕ) (ts : List Tree) (k : ℕ) (from : List ℕ) (step : Step)
    → w ≡ call f ts → AreKept by c names index extents → UsesOnly names w
    → (kept_at extents (value_at index f) ≡ Some (min (extent by (c f)) (2 ^ 64 - 1)) → Leads by c from from (c f) k from step) → Leads by c from from (shaped c w) k from step
of_use by c names index extents w f ts k from step e kept uses h =
    let known : is_known names f ≡ true = subst (UsesOnly names) e uses in
    subst (λ s. Leads by c from from s k from step) (sym (ap (shaped c) e)) (h (kept f known))

use_of : (w : Written) (f : List ℕ) (ts : List Tree) → w ≡ call f ts → IsUsed w f
use_of w f ts e = subst (λ u. IsUsed u f) (sym e) (record { known = λ names u. u; less = λ c. omega arith })

pub uses_it : (w : Written) (f : List ℕ) (ts : List Tree) (step : Step) → w ≡ call f ts → Names step f → Uses w step
uses_it w f ts (Past left) e h = tt
uses_it w f ts Here e h = tt
uses_it w f ts (In g at left) e h = subst (IsUsed w) (sym h) (use_of w f ts e)

above_one : (w p : Written) (f : List ℕ) → IsOver w p → IsUsed p f → IsUsed w f
above_one w p f over u = record {
  known = λ names only. u.known names (over.uses names only);
  less = λ c. let a = u.less c in let b = over.further c in omega (arith, a, b);
}

pub uses_above : (by : By) (w p : Written) (step : Step) → IsOver w p → Uses p step → Uses w (passed by step)
uses_above Number w p (Past left) over u = tt
uses_above Number w p Here over u = tt
uses_above Number w p (In f at left) over u = above_one w p f.now over u
uses_above Digits w p (Past left) over u = tt
uses_above Digits w p Here over u = tt
uses_above Digits w p (In f at left) over u = above_one w p f.now over u

above_first : (w p q : Written) (f : List ℕ) → IsOverBoth w p q → IsUsed p f → IsUsed w f
above_first w p q f over u = record {
  known = λ names only. u.known names (over.uses names only).0;
  less = λ c. let a = u.less c in let b = over.further c in omega (arith, a, b);
}

above_second : (w p q : Written) (f : List ℕ) → IsOverBoth w p q → IsUsed q f → IsUsed w f
above_second w p q f over u = record {
  known = λ names only. u.known names (over.uses names only).1;
  less = λ c. let a = u.less c in let b = over.further c in omega (arith, a, b);
}

pub uses_above_both : (by : By) (w p q : Written) (step : Step) → IsOverBoth w p q → UsesOf p q step → Uses w (passed by step)
uses_above_both Number w p q (Past left) over u = tt
uses_above_both Number w p q Here over u = tt
uses_above_both Number w p q (In f at left) over u = ⊎_elim (above_first w p q f.now over) (above_second w p q f.now over) u
uses_above_both Digits w p q (Past left) over u = tt
uses_above_both Digits w p q Here over u = tt
uses_above_both Digits w p q (In f at left) over u = ⊎_elim (above_first w p q f.now over) (above_second w p q f.now over) u

pub uses_first : (p q : Written) (step : Step) → Uses p step → UsesOf p q step
uses_first p q (Past left) u = tt
uses_first p q Here u = tt
uses_first p q (In f at left) u = inl u

pub uses_second : (p q : Written) (step : Step) → Uses q step → UsesOf p q step
uses_second p q (Past left) u = tt
uses_second p q Here u = tt
uses_second p q (In f at left) u = inr u

-- ---- from a place down

pub at_place : (by : By) (c : List ℕ → Shape) (from : List ℕ) (s : Shape) (k : ℕ) → k ≡ 0 → Leads by c from from s k from Here
at_place by c from s k e = subst (λ n. IsFound by from s n from) (sym e) (found_here by from s)

-- what is wanted at a place is one more than below it
abbrev Next : By → (List ℕ → Shape) → List ℕ → Shape → ℕ → List ℕ → Step → Type 0
Next by c from s k to step = Leads by c from from s (k + 1) to (passed by step)

leaf_next : (by : By) (c : List ℕ → Shape) (from : List ℕ) (k : ℕ) → Next by c from leaf k from (Past k)
leaf_next Number c from k = (omega arith, omega arith, refl)
leaf_next Digits c from k = (omega arith, refl, refl)

one_next : (by : By) (c : List ℕ → Shape) (from : List ℕ) (s : Shape) (k : ℕ) (to : List ℕ) (step : Step) → Leads by c from (from ++ 1 ∷ []) s k to step → Next by c from (one s) k to step
one_next Number c from s k to (Past left) h =
    let past : extent Number s ≤ k = h.0 in
    let is : left ≡ left_behind Number k s = h.1 in
    (omega (arith, past), omega (arith, is), h.2)
one_next Digits c from s k to (Past left) h =
    let past : extent Digits s ≤ k = h.0 in
    let is : left ≡ k = h.1 in
    (omega (arith, past), omega (arith, is), h.2)
one_next Number c from s k to Here h = in_one Number from s k to h
one_next Digits c from s k to Here h = in_one Digits from s k to h
one_next Number c from s k to (In f at left) h = (h.0, λ path found. in_one Number from s k path (h.1 path found))
one_next Digits c from s k to (In f at left) h = (h.0, λ path found. in_one Digits from s k path (h.1 path found))

-- it isn't past
abbrev pub IsNotPast : Step → Type 0
IsNotPast (Past left) = ⊥
IsNotPast Here = Unit {0}
IsNotPast (In f at left) = Unit {0}

pub first_next : (by : By) (c : List ℕ → Shape) (from : List ℕ) (s t : Shape) (k : ℕ) (to : List ℕ) (step : Step) → IsNotPast step → Leads by c from (from ++ 1 ∷ []) s k to step → Next by c from (two s t) k to step
first_next by c from s t k to (Past left) on h = absurd on
first_next Number c from s t k to Here on h = in_first Number from s t k to h
first_next Digits c from s t k to Here on h = in_first Digits from s t k to h
first_next Number c from s t k to (In f at left) on h = (h.0, λ path found. in_first Number from s t k path (h.1 path found))
first_next Digits c from s t k to (In f at left) on h = (h.0, λ path found. in_first Digits from s t k path (h.1 path found))

pub second_next : (by : By) (c : List ℕ → Shape) (from : List ℕ) (s t : Shape) (k left : ℕ) (at to : List ℕ) (step : Step) → Leads by c from (from ++ 1 ∷ []) s k at (Past left)
    → Leads by c at (at ++ 2 ∷ []) t left to step → Next by c from (two s t) k to step
second_next by c from s t k left at to step h g = go by step h.0 same
  where
    same : Leads by c from (from ++ 2 ∷ []) t (left_behind by k s) to step
    same = subst (λ n. Leads by c from (from ++ 2 ∷ []) t n to step) h.1 (subst (λ (v : List ℕ). Leads by c v (v ++ 2 ∷ []) t left to step) h.2 g)

    go : (by : By) (step : Step) → extent by s ≤ k → Leads by c from (from ++ 2 ∷ []) t (left_behind by k s) to step → Next by c from (two s t) k to step
    go Number (Past rest) past r =
        let more : extent Number t ≤ left_behind Number k s = r.0 in
        let is : rest ≡ left_behind Number (left_behind Number k s) t = r.1 in
        (omega (arith, past, more), omega (arith, past, more, is), r.2)
    go Digits (Past rest) past r =
        let more : extent Digits t ≤ k = r.0 in
        let is : rest ≡ k = r.1 in
        (omega (arith, past, more), omega (arith, is), r.2)
    go Number Here past r = in_second Number from s t k to past r
    go Digits Here past r = in_second Digits from s t k to past r
    go Number (In f at rest) past r = (r.0, λ path found. in_second Number from s t k path past (r.1 path found))
    go Digits (In f at rest) past r = (r.0, λ path found. in_second Digits from s t k path past (r.1 path found))

-- ---- at what is written

module _ (by : By) (c : List ℕ → Shape) (from : List ℕ) (w : Written) (k j : ℕ) (e : k ≡ j + 1) where
  abbrev At : Shape → List ℕ → Step → Type 0
  At s to step = Leads by c from from s k to (passed by step)

  at_next : (s : Shape) (to : List ℕ) (step : Step) → Next by c from s j to step → At s to step
  at_next s to step h = subst (λ n. Leads by c from from s n to (passed by step)) (sym e) h

  pub at_nil : w ≡ nil → At (shaped c w) from (Past j)
  at_nil is = subst (λ (u : Written). At (shaped c u) from (Past j)) (sym is) (at_next leaf from (Past j) (leaf_next by c from j))

  pub at_one : (p : Written) (to : List ℕ) (step : Step) → IsOver w p → Leads by c from (from ++ 1 ∷ []) (shaped c p) j to step → At (shaped c w) to step
  at_one p to step over h = subst (λ s. At s to step) (sym (over.shape c)) (at_next (one (shaped c p)) to step (one_next by c from (shaped c p) j to step h))

  pub at_both : (p q : Written) (to : List ℕ) (step : Step) → IsOverBoth w p q → Next by c from (two (shaped c p) (shaped c q)) j to step → At (shaped c w) to step
  at_both p q to step over h = subst (λ s. At s to step) (sym (over.shape c)) (at_next (two (shaped c p) (shaped c q)) to step h)

-- ---- what is wanted

pub less_next : (by : By) (step : Step) (j k : ℕ) → wanted_at step ≤ j → k ≡ j + 1 → wanted_at (passed by step) ≤ k
less_next Number (Past left) j k h e = omega (arith, h, e)
less_next Number Here j k h e = omega arith
less_next Number (In f at left) j k h e = omega (arith, h, e)
less_next Digits (Past left) j k h e = omega (arith, h, e)
less_next Digits Here j k h e = omega arith
less_next Digits (In f at left) j k h e = omega (arith, h, e)

pub not_past : (step : Step) → ((left : ℕ) → step ≡ Past left → ⊥) → IsNotPast step
not_past (Past left) h = h left refl
not_past Here h = tt
not_past (In f at left) h = tt
