-- The facts of a name are those of the trace.
use Rattle.std.proofs.Common.{◌≡◌, ℕ, zero, suc, ◌+◌, ◌<◌, List, [], ◌∷◌, true, false, length, refl, sym, ap, subst, ◌∙◌, inl, inr, if◌then◌else◌, arith}
use Rattle.std.specs.Str.{bytes_eq}
use Rattle.std.proofs.lemmas.Slice.Eq.{bytes_eq-Decides}
use Rattle.sap_judge.proofs.Members.{any_cases, any_left, any_right}
use Rattle.sap_judge.proofs.Tests.{IsIn}
use Rattle.sap_formula.specs.Truth.{AnyIn, facts_at}
use Rattle.sap_match.specs.Atoms.{Sight}
use Rattle.sap_judge.specs.Guards.{sights, sights_at, sights_from}
use Rattle.sap_terms.specs.Trace.{Trace}
use Rattle.sap_terms.specs.declared.fact.Fact.{Fact}

pub facts_below : (Q : Fact → Type 0) (tr : Trace) (k : ℕ) → AnyIn Q (facts_at tr k) → k < length tr
facts_below Q [] k h = absurd h
facts_below Q (p ∷ tr) zero h = omega arith
facts_below Q (p ∷ tr) (suc k) h = let r = facts_below Q tr k h in omega arith

-- a fact of the name is among them
in_sights_at : (n : List ℕ) (k : ℕ) (xs : List Fact) (x : Fact) → IsIn xs x → bytes_eq n x.name ≡ true → IsIn (sights_at n k xs) (record { time = k; fact = x })
in_sights_at n k [] x i e = absurd i
in_sights_at n k (y ∷ ys) x (inl i) e =
    let named : bytes_eq n y.name ≡ true = ap (λ z. bytes_eq n z.name) i ∙ e in
    subst (λ b. IsIn (if b then record { time = k; fact = y } ∷ sights_at n k ys else sights_at n k ys) (record { time = k; fact = x })) (sym named) (inl (λ j. record { time = k; fact = i j }))
in_sights_at n k (y ∷ ys) x (inr i) e =
    let r = in_sights_at n k ys x i e in
    elim (bytes_eq n y.name) as (λ b. IsIn (if b then record { time = k; fact = y } ∷ sights_at n k ys else sights_at n k ys) (record { time = k; fact = x })) [ true ↦ inr r | false ↦ r ]

in_sights_from : (n : List ℕ) (j : ℕ) (tr : Trace) (k : ℕ) (x : Fact) → IsIn (facts_at tr k) x → bytes_eq n x.name ≡ true → IsIn (sights_from n j tr) (record { time = j + k; fact = x })
in_sights_from n j [] k x i e = absurd i
in_sights_from n j (p ∷ tr) zero x i e =
    let z : j + 0 ≡ j = omega arith in
    any_left (λ y. y ≡ record { time = j + 0; fact = x }) (sights_at n j p) (sights_from n (j + 1) tr) (subst (λ m. IsIn (sights_at n j p) (record { time = m; fact = x })) (sym z) (in_sights_at n j p x i e))
in_sights_from n j (p ∷ tr) (suc k) x i e =
    let z : (j + 1) + k ≡ j + suc k = omega arith in
    any_right (λ y. y ≡ record { time = j + suc k; fact = x }) (sights_at n j p) (sights_from n (j + 1) tr) (subst (λ m. IsIn (sights_from n (j + 1) tr) (record { time = m; fact = x })) z (in_sights_from n (j + 1) tr k x i e))

pub in_sights : (n : List ℕ) (tr : Trace) (k : ℕ) (x : Fact) → IsIn (facts_at tr k) x → bytes_eq n x.name ≡ true → IsIn (sights n tr) (record { time = k; fact = x })
in_sights n tr k x i e = let z : 0 + k ≡ k = omega arith in subst (λ m. IsIn (sights n tr) (record { time = m; fact = x })) z (in_sights_from n 0 tr k x i e)

-- and what is among them is one of the trace
record IsAt (n : List ℕ) (tr : Trace) (j : ℕ) (s : Sight) : Type 0 where
  index : ℕ
  time_is : s.time ≡ j + index
  below : index < length tr
  there : IsIn (facts_at tr index) s.fact
  named : n ≡ s.fact.name

at_of : (n : List ℕ) (k : ℕ) (xs : List Fact) (s : Sight) → IsIn (sights_at n k xs) s → (s.time ≡ k) × IsIn xs s.fact × (n ≡ s.fact.name)
at_of n k [] s i = absurd i
at_of n k (x ∷ xs) s i =
    let r = at_of n k xs s in
    elim (bytes_eq n x.name) as (λ b. bytes_eq n x.name ≡ b → IsIn (if b then record { time = k; fact = x } ∷ sights_at n k xs else sights_at n k xs) s → (s.time ≡ k) × IsIn (x ∷ xs) s.fact × (n ≡ s.fact.name)) [
      | true ↦ λ d h. elim h [ inl e ↦ (ap (λ z. z.time) (sym e), inl (ap (λ z. z.fact) e), (bytes_eq-Decides n x.name).0 d ∙ ap (λ z. z.fact.name) e) | inr j ↦ let q = r j in (q.0, inr q.1, q.2) ]
      | false ↦ λ d h. let q = r h in (q.0, inr q.1, q.2)
    ] refl i

from_of : (n : List ℕ) (j : ℕ) (tr : Trace) (s : Sight) → IsIn (sights_from n j tr) s → IsAt n tr j s
from_of n j [] s i = absurd i
from_of n j (p ∷ tr) s i =
    elim (any_cases (λ y. y ≡ s) (sights_at n j p) (sights_from n (j + 1) tr) i) [
      | inl h ↦ let q = at_of n j p s h in record { index = 0; time_is = omega (arith, q.0); below = omega arith; there = q.1; named = q.2 }
      | inr h ↦ let q = from_of n (j + 1) tr s h in record { index = suc q.index; time_is = omega (arith, q.time_is); below = omega (arith, q.below); there = q.there; named = q.named }
    ]

pub of_sights : (n : List ℕ) (tr : Trace) (s : Sight) → IsIn (sights n tr) s → (s.time < length tr) × IsIn (facts_at tr s.time) s.fact × (n ≡ s.fact.name)
of_sights n tr s i =
    let q = from_of n 0 tr s i in
    let e : q.index ≡ s.time = omega (arith, q.time_is) in
    (subst (λ k. k < length tr) e q.below, subst (λ k. IsIn (facts_at tr k) s.fact) e q.there, q.named)
