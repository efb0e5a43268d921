-- What a trace shows without its hidden facts.
use Rattle.std.proofs.Common.{◌≡◌, refl, ℕ, zero, suc, inl, inr, ◌⊎◌, List, [], ◌∷◌, ◌++◌, Bool, true, false, not, if◌then◌else◌}
use Rattle.sap_formula.specs.Hide.{hide, is_hidden, visible}
use Rattle.sap_formula.specs.Truth.{AnyIn, facts_at}
use Rattle.sap_terms.specs.Trace.{Trace, shown}
use Rattle.sap_terms.specs.declared.fact.Fact.{Fact}

-- a fact of the property that isn't hidden
abbrev pub Seen : (Fact → Type 0) → Fact → Type 0
Seen Q f = Q f × (is_hidden f.name ≡ false)

-- what is seen at a time is one of the facts and isn't hidden
seen_fact : (Q : Fact → Type 0) (p : List Fact) → AnyIn Q (visible p) → AnyIn (Seen Q) p
seen_fact Q [] h = h
seen_fact Q (f ∷ fs) h = by (is_hidden f.name) refl (seen_fact Q fs) h
  where
    by : (b : Bool) → is_hidden f.name ≡ b → (AnyIn Q (visible fs) → AnyIn (Seen Q) fs) → AnyIn Q (if not b then f ∷ visible fs else visible fs) → Seen Q f ⊎ AnyIn (Seen Q) fs
    by true same rest h = inr (rest h)
    by false same rest (inl q) = inl (q, same)
    by false same rest (inr h) = inr (rest h)

-- so what is seen at a time of the hidden trace stands at some time of the whole one
pub seen_time : (Q : Fact → Type 0) (full : Trace) (k : ℕ) → AnyIn Q (facts_at (hide full) k) → (m : ℕ) × AnyIn (Seen Q) (facts_at full m)
seen_time Q [] k h = absurd h
seen_time Q (p ∷ ps) k h = by (visible p) (seen_fact Q p) (seen_time Q ps) k h
  where
    by : (v : List Fact) → (AnyIn Q v → AnyIn (Seen Q) p) → ((k : ℕ) → AnyIn Q (facts_at (hide ps) k) → (m : ℕ) × AnyIn (Seen Q) (facts_at ps m)) → (k : ℕ) → AnyIn Q (facts_at (shown v ++ hide ps) k) → (m : ℕ) × AnyIn (Seen Q) (facts_at (p ∷ ps) m)
    by [] here rest k h =
        let x = rest k h in
        (suc x.0, x.1)
    by (f ∷ fs) here rest zero h = (0, here h)
    by (f ∷ fs) here rest (suc k) h =
        let x = rest k h in
        (suc x.0, x.1)

-- nothing in a list has a property that no element has
pub none_has : {X : Type 0} (P : X → Type 0) (xs : List X) → ((x : X) → P x → ⊥) → AnyIn P xs → ⊥
none_has P [] never h = h
none_has P (x ∷ xs) never (inl p) = never x p
none_has P (x ∷ xs) never (inr h) = none_has P xs never h
