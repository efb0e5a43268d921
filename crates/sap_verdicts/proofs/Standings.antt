-- Whether a run counts, verdict by verdict from the last one.
use Rattle.std.proofs.Common.{◌≡◌, ◌≢◌, ℕ, ◌+◌, ◌-◌, ◌<◌, ◌≤◌, List, [], ◌∷◌, Some, drop, length, map, slice_get, refl, sym, ap, ◌∙◌, inl, inr, ◌⊎◌, ⊎_elim, arith}
use Rattle.std.specs.Prelude.{◌↔◌}
use Rattle.std.proofs.Math.ListN.{drop_of_length-le}
use Rattle.sap_formula.specs.Truth.{EachIn}
use Rattle.sap_judge.specs.declared.verdict.Verdict.{Verdict}
use Rattle.sap_judge.specs.declared.verdict.Verdict.TheVariants.{Holds, Fails, TooCostly}
use Rattle.sap_terms.proofs.PlainLaws.Lists.{drop_got}
use Rattle.sap_verdicts.specs.Findings.{Found}
use Rattle.sap_verdicts.specs.Standing.{IsBroken, IsKept, SomeIn, standing, with_verdict}
use Rattle.sap_verdicts.specs.View.{found}
use Rattle.sap_verdicts.specs.declared.finding.Finding.{Finding}
use Rattle.sap_verdicts.specs.declared.standing.Standing.{Standing}
use Rattle.sap_verdicts.specs.declared.standing.Standing.TheVariants.{Counts, Excluded, Undecided}
use Rattle.sap_verdicts.specs.declared.statement.Statement.{Statement}
use Rattle.sap_verdicts.specs.declared.statement.Statement.TheVariants.{Restriction, Lemma}

drop_nothing : {X : Type 0} (xs : List X) (j : ℕ) → j ≡ 0 → drop j xs ≡ xs
drop_nothing [] j e = rw e refl
drop_nothing (x ∷ xs) j e = rw e refl

pub standing_start : (ys : List Finding) → Counts ≡ standing (map found (drop (length ys - 0) ys))
standing_start ys = sym (ap (λ zs. standing (map found zs)) (drop_of_length-le ys (omega arith)))

pub standing_all : (ys : List Finding) (k : ℕ) → length ys ≤ k → standing (map found (drop (length ys - k) ys)) ≡ standing (map found ys)
standing_all ys k h = ap (λ zs. standing (map found zs)) (drop_nothing ys (length ys - k) (omega (arith, h)))

pub standing_one : (ys : List Finding) (k : ℕ) (y : Finding) → k < length ys → slice_get ys (length ys - 1 - k) ≡ Some y
    → with_verdict y.what y.verdict (standing (map found (drop (length ys - k) ys))) ≡ standing (map found (drop (length ys - (k + 1)) ys))
standing_one ys k y l h =
    let j : length ys - (k + 1) ≡ length ys - 1 - k = omega (arith, l) in
    let n : (length ys - 1 - k) + 1 ≡ length ys - k = omega (arith, l) in
    sym (ap (λ i. standing (map found (drop i ys))) j ∙ ap (λ zs. standing (map found zs)) (drop_got ys (length ys - 1 - k) y h) ∙ ap (λ i. with_verdict y.what y.verdict (standing (map found (drop i ys)))) n)

pub ruleset standing_laws = (standing_start, standing_all, standing_one)

-- ---- what a standing says

kept : (s : Statement) (v : Verdict) (c : Standing) → (with_verdict s v c ≡ Counts) ↔ ((s ≡ Restriction → v ≡ Holds) × (c ≡ Counts))
kept (Lemma m) v c = (λ h. (λ e. cc, h), λ h. h.1)
kept Restriction Holds c = (λ h. (λ e. refl, h), λ h. h.1)
kept Restriction Fails c = (λ h. cc, λ h. (let e = h.0 refl in cc))
kept Restriction (TooCostly n) Counts = (λ h. cc, λ h. (let e = h.0 refl in cc))
kept Restriction (TooCostly n) Excluded = (λ h. cc, λ h. (let e = h.1 in cc))
kept Restriction (TooCostly n) Undecided = (λ h. cc, λ h. (let e = h.1 in cc))

pub counts : (ys : List Found) → (standing ys ≡ Counts) ↔ EachIn IsKept ys
counts [] = (λ h. tt, λ h. refl)
counts (y ∷ ys) =
    let here = kept y.what y.verdict (standing ys) in
    let rest = counts ys in
    (λ h. ((here.0 h).0, rest.0 (here.0 h).1), λ h. here.1 (h.0, rest.1 h.1))

broken : (s : Statement) (v : Verdict) (c : Standing) → with_verdict s v c ≡ Excluded → ((s ≡ Restriction) × (v ≡ Fails)) ⊎ (c ≡ Excluded)
broken (Lemma m) v c h = inr h
broken Restriction Holds c h = inr h
broken Restriction Fails c h = inl (refl, refl)
broken Restriction (TooCostly n) Counts h = cc
broken Restriction (TooCostly n) Excluded h = inr refl
broken Restriction (TooCostly n) Undecided h = cc

breaks : (s : Statement) (v : Verdict) (c : Standing) → ((s ≡ Restriction) × (v ≡ Fails)) ⊎ (c ≡ Excluded) → with_verdict s v c ≡ Excluded
breaks s v c (inl e) = rw (e.0, e.1) refl
breaks (Lemma m) v c (inr e) = e
breaks Restriction Holds c (inr e) = e
breaks Restriction Fails c (inr e) = refl
breaks Restriction (TooCostly n) c (inr e) = rw e refl

pub excluded : (ys : List Found) → standing ys ≡ Excluded → SomeIn IsBroken ys
excluded [] h = cc
excluded (y ∷ ys) h = ⊎_elim (λ b. inl b) (λ e. inr (excluded ys e)) (broken y.what y.verdict (standing ys) h)

pub excludes : (ys : List Found) → SomeIn IsBroken ys → standing ys ≡ Excluded
excludes [] h = absurd h
excludes (y ∷ ys) (inl b) = breaks y.what y.verdict (standing ys) (inl b)
excludes (y ∷ ys) (inr h) = breaks y.what y.verdict (standing ys) (inr (excludes ys h))
