-- Of a formula on a trace there is one verdict.
use Rattle.std.proofs.Common.{◌≡◌, ◌<◌, ◌≤◌, ℕ, Bool, true, false, sym, ap, ◌∙◌, arith, refl, inl, inr}
use Rattle.std.specs.Prelude.{◌⊎◌, ◌-◌, ◌^◌, min}
use Rattle.std.proofs.lemmas.Bool.{cases_lt}
use Rattle.sap_formula.specs.Cost.{form_cost}
use Rattle.sap_judge.specs.Laws.{OneVerdictLaw, SomeVerdictLaw, DecidedLaw}
use Rattle.sap_formula.specs.Truth.{IsTrueOn}
use Rattle.sap_judge.specs.Verdict.{IsVerdict}
use Rattle.sap_judge.specs.code.Answer.{PlanLaw}
use Rattle.sap_judge.specs.code.Folded.{judged}
use Rattle.sap_judge.specs.declared.verdict.TheConstants.{MOST_COST}
use Rattle.sap_judge.specs.declared.verdict.Verdict.{Verdict}
use Rattle.sap_judge.specs.declared.verdict.Verdict.TheVariants.{Holds, Fails, TooCostly}

not_both : (c m : ℕ) → c ≤ m → m < c → ⊥
not_both c m h k = omega arith

pub one_verdict : OneVerdictLaw
one_verdict g f tr Holds Holds h k = refl
one_verdict g f tr Holds Fails h k = absurd (k.1 h.1)
one_verdict g f tr Holds (TooCostly n) h k = absurd (not_both (form_cost tr f) MOST_COST h.0 k.0)
one_verdict g f tr Fails Holds h k = absurd (h.1 k.1)
one_verdict g f tr Fails Fails h k = refl
one_verdict g f tr Fails (TooCostly n) h k = absurd (not_both (form_cost tr f) MOST_COST h.0 k.0)
one_verdict g f tr (TooCostly m) Holds h k = absurd (not_both (form_cost tr f) MOST_COST k.0 h.0)
one_verdict g f tr (TooCostly m) Fails h k = absurd (not_both (form_cost tr f) MOST_COST k.0 h.0)
one_verdict g f tr (TooCostly m) (TooCostly n) h k = ap TooCostly (h.1 ∙ sym k.1)

pub some_verdict : PlanLaw → SomeVerdictLaw
some_verdict w g f tr m c = by (cases_lt MOST_COST (form_cost tr f)) where
  -- what the judge's search says
  found : form_cost tr f ≤ MOST_COST → (b : Bool) → judged f tr ≡ b → (v : Verdict) × IsVerdict g f tr v
  found low true e = (Holds, (low, (w g f tr m c).0 e))
  found low false e = (Fails, (low, λ h. let yes = (w g f tr m c).1 h in absurd (cc)))

  by : (MOST_COST < form_cost tr f) ⊎ (form_cost tr f ≤ MOST_COST) → (v : Verdict) × IsVerdict g f tr v
  by (inl high) = (TooCostly (min (form_cost tr f) (2 ^ 64 - 1)), (high, refl))
  by (inr low) = found low (judged f tr) refl

pub decided : PlanLaw → DecidedLaw
decided w g f tr m c = by (judged f tr) refl where
  by : (b : Bool) → judged f tr ≡ b → IsTrueOn g f tr ⊎ (IsTrueOn g f tr → ⊥)
  by true e = inl ((w g f tr m c).0 e)
  by false e = inr (λ h. let yes = (w g f tr m c).1 h in absurd (cc))
