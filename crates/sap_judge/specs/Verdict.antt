-- What the judge answers.
use Rattle.std.specs.Prelude.{◌≡◌, ◌<◌, ◌≤◌, ◌-◌, ◌^◌, min}
use Rattle.sap_formula.specs.Cost.{form_cost}
use Rattle.sap_formula.specs.Form.{Form}
use Rattle.sap_formula.specs.Truth.{IsTrueOn}
use Rattle.sap_judge.specs.declared.verdict.TheConstants.{MOST_COST}
use Rattle.sap_judge.specs.declared.verdict.Verdict.{Verdict}
use Rattle.sap_judge.specs.declared.verdict.Verdict.TheVariants.{Holds, Fails, TooCostly}
use Rattle.sap_terms.specs.Signature.{Sig}
use Rattle.sap_terms.specs.Trace.{Trace}

-- too costly above the limit, by the cost as far as it fits; else true or not true
abbrev pub IsVerdict : Sig → Form → Trace → Verdict → Type 0
IsVerdict g f tr Holds = (form_cost tr f ≤ MOST_COST) × IsTrueOn g f tr
IsVerdict g f tr Fails = (form_cost tr f ≤ MOST_COST) × (IsTrueOn g f tr → ⊥)
IsVerdict g f tr (TooCostly c) = (MOST_COST < form_cost tr f)
    × (c ≡ min (form_cost tr f) (2 ^ 64 - 1))
