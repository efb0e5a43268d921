-- One fault counts.
use Rattle.std.proofs.Common.{◌≡◌, ◌<◌, ◌≤◌, ℕ, [], Some, sym, ap, ◌∙◌, arith, subst, inl, inr}
use Rattle.std.specs.Prelude.{◌⊎◌, slice_get}
use Rattle.std.proofs.lemmas.Bool.{cases_lt}
use Rattle.sap_formula.specs.Faults.{IsFirstFault, rank}
use Rattle.sap_formula.specs.Laws.{OneFaultLaw, NoFaultLaw}
use Rattle.sap_formula.specs.Parts.{form_parts, part_name}
use Rattle.sap_formula.specs.declared.fault.FormulaFlaw.{FormulaFlaw}
use Rattle.sap_formula.proofs.Counting.{ranked, ranked-rank}

-- of two numbers that are not one before the other they are the same
same_number : (a b : ℕ) → ¬ (a < b) → ¬ (b < a) → a ≡ b
same_number a b h k = by (cases_lt a b) (cases_lt b a) where
  by : (a < b) ⊎ (b ≤ a) → (b < a) ⊎ (a ≤ b) → a ≡ b
  by (inl l) y = absurd (h l)
  by (inr x) (inl l) = absurd (k l)
  by (inr x) (inr y) = omega arith

one_rank : (w v : FormulaFlaw) → rank w ≡ rank v → w ≡ v
one_rank w v e = sym (ranked-rank w) ∙ ap ranked e ∙ ranked-rank v

pub one_fault : OneFaultLaw
one_fault g r p w v name other f h = at_one (one_rank w v (same_number (rank w) (rank v) (λ l. h.least w l f.at f.here) (λ l. f.least v l h.at h.here))) h
  where
    time_is : (k : IsFirstFault g r p w other) → f.at ≡ k.at
    time_is k = same_number f.at k.at (λ l. k.first f.at l f.here) (λ l. f.first k.at l k.here)

    part_is : (k : IsFirstFault g r p w other) → f.here.part ≡ k.here.part
    part_is k =
        let same : Some f.here.part ≡ Some k.here.part = sym f.here.stands ∙ ap (slice_get (form_parts [] p)) (time_is k) ∙ k.here.stands in
        cc

    at_one : w ≡ v → IsFirstFault g r p v other → (w ≡ v) × (name ≡ other)
    at_one e k = let here : IsFirstFault g r p w other = subst (λ u. IsFirstFault g r p u other) (sym e) k in
        (e, sym f.name_is ∙ ap part_name (part_is here) ∙ here.name_is)

-- a formula with a fault isn't faultless
pub no_fault_left : NoFaultLaw
no_fault_left g r p w name f none = none w f.at f.here
