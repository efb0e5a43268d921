-- No lines make the first refused step possible, and a step that none make possible is refused.
use Rattle.std.proofs.Common.{◌≡◌, ◌+◌, ℕ, List, [], ◌∷◌, ◌++◌, length, refl, sym, ap, subst, ◌∙◌, arith, inl, inr}
use Rattle.std.specs.Prelude.{All, Contains}
use Rattle.std.proofs.lemmas.List.{length-append}
use Rattle.std.proofs.lemmas.List.Elements.{All-weaker, All-contains, All-contains_itself, Contains-append_left}
use Rattle.sap_terms.specs.Signature.{Sig, HoldsBuiltins}
use Rattle.sap_terms.specs.Trace.{Trace}
use Rattle.sap_process.specs.Configuration.{Config}
use Rattle.sap_process.specs.Proc.{Proc}
use Rattle.sap_process.specs.Ready.{IsReady}
use Rattle.sap_runs.specs.Limits.{HasFewNodes}
use Rattle.sap_runs.specs.Marks.{Mark}
use Rattle.sap_runs.specs.Short.{IsShortStep}
use Rattle.sap_runs.specs.declared.short_step.SStep.{SStep}
use Rattle.sap_intruder.specs.FilledRuns.{FilledRunsAreLegal, SmallShortRunsCanBeFilled}
use Rattle.sap_intruder.specs.NeverFilled.{CanBeFilled, IsFirstUnfilled, RefusedStepsCannotBeFilled}
use Rattle.sap_intruder.specs.OneAnswer.{IsFirstRefusedOfShort, LegalShortRunsAreNotRefused}
use Rattle.sap_intruder.specs.Refusals.{IsShortRefused}
use Rattle.sap_intruder.specs.ShortRuns.{IsLegalShortRun}
use Rattle.sap_intruder.specs.SomeAnswer.{ShortRunsHaveSomeAnswer}
use Rattle.sap_intruder.specs.declared.fill_fault.FillFault.{FillFault}
use Rattle.sap_intruder.proofs.OneRun.{Cuts, one_cut, first_before, second_before, cuts}

-- what holds of each step holds of each before one, and of these with that
first_part : (P : SStep → Type 0) (run part rest : List SStep) → run ≡ part ++ rest → All P run → All P part
first_part P run part rest is all =
    All-weaker (Contains part) P (λ s m. All-contains P run s all (subst (λ (ss : List SStep). Contains ss s) (sym is) (Contains-append_left part rest s m))) part (All-contains_itself part)

append_one : (xs ys : List SStep) (x : SStep) → xs ++ x ∷ ys ≡ (xs ++ x ∷ []) ++ ys
append_one [] ys x = refl
append_one (y ∷ xs) ys x = ap (λ zs. y ∷ zs) (append_one xs ys x)

module _ (legal : FilledRunsAreLegal HasFewNodes) (small : SmallShortRunsCanBeFilled) (apart : LegalShortRunsAreNotRefused) (some : ShortRunsHaveSomeAnswer)
    (g : Sig) (p : Proc) (run : List SStep) (number : ℕ) (hold : HoldsBuiltins g) (ready : IsReady g p) (steps : All IsShortStep run) where
  -- what is filled isn't refused
  not_refused : (ss : List SStep) (n : ℕ) (fault : FillFault) → CanBeFilled g p ss → IsFirstRefusedOfShort g p ss n fault → ⊥
  not_refused ss n fault (lines, c, es, tr, marks, is) r = apart g p ss c tr marks n fault hold ready (legal g p ss lines c es tr marks is).1 r

  can_be_filled : (ss : List SStep) (c : Config) (tr : Trace) (marks : List Mark) → All IsShortStep ss → IsLegalShortRun g HasFewNodes p ss c tr marks → CanBeFilled g p ss
  can_be_filled ss c tr marks stand l = let f = small g p ss c tr marks hold stand l in (f.0, c, f.1, tr, marks, f.2)

  unfilled : (fault : FillFault) → IsFirstRefusedOfShort g p run number fault → IsFirstUnfilled g p run number
  unfilled fault r = record {
    before = r.before;
    step = r.step;
    after = r.after;
    cut = r.cut;
    counts = r.counts;
    filled = can_be_filled r.before r.config r.trace r.marks (first_part IsShortStep run r.before (r.step ∷ r.after) r.cut steps) r.legal;
    never = λ f. not_refused (r.before ++ r.step ∷ []) number fault f
        (record { before = r.before; step = r.step; after = []; cut = refl; counts = r.counts; config = r.config; trace = r.trace; marks = r.marks; legal = r.legal; refused = r.refused });
  }

  module _ (u : IsFirstUnfilled g p run number) where
    -- the step that is refused is this one
    refused_there : (n : ℕ) (fault : FillFault) → (r : IsFirstRefusedOfShort g p (u.before ++ u.step ∷ []) n fault) → Cuts u.before r.before u.step r.step → (e : FillFault) × IsFirstRefusedOfShort g p run number e
    refused_there n fault r (one_cut same one) = (
      fault,
      record {
        before = u.before;
        step = u.step;
        after = u.after;
        cut = u.cut;
        counts = u.counts;
        config = r.config;
        trace = r.trace;
        marks = r.marks;
        legal = subst (λ (ss : List SStep). IsLegalShortRun g HasFewNodes p ss r.config r.trace r.marks) (sym same) r.legal;
        refused = subst (λ (s : SStep). IsShortRefused g r.config s fault) (sym one) r.refused;
      },
    )
    refused_there n fault r (first_before rest is) =
        let whole = ap length r.cut in
        let a = length-append u.before (u.step ∷ []) in
        let b = length-append r.before (r.step ∷ r.after) in
        let c = length-append u.before (u.step ∷ rest) in
        let d = ap length is in
        absurd (omega (arith, whole, a, b, c, d))
    refused_there n fault r (second_before rest is) = absurd (not_refused u.before n fault u.filled
        (record { before = r.before; step = r.step; after = rest; cut = is; counts = r.counts; config = r.config; trace = r.trace; marks = r.marks; legal = r.legal; refused = r.refused }))

    stand : All IsShortStep (u.before ++ u.step ∷ [])
    stand = first_part IsShortStep run (u.before ++ u.step ∷ []) u.after (u.cut ∙ append_one u.before u.after u.step) steps

    refused : (e : FillFault) × IsFirstRefusedOfShort g p run number e
    refused = elim (some g p (u.before ++ u.step ∷ []) hold ready stand) [
      | inl l ↦ absurd (u.never (can_be_filled (u.before ++ u.step ∷ []) l.0 l.1 l.2 stand l.3))
      | inr r ↦ refused_there r.0 r.1 r.2 (cuts u.before r.2.before u.step r.2.step [] r.2.after r.2.cut)
    ]

pub refused_steps_cannot_be_filled : FilledRunsAreLegal HasFewNodes → SmallShortRunsCanBeFilled → LegalShortRunsAreNotRefused → ShortRunsHaveSomeAnswer → RefusedStepsCannotBeFilled
refused_steps_cannot_be_filled legal small apart some g p ss number hold ready steps = (
  λ r. unfilled legal small apart some g p ss number hold ready steps r.0 r.1,
  λ u. refused legal small apart some g p ss number hold ready steps u,
)
