-- What a legal run shows is a trace of the process, and what is found of its restrictions says whether it counts.
use Rattle.std.proofs.Common.{◌≡◌, ℕ, zero, suc, List, [], ◌∷◌, Some, map, slice_get, subst, sym, ◌∙◌}
use Rattle.std.specs.Prelude.{◌↔◌}
use Rattle.sap_formula.specs.Form.{Form, LemmaForm, RestrictionForm}
use Rattle.sap_formula.specs.HoldsOf.{AreTrueOn}
use Rattle.sap_formula.specs.Truth.{EachIn}
use Rattle.sap_judge.specs.Verdict.{IsVerdict}
use Rattle.sap_judge.specs.declared.verdict.Verdict.{Verdict}
use Rattle.sap_lines.specs.Runs.{ProcessLinesAreRuns}
use Rattle.sap_process.specs.Proc.{Proc}
use Rattle.sap_process.specs.ProcessSteps.{IsProcessTrace}
use Rattle.sap_runs.specs.Limits.{HasFewNodes}
use Rattle.sap_terms.specs.Signature.{Sig}
use Rattle.sap_terms.specs.Trace.{Trace}
use Rattle.sap_verdicts.specs.Findings.{AreFound, Found, IsFound, Stated, all_stated}
use Rattle.sap_verdicts.specs.Modes.{CountsAsRun, FindingsDecide, IsShown, OneRunDecides}
use Rattle.sap_verdicts.specs.Standing.{IsKept}
use Rattle.sap_verdicts.proofs.Standings.{counts}

shows : ProcessLinesAreRuns HasFewNodes → (g : Sig) (p : Proc) (tr : Trace) → IsShown g p tr → IsProcessTrace g p tr
shows w g p tr r = (r.config, (w g p r.lines r.config r.entries tr r.marks r.legal).0)

pub decides : ProcessLinesAreRuns HasFewNodes → OneRunDecides
decides w = record {
  all_traces = λ g p us tr f r n h. n (h tr (shows w g p tr r.shown) r.counts);
  exists_trace = λ g p us tr f r t. (tr, shows w g p tr r.shown, r.counts, t);
}

-- where restrictions hold, they are true
true_where_kept : (g : Sig) (tr : Trace) (rs : List RestrictionForm) (ls : List LemmaForm) (ys : List Found) → AreFound g tr (all_stated rs ls) ys → EachIn IsKept ys
    → AreTrueOn g (map (λ (r : RestrictionForm). r.formula) rs) tr
true_where_kept g tr [] ls ys a k = tt
true_where_kept g tr (r ∷ rs) ls [] a k = absurd a
true_where_kept g tr (r ∷ rs) ls (y ∷ ys) a k =
    ((subst (λ (v : Verdict). IsVerdict g r.formula tr v) (k.0 a.0.what) a.0.verdict).1, true_where_kept g tr rs ls ys a.1 k.1)

-- what is found at an index is found of the formula there
found_at : (g : Sig) (tr : Trace) (xs : List Stated) (ys : List Found) (k : ℕ) (x : Stated) (y : Found) → AreFound g tr xs ys → slice_get xs k ≡ Some x → slice_get ys k ≡ Some y
    → IsFound g tr x y
found_at g tr [] ys k x y a h e = cc
found_at g tr (z ∷ xs) [] k x y a h e = absurd a
found_at g tr (z ∷ xs) (w ∷ ys) zero x y a h e =
    let same : z ≡ x = cc in
    let other : w ≡ y = cc in
    subst (λ v. IsFound g tr v y) same (subst (λ v. IsFound g tr z v) other a.0)
found_at g tr (z ∷ xs) (w ∷ ys) (suc k) x y a h e = found_at g tr xs ys k x y a.1 h e

pub findings_decide : ProcessLinesAreRuns HasFewNodes → FindingsDecide
findings_decide w = record {
  all_traces = λ g p rs ls tr ys shown are is k x y at there what fails holds.
      let here = found_at g tr (all_stated rs ls) ys k x y are at there in
      (decides w).all_traces g p (map (λ (r : RestrictionForm). r.formula) rs) tr x.formula
      (record { shown = shown; counts = true_where_kept g tr rs ls ys are ((counts ys).0 is) })
      (subst (λ (v : Verdict). IsVerdict g x.formula tr v) fails here.verdict).1 holds;
  exists_trace = λ g p rs ls tr ys shown are is k x y at there what holds.
      let here = found_at g tr (all_stated rs ls) ys k x y are at there in
      (decides w).exists_trace g p (map (λ (r : RestrictionForm). r.formula) rs) tr x.formula
      (record { shown = shown; counts = true_where_kept g tr rs ls ys are ((counts ys).0 is) })
      (subst (λ (v : Verdict). IsVerdict g x.formula tr v) holds here.verdict).1;
}
