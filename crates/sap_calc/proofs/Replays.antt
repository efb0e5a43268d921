-- Lines that are done one after the other are a legal run.
use Rattle.std.proofs.Common.{◌≡◌, List, [], ◌∷◌, ◌++◌, refl, sym, subst, ◌∙◌}
use Rattle.sap_terms.specs.Trace.{Trace, shown}
use Rattle.sap_terms.specs.declared.fact.Fact.{Fact}
use Rattle.sap_deduce.specs.Entries.{Entry, terms_of}
use Rattle.sap_process.specs.Configuration.{initial}
use Rattle.sap_process.specs.Proc.{Proc}
use Rattle.sap_runs.specs.Limits.{HasFewNodes}
use Rattle.sap_runs.specs.Marks.{marks_of}
use Rattle.sap_runs.specs.declared.process_step.PStep.{PStep}
use Rattle.sap_lines.specs.Lines.{IsProcessLine}
use Rattle.sap_lines.specs.Runs.{IsLegalProcessRun, starts, further}
use Rattle.sap_calc.specs.Running.{Running, configuration, IsDone}
use Rattle.sap_calc.specs.Replays.{AreDone, none_yet, one_more, IsReplayed}

module _ (p : Proc) (r : Running) (known : r.known ≡ []) (first : configuration r ≡ initial p) where
  begins : IsReplayed r.sig p [] r []
  begins = record {
    marks = [];
    run =
        subst (λ c. IsLegalProcessRun r.sig HasFewNodes p [] c (terms_of r.known) [] []) (sym first)
        (subst (λ (es : List Entry). IsLegalProcessRun r.sig HasFewNodes p [] (initial p) (terms_of es) [] []) (sym known) starts);
    sig = refl;
  }

  continues : (lines : List PStep) (y z : Running) (tr : Trace) (step : PStep) (label : List Fact) → IsReplayed r.sig p lines y tr → IsDone y z step label → IsReplayed r.sig p (lines ++ step ∷ []) z (tr ++ shown label)
  continues lines y z tr step label i d = record {
    marks = i.marks ++ marks_of d.inner label;
    run = further step d.inner label i.run (subst (λ g. IsProcessLine g HasFewNodes (configuration y) (terms_of y.known) step d.inner label (configuration z) (terms_of z.known)) i.sig d.line);
    sig = d.sig ∙ i.sig;
  }

  pub replayed : {lines : List PStep} {z : Running} {tr : Trace} → AreDone r lines z tr → IsReplayed r.sig p lines z tr
  replayed none_yet = begins
  replayed (one_more step label before d) = continues _ _ _ _ step label (replayed before) d
