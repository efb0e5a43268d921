-- What is written, told and drawn of a run of rules is one run of the process.
use Rattle.std.proofs.Common.{◌≡◌, ℕ, List, refl, sym, ap, ◌∙◌}
use Rattle.sap_runs.specs.declared.process_step.PStep.{PStep}
use Rattle.sap_runs.specs.declared.rule_step.RStep.{RStep}
use Rattle.sap_run_texts.specs.declared.run.Run.TheVariants as run
use Rattle.sap_run_texts.specs.RunPrinted.{process_run_text}
use Rattle.sap_read.specs.Files.{FileContent}
use Rattle.sap_back.specs.Converted as back
use Rattle.sap_replay.specs.Replays.{IsOppositeText, process_of_rules}
use Rattle.sap_replay.specs.ToldRuns.{AreOwnOrOpposite, IsToldOf, IsDrawnOf, opposite}

-- the lines of a text that is written of lines of rules
record IsOfLines (f : FileContent) (rule_lines : List RStep) (text : List ℕ) : Type 0 where
  lines : List PStep
  converted : back.IsConvertedToProcess f.signature f.process rule_lines lines
  layout : text ≡ process_run_text lines

module _ (f : FileContent) (rule_lines : List RStep) where
  of_lines : (text : List ℕ) → IsOppositeText f (run.Rules rule_lines) text → IsOfLines f rule_lines text
  of_lines _ (process_of_rules lines legal converted alike read) = record { lines = lines; converted = converted; layout = refl }

  converted_to : (lines : List PStep) → AreOwnOrOpposite f (run.Rules rule_lines) lines → back.IsConvertedToProcess f.signature f.process rule_lines lines
  converted_to _ (opposite lines o c) = c

  module _ (one : (lines others : List PStep) → back.IsConvertedToProcess f.signature f.process rule_lines lines → back.IsConvertedToProcess f.signature f.process rule_lines others → lines ≡ others) where
    -- lines that are told or drawn are those that are written
    these_lines : (text : List ℕ) (lines : List PStep) → IsOppositeText f (run.Rules rule_lines) text → AreOwnOrOpposite f (run.Rules rule_lines) lines → text ≡ process_run_text lines
    these_lines text lines w of_run = let t = of_lines text w in t.layout ∙ ap process_run_text (one t.lines lines t.converted (converted_to lines of_run))

    pub one_text : (text other : List ℕ) → IsOppositeText f (run.Rules rule_lines) text → IsOppositeText f (run.Rules rule_lines) other → text ≡ other
    one_text text other w v =
        let t = of_lines text w in
        let u = of_lines other v in
        t.layout ∙ ap process_run_text (one t.lines u.lines t.converted u.converted) ∙ sym u.layout

    pub told_lines : (bytes text other : List ℕ) → IsOppositeText f (run.Rules rule_lines) text → (t : IsToldOf bytes f (run.Rules rule_lines) other) → text ≡ process_run_text t.lines
    told_lines bytes text other w t = these_lines text t.lines w t.of_run

    pub drawn_lines : (bytes text other : List ℕ) → IsOppositeText f (run.Rules rule_lines) text → (t : IsDrawnOf bytes f (run.Rules rule_lines) other) → text ≡ process_run_text t.lines
    drawn_lines bytes text other w t = these_lines text t.lines w t.of_run
