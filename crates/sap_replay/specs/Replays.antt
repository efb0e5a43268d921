-- What is written of a run, and what that means.
use Rattle.std.specs.Prelude.{◌≡◌, ◌≤◌, ◌↔◌, ℕ, List, length, Ok, Contains, All}
use Rattle.sap_back.specs.Converted as back
use Rattle.sap_forward.specs.Converted as forward
use Rattle.sap_formula.specs.Hide.{hide}
use Rattle.sap_lines.specs.Runs.{IsLegalProcessRun}
use Rattle.sap_process.specs.Configuration.{Config}
use Rattle.sap_read.specs.Files.{FileContent}
use Rattle.sap_restrict.specs.Standard.{IsAdmitted}
use Rattle.sap_rule.specs.RuleSteps.{RuleState}
use Rattle.sap_rule.specs.declared.theory.Theory.{Theory}
use Rattle.sap_run_lines.specs.StepLines.{process_words, rule_words}
use Rattle.sap_run_texts.specs.RunPrinted.{Each, process_run_text, rule_run_text}
use Rattle.sap_run_texts.specs.RunTexts.{IsProcessRunText, IsRuleRunText}
use Rattle.sap_run_texts.specs.Writable.{AreNumbered}
use Rattle.sap_run_texts.specs.declared.limits.TheConstants.{MOST_PROCESS_STEPS, MOST_RULE_STEPS}
use Rattle.sap_json.specs.Written.{HasFewSteps}
use Rattle.sap_run_texts.specs.declared.run.Kinds.TheVariants.{Either}
use Rattle.sap_run_texts.specs.declared.run.Run.{Run}
use Rattle.sap_run_texts.specs.declared.run.Run.TheVariants as run
use Rattle.sap_runs.specs.Limits.{HasFewNodes}
use Rattle.sap_runs.specs.Marks.{Mark}
use Rattle.sap_runs.specs.declared.process_step.PStep.{PStep}
use Rattle.sap_runs.specs.declared.rule_step.RStep.{RStep}
use Rattle.sap_steps.specs.Marks.{marks}
use Rattle.sap_steps.specs.Runs.{IsLegalRun}
use Rattle.sap_terms.specs.Trace.{Trace}
use Rattle.sap_terms.specs.Tree.{Tree}
use Rattle.sap_gen.specs.Kept.{file_theory}
use Rattle.sap_outside.specs.RunPieces.{IsRunAnswer, most_run_bytes}
use Rattle.sap_replay.specs.Verdicts.{all_judged, AreVerdicts}
use Rattle.sap_formula.specs.Form.{LemmaForm, RestrictionForm}
use Rattle.sap_formula.specs.Laws.{IsClosed}
use Rattle.sap_formula.specs.Truth.{EachIn}
use Rattle.sap_rule.specs.WellMade.{IsWellMade}

-- the text is that of a run opposite, of the other kind
pub data IsConvertedText (f : FileContent) : Run → List ℕ → Type 0 where
  -- of the lines that are written, the numbers that their words write are of 64 bits, those in the terms of bindings apart
  to_rules : {lines : List PStep} (rule_lines : List RStep)
      → forward.IsConvertedToRules f.signature f.process lines rule_lines
      → Each (λ line. AreNumbered (rule_words line)) rule_lines
      → IsConvertedText f (run.Process lines) (rule_run_text rule_lines)
  to_process : {rule_lines : List RStep} (lines : List PStep)
      → back.IsConvertedToProcess f.signature f.process rule_lines lines
      → Each (λ line. AreNumbered (process_words line)) lines
      → IsConvertedText f (run.Rules rule_lines) (process_run_text lines)

-- the run is legal within the limit, and this is its visible trace
pub data IsSeen (f : FileContent) : Run → Trace → Type 0 where
  of_process : {lines : List PStep} {tr : Trace}
      → forward.IsShownByLines f.signature f.process lines tr → IsSeen f (run.Process lines) tr
  of_rules : {lines : List RStep} (s : RuleState) (full : Trace)
      → back.IsAdmittedRun f.signature f.process lines s full
      → IsSeen f (run.Rules lines) (hide full)

-- the text says of each restriction and lemma of the file whether it is true on the visible trace of the run
pub record IsJudgedText (f : FileContent) (r : Run) (text : List ℕ) : Type 0 where
  pub trace : Trace
  pub seen : IsSeen f r trace
  pub verdicts : AreVerdicts f.signature trace (all_judged f.restrictions f.lemmas) text

-- the run is one of the theory's rules, legal within the limit, and this is its full trace
pub data IsFullOf (t : Theory) : Run → Trace → Type 0 where
  of_theory : {lines : List RStep} {full : Trace} (s : RuleState)
      → IsLegalRun t.signature t.rules HasFewNodes lines s full → IsFullOf t (run.Rules lines) full

-- the text says of each restriction and lemma of the theory whether it is true on the full trace of the run
pub record IsCheckedText (t : Theory) (r : Run) (text : List ℕ) : Type 0 where
  pub full : Trace
  pub shown : IsFullOf t r full
  pub verdicts : AreVerdicts t.signature full (all_judged t.restrictions t.lemmas) text

-- the theory's rules can be run, and its formulas are closed
pub record IsCheckable (t : Theory) : Type 0 where
  pub made : All (IsWellMade t.signature) t.rules
  pub restrictions : EachIn (λ (r : RestrictionForm). IsClosed t.signature r.formula) t.restrictions
  pub lemmas : EachIn (λ (l : LemmaForm). IsClosed t.signature l.formula) t.lemmas

-- A run of the file's process and one of the rules of its theory are both legal within the limit on terms, and the full trace of the
-- second counts. What the first shows is what is seen of the second, they have the same marks, which are the same inner actions and
-- events in order, and what the adversary knows behind the second is among its entries behind the first.
pub record AreOpposite (f : FileContent) (lines : List PStep)
    (rule_lines : List RStep) : Type 0 where
  pub theory : Theory
  pub compiled : theory ≡ file_theory f
  pub config : Config
  pub entries : List Tree
  pub trace : Trace
  pub marks_of_both : List Mark
  pub legal : IsLegalProcessRun f.signature HasFewNodes f.process lines config entries trace marks_of_both
  pub state : RuleState
  pub full : Trace
  pub legal_rules : IsLegalRun theory.signature theory.rules HasFewNodes rule_lines state full
  pub admitted : IsAdmitted theory.signature full
  pub shows : hide full ≡ trace
  pub marked : marks full ≡ marks_of_both
  pub known : (t : Tree) → Contains state.known t → Contains entries t

-- of both runs the same text says whether each restriction and lemma of the file is true
abbrev pub AreJudgedAlike : FileContent → Run → Run → Type 0
AreJudgedAlike f r other = (text : List ℕ) → IsJudgedText f r text ↔ IsJudgedText f other text

-- The text is that of a run that is opposite to the one that was read, and of both the same is said. Of a run of rules it is the run of
-- the process that the lines are converted to, which is one. It is read as this run, unless that has more steps than a run that is read
-- may have.
pub data IsOppositeText (f : FileContent) : Run → List ℕ → Type 0 where
  rules_of_process : {lines : List PStep} (rule_lines : List RStep) → AreOpposite f lines rule_lines
      → AreJudgedAlike f (run.Process lines) (run.Rules rule_lines)
      → (length rule_lines ≤ MOST_RULE_STEPS → IsRuleRunText (rule_run_text rule_lines) (Ok rule_lines))
      → IsOppositeText f (run.Process lines) (rule_run_text rule_lines)
  process_of_rules : {rule_lines : List RStep} (lines : List PStep) → AreOpposite f lines rule_lines
      → back.IsConvertedToProcess f.signature f.process rule_lines lines
      → AreJudgedAlike f (run.Rules rule_lines) (run.Process lines)
      → (length lines ≤ MOST_PROCESS_STEPS → IsProcessRunText (process_run_text lines) (Ok lines))
      → IsOppositeText f (run.Rules rule_lines) (process_run_text lines)

-- The text is that of some run, of which is said what is said of this one, and where it has few enough steps and bytes, it is read as
-- that run.
pub record IsJudgedAlike (f : FileContent) (r : Run) (text : List ℕ) : Type 0 where
  pub other : Run
  pub alike : AreJudgedAlike f r other
  pub read : HasFewSteps other → length text ≤ most_run_bytes → IsRunAnswer Either text (Ok other)
