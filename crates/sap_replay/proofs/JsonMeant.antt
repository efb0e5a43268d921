-- What is written as JSON, and of JSON, is read as the run that it is.
use Rattle.std.proofs.Common.{◌≡◌, ◌≤◌, ℕ, List, length, Result, Ok, refl, sym, subst}
use Rattle.sap_runs.specs.declared.process_step.PStep.{PStep}
use Rattle.sap_runs.specs.declared.rule_step.RStep.{RStep}
use Rattle.sap_run_lines.specs.Spellable.{IsWritableProcess, IsWritableRule}
use Rattle.sap_run_texts.specs.RunPrinted.{Each, process_run_text, rule_run_text}
use Rattle.sap_run_texts.specs.RunTexts.{IsBody, all_steps, bad_line, too_many, IsText, headed, headless, IsProcessRunText, IsRuleRunText, IsRunRead, told_process, told_rules}
use Rattle.sap_run_texts.specs.declared.limits.TheConstants.{MOST_PROCESS_STEPS, MOST_RULE_STEPS}
use Rattle.sap_run_texts.specs.declared.run.Kinds.TheVariants.{Either}
use Rattle.sap_run_texts.specs.declared.run.Run.{Run}
use Rattle.sap_run_texts.specs.declared.run.Run.TheVariants as run
use Rattle.sap_run_texts.specs.declared.run_fault.RunFault.{RunFault}
use Rattle.sap_json.specs.RunValues as values
use Rattle.sap_json.specs.RunValues.{IsJsonRead, not_json, not_run, of_process, of_rules}
use Rattle.sap_json.specs.Written.{json_text, CanBeWritten, HasFewSteps}
use Rattle.sap_json.specs.declared.json_fault.JsonFault.{JsonFault}
use Rattle.sap_outside.specs.RunPieces.{IsRunAnswer}
use Rattle.sap_replay.specs.JsonRuns.{run_text, IsJsonOf, IsReadAsJson, IsRunOfJson, IsReadAsRun}
use Rattle.sap_replay.proofs.Written.{process_text_of_answer, text_of_answer}

-- what is so of runs as JSON and of their texts
pub record Laws : Type 0 where
  pub written : (r : Run) → CanBeWritten r → HasFewSteps r → IsJsonRead (json_text r) (Ok r)
  pub json_writable : (z : List ℕ) (r : Run) → IsJsonRead z (Ok r) → CanBeWritten r
  pub process_writable : (z : List ℕ) (ss : List PStep) → IsProcessRunText z (Ok ss) → Each IsWritableProcess ss
  pub rule_writable : (z : List ℕ) (ss : List RStep) → IsRuleRunText z (Ok ss) → Each IsWritableRule ss
  pub process_printed : (ss : List PStep) → Each IsWritableProcess ss → length ss ≤ MOST_PROCESS_STEPS → IsProcessRunText (process_run_text ss) (Ok ss)
  pub rule_printed : (ss : List RStep) → Each IsWritableRule ss → length ss ≤ MOST_RULE_STEPS → IsRuleRunText (rule_run_text ss) (Ok ss)

-- a text that is read has no more steps than it may have
few_of_body : {A : Type 0} (IsLine : A → List ℕ → Type 0) (most : ℕ) (body : List ℕ) (o : Result (List A) RunFault) (ss : List A) → IsBody IsLine most body o → o ≡ Ok ss → length ss ≤ most
few_of_body IsLine most _ _ ss (all_steps {ss = xs} are few) e = let same : xs ≡ ss = cc in subst (λ (x : List _). length x ≤ most) same few
few_of_body IsLine most _ _ ss (bad_line are few bad) e = absurd (cc)
few_of_body IsLine most _ _ ss (too_many z are full more) e = absurd (cc)

few_of_text : {A : Type 0} (head : List ℕ) (IsLine : A → List ℕ → Type 0) (most : ℕ) (z : List ℕ) (o : Result (List A) RunFault) (ss : List A) → IsText head IsLine most z o → o ≡ Ok ss → length ss ≤ most
few_of_text head IsLine most z o ss (headed {body = body} h b) e = few_of_body IsLine most body o ss b e
few_of_text head IsLine most z _ ss (headless h) e = absurd (cc)

-- so has JSON that is read
few_of_json : (z : List ℕ) (o : Result Run JsonFault) (r : Run) → IsJsonRead z o → o ≡ Ok r → HasFewSteps r
few_of_json z _ r (not_json none) e = absurd (cc)
few_of_json z _ r (not_run d v none) e = absurd (cc)
few_of_json z _ r (of_process ds v (values.all_steps {ss = ss} are few)) e = let same : run.Process ss ≡ r = cc in subst HasFewSteps same few
few_of_json z _ r (of_process ds v (values.bad_step ss good d more apart are few none)) e = absurd (cc)
few_of_json z _ r (of_process ds v (values.too_many ss good d more apart are full)) e = absurd (cc)
few_of_json z _ r (of_rules ds v (values.all_steps {ss = ss} are few)) e = let same : run.Rules ss ≡ r = cc in subst HasFewSteps same few
few_of_json z _ r (of_rules ds v (values.bad_step ss good d more apart are few none)) e = absurd (cc)
few_of_json z _ r (of_rules ds v (values.too_many ss good d more apart are full)) e = absurd (cc)

module _ (laws : Laws) where
  -- a run that was read is what its JSON is read as
  back : (z : List ℕ) (r : Run) → IsRunAnswer Either z (Ok r) → IsJsonRead (json_text r) (Ok r)
  back z (run.Process ss) answer =
      let text = process_text_of_answer Either z ss answer in
      laws.written (run.Process ss) (laws.process_writable z ss text) (few_of_text _ _ MOST_PROCESS_STEPS z (Ok ss) ss text refl)
  back z (run.Rules ss) answer =
      let text = text_of_answer Either z ss answer in
      laws.written (run.Rules ss) (laws.rule_writable z ss text) (few_of_text _ _ MOST_RULE_STEPS z (Ok ss) ss text refl)

  pub json_is_read : (z text : List ℕ) → IsJsonOf z text → IsReadAsJson z text
  json_is_read z text t =
      record { lines = t.lines; read = t.read; back = subst (λ (y : List ℕ). IsJsonRead y (Ok t.lines)) (sym t.layout) (back z t.lines t.read) }

  -- a run that JSON is, is what its text is read as
  forth : (r : Run) → CanBeWritten r → HasFewSteps r → IsRunRead Either (run_text r) (Ok r)
  forth (run.Process ss) can few = told_process refl (laws.process_printed ss can few)
  forth (run.Rules ss) can few = told_rules refl (laws.rule_printed ss can few)

  pub run_is_read : (bytes text : List ℕ) → IsRunOfJson bytes text → IsReadAsRun bytes text
  run_is_read bytes text t =
      let can = laws.json_writable bytes t.lines t.accepted.read in
      let few = few_of_json bytes (Ok t.lines) t.lines t.accepted.read refl in
      record { lines = t.lines; accepted = t.accepted; back = subst (λ (y : List ℕ). IsRunRead Either y (Ok t.lines)) (sym t.layout) (forth t.lines can few) }
