-- Runs as JSON: which are accepted, why other bytes are refused, what is written of runs and of JSON, and what that means.
use Rattle.std.specs.Prelude.{◌≡◌, ◌<◌, ◌≤◌, ℕ, List, length, Ok, Err}
use Rattle.sap_run_texts.specs.RunTexts.{IsRunRead}
use Rattle.sap_run_texts.specs.RunPrinted.{process_run_text, rule_run_text}
use Rattle.sap_run_texts.specs.declared.run.Kinds.TheVariants.{Either}
use Rattle.sap_run_texts.specs.declared.run.Run.{Run}
use Rattle.sap_run_texts.specs.declared.run.Run.TheVariants as run
use Rattle.sap_json.specs.RunValues.{IsJsonRead}
use Rattle.sap_json.specs.Written.{json_text}
use Rattle.sap_json.specs.declared.json_fault.JsonFault.{JsonFault}
use Rattle.sap_outside.specs.RunPieces.{most_run_bytes, IsRunAnswer}
use Rattle.sap_outside.specs.declared.run_refusal.RunRefusal.TheVariants as refusal
use Rattle.sap_refusals.specs.RunFaultTexts.{run_refusal_text, json_fault_text}

-- the bytes aren't too many, and they are this run as JSON
pub record IsAcceptedJson (bytes : List ℕ) (r : Run) : Type 0 where
  pub short : length bytes ≤ most_run_bytes
  pub read : IsJsonRead bytes (Ok r)

-- the bytes are refused for this cause: they are too many; else they are no run as JSON
pub data IsJsonRefusedWith (bytes : List ℕ) : List ℕ → Type 0 where
  too_long : most_run_bytes < length bytes
      → IsJsonRefusedWith bytes (run_refusal_text refusal.TooLong)
  no_run : {e : JsonFault} → length bytes ≤ most_run_bytes → IsJsonRead bytes (Err e)
      → IsJsonRefusedWith bytes (json_fault_text e)

-- the text of a run: its head, and a line for each step
abbrev pub run_text : Run → List ℕ
run_text (run.Process lines) = process_run_text lines
run_text (run.Rules lines) = rule_run_text lines

-- the bytes are a run of either kind, and the text is this run as JSON
pub record IsJsonOf (z text : List ℕ) : Type 0 where
  pub lines : Run
  pub read : IsRunAnswer Either z (Ok lines)
  pub layout : text ≡ json_text lines

-- so the text is read as the run that the bytes are
pub record IsReadAsJson (z text : List ℕ) : Type 0 where
  pub lines : Run
  pub read : IsRunAnswer Either z (Ok lines)
  pub back : IsJsonRead text (Ok lines)

-- the bytes are a run as JSON, and the text is that of this run
pub record IsRunOfJson (bytes text : List ℕ) : Type 0 where
  pub lines : Run
  pub accepted : IsAcceptedJson bytes lines
  pub layout : text ≡ run_text lines

-- so the text is read as the run that the bytes are
pub record IsReadAsRun (bytes text : List ℕ) : Type 0 where
  pub lines : Run
  pub accepted : IsAcceptedJson bytes lines
  pub back : IsRunRead Either text (Ok lines)
