-- Why a short run is refused, in words.
use Rattle.std.specs.Prelude.{codes, List, ℕ}
use Rattle.sap_intruder.specs.declared.fill_fault.FillFault.{FillFault}
use Rattle.sap_intruder.specs.declared.fill_fault.FillFault.TheVariants as fill
use Rattle.sap_outside.specs.declared.run_refusal.RunRefusal.TheVariants as refusal
use Rattle.sap_run_texts.specs.declared.run_fault.RunFault.{RunFault}
use Rattle.sap_run_texts.specs.declared.run_fault.RunFault.TheVariants as text
use Rattle.sap_runs.specs.declared.limits.TheConstants.{MOST_SHORT_STEPS}
use Rattle.sap_refusals.specs.RunFaultTexts.{process_fault_text, run_refusal_text}

-- why a text is no short run, in the words of other runs; that memory was wanting is no such cause
abbrev pub short_fault_text : RunFault → List ℕ
short_fault_text text.Mem = codes "out of memory"
short_fault_text text.BadHead = run_refusal_text refusal.BadHead
short_fault_text (text.BadLine line) = run_refusal_text (refusal.BadLine line)
short_fault_text text.TooManySteps = run_refusal_text (refusal.TooManySteps MOST_SHORT_STEPS)

-- why a step of a short run is refused: for what its line is, or for its term
abbrev pub fill_fault_text : FillFault → List ℕ
fill_fault_text (fill.Process e) = process_fault_text e
fill_fault_text fill.BadTerm = codes "bad term"
fill_fault_text fill.NotDeduced = codes "term cannot be deduced"
