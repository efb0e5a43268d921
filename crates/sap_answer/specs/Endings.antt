-- What a call ends with.
use Rattle.std.specs.Prelude.{ℕ, List, Option, None, Some, Result, Ok, Err}
use Rattle.sap_terms.specs.declared.mem.Mem.{Mem}
use Rattle.sap_outside.specs.declared.shelf.ShelfFault.{ShelfFault}
use Rattle.sap_outside.specs.declared.shelf.ShelfFault.TheVariants as faults
use Rattle.sap_answer.specs.Answer.{Answer, gives, tells, usage_text, read_fault_text}
use Rattle.sap_answer.specs.declared.refusal.Refusal.{Refusal}
use Rattle.sap_answer.specs.declared.refusal.Refusal.TheVariants as refusal
use Rattle.sap_answer.specs.declared.ending.Ending.{Ending}
use Rattle.sap_answer.specs.declared.ending.Ending.TheVariants as ending

-- the answer that it is, unless memory was wanting before there was one
abbrev pub answer_of : Ending → Option Answer
answer_of (ending.Given text) = Some (gives text)
answer_of (ending.Help text) = Some (gives text.now)
answer_of ending.Usage = Some (tells 3 usage_text)
answer_of ending.Unread = Some (tells 4 read_fault_text)
answer_of (ending.File line) = Some (tells 1 line)
answer_of (ending.Run line) = Some (tells 2 line)
answer_of ending.Mem = None

-- what a text of a run, or the line that refuses it, ends with
abbrev pub ending_of : Result (List ℕ) Refusal → Ending
ending_of (Ok text) = ending.Given text
ending_of (Err (refusal.Told line)) = ending.Run line
ending_of (Err refusal.Mem) = ending.Mem

-- what the line that refuses a file or theory ends with
abbrev pub refused_ending : Refusal → Ending
refused_ending (refusal.Told line) = ending.File line
refused_ending refusal.Mem = ending.Mem

-- what a text of a file, or the line that refuses it, ends with
abbrev pub file_ending_of : Result (List ℕ) Refusal → Ending
file_ending_of (Ok text) = ending.Given text
file_ending_of (Err r) = refused_ending r

-- what a text that refuses nothing ends with
abbrev pub written_ending : Result (List ℕ) Mem → Ending
written_ending (Ok text) = ending.Given text
written_ending (Err e) = ending.Mem

-- what a fault of the shelf ends with
abbrev pub unread_ending : ShelfFault → Ending
unread_ending faults.Failed = ending.Unread
unread_ending faults.Mem = ending.Mem
