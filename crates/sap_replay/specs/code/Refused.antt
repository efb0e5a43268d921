-- Lines that refuse runs.
use Rattle.std.specs.Prelude.{◌≡◌, ℕ, List}
use Rattle.sap_back.specs.declared.back_at.BackAt.{BackAt}
use Rattle.sap_back.specs.declared.back_at.BackAt.TheVariants as back
use Rattle.sap_lines.specs.declared.at.At.{At}
use Rattle.sap_lines.specs.declared.at.At.TheVariants as process
use Rattle.sap_replay.specs.declared.checking.Stop.{Stop}
use Rattle.sap_replay.specs.declared.checking.Stop.TheVariants as stop
use Rattle.sap_refusals.specs.RunFaultTexts.{at_step, broken_text, process_fault_text, rule_fault_text, run_refused_line}

-- the line says where and why a run of a process is refused, isn't told or drawn; that memory was wanting has no line
abbrev pub IsAtLine : At → List ℕ → Type 0
IsAtLine process.Mem line = ⊥
IsAtLine (process.Step step fault) line = line ≡ run_refused_line (at_step step (process_fault_text fault))

-- the same of a run of rules
abbrev pub IsBackAtLine : BackAt → List ℕ → Type 0
IsBackAtLine back.Mem line = ⊥
IsBackAtLine (back.Step step fault) line = line ≡ run_refused_line (at_step step (rule_fault_text fault))
IsBackAtLine (back.Broken step which) line = line ≡ run_refused_line (at_step step (broken_text which))

-- the line says where and why a run of a theory's rules is refused
abbrev pub IsCheckLine : Stop → List ℕ → Type 0
IsCheckLine stop.Mem line = ⊥
IsCheckLine (stop.Step step fault) line = line ≡ run_refused_line (at_step step (rule_fault_text fault))
