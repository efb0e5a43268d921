-- The process of a file with its uses replaced, as it is lent to what is judged of it.
use Rattle.std.specs.Prelude.{◌≡◌, ◌≤◌}
use Rattle.sap_macro.specs.Expansion.{expansion}
use Rattle.sap_macro.specs.Sources.{definitions, written}
use Rattle.sap_process.specs.Proc.{Proc, node_count}
use Rattle.sap_read.specs.declared.written.WrittenFile.{WrittenFile}
use Rattle.sap_terms.specs.declared.limits.TheConstants.{MOST_PROCESS_PLACES}
use Rattle.sap_uses.specs.FaultCauses.{Holds}
use Rattle.sap_uses.specs.declared.fault.MacroFault.{MacroFault}

-- no use in what is written refuses it and it goes beyond no limit, and this is its process with its uses replaced
pub record IsFileExpansion (w : WrittenFile) (p : Proc) : Type 0 where
  pub free : (e : MacroFault)
      → ¬ Holds w.declared.signature (definitions w.processes.definitions) (written w.processes.main.value) e
  pub small : node_count p ≤ MOST_PROCESS_PLACES
  pub is : p ≡ (expansion (definitions w.processes.definitions) w.identifiers (written w.processes.main.value)).process
