use Rattle.std.proofs.Common.{subst, sym}
use Rattle.sap_lines.specs.declared.fault.PFault.{PFault}
use Rattle.sap_intruder.specs.code.Filled.{IsBlamed, out_of_memory, other_fault}
use Rattle.sap_intruder.specs.declared.unfilled.Unfilled.TheVariants as unfilled
use Rattle.sap_intruder.proofs.unfilled.blamed.Goals as goal

pub returns-in-Mem : goal.returns-in-Mem
returns-in-Mem c = subst (λ (e : PFault). IsBlamed e unfilled.Mem) (sym c.in-Mem.is) out_of_memory

pub returns-in_default : goal.returns-in_default
returns-in_default c = other_fault c.in_default.not-Mem
