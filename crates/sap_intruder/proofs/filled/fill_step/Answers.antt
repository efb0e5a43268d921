use Rattle.std.proofs.Common.{◌≡◌, subst}
use Rattle.sap_calc.specs.Running.{configuration}
use Rattle.sap_intruder.specs.Refusals.{IsShortRefused}
use Rattle.sap_intruder.specs.code.Filled.{OrMem}
use Rattle.sap_intruder.specs.declared.fill_fault.FillFault.{FillFault}
use Rattle.sap_intruder.proofs.filled.fill_step.Goals as goal

pub returns-in-Err-Fault-clause-refused : goal.returns-in-Err-Fault-clause-refused
returns-in-Err-Fault-clause-refused c = λ n fault e.
    let a = c.args.filling.now in
    let number_is : n ≡ c.args.number = cc (e) in
    let fault_is : c.in-Err-Fault.fault ≡ fault = cc (e) in
    let refused : IsShortRefused a.config.sig (configuration a.config) c.args.s.now c.in-Err-Fault.fault =
    subst (OrMem (IsShortRefused a.config.sig (configuration a.config) c.args.s.now)) c.in-Err-Fault.field-0-is c.in-Err-Fault.ensures.refused in
    record { same = number_is; refused = subst (λ (f : FillFault). IsShortRefused a.config.sig (configuration a.config) c.args.s.now f) fault_is refused }
