use Rattle.std.proofs.Common.{subst, sym, IfErr}
use Rattle.sap_runs.specs.declared.short_step.SStep.{SStep}
use Rattle.sap_calc.specs.Running.{configuration}
use Rattle.sap_intruder.specs.Refusals.{IsShortRefused}
use Rattle.sap_intruder.specs.code.Filled.{OrMem}
use Rattle.sap_intruder.proofs.filling.Filling.step.Goals as goal

pub returns-in-Act-clause-refused : goal.returns-in-Act-clause-refused
returns-in-Act-clause-refused c =
    let a = c.args.self.now in
    subst (λ (s : SStep). IfErr c.act.result (OrMem (IsShortRefused a.config.sig (configuration a.config) s))) (sym c.in-Act.is) c.act.ensures.refused

pub returns-in-In-clause-refused : goal.returns-in-In-clause-refused
returns-in-In-clause-refused c =
    let a = c.args.self.now in
    subst (λ (s : SStep). IfErr c.input.result (OrMem (IsShortRefused a.config.sig (configuration a.config) s))) (sym c.in-In.is) c.input.ensures.refused

pub returns-in-Send-clause-refused : goal.returns-in-Send-clause-refused
returns-in-Send-clause-refused c =
    let a = c.args.self.now in
    subst (λ (s : SStep). IfErr c.send.result (OrMem (IsShortRefused a.config.sig (configuration a.config) s))) (sym c.in-Send.is) c.send.ensures.refused

pub returns-in-Know-clause-refused : goal.returns-in-Know-clause-refused
returns-in-Know-clause-refused c =
    let a = c.args.self.now in
    subst (λ (s : SStep). IfErr c.know.result (OrMem (IsShortRefused a.config.sig (configuration a.config) s))) (sym c.in-Know.is) c.know.ensures.refused
