use Rattle.std.proofs.Common.{◌≡◌, subst}
use Rattle.std.proofs.lemmas.Result.{IfErr-weaker}
use Rattle.sap_runs.specs.declared.process_step.PStep.{PStep}
use Rattle.sap_lines.specs.Faults.{IsRefused}
use Rattle.sap_calc.specs.Running.{configuration}
use Rattle.sap_intruder.specs.FilledRuns.{line_step}
use Rattle.sap_intruder.specs.code.Filled.{entries_of}
use Rattle.sap_intruder.proofs.Possible.{possible_mem}
use Rattle.sap_intruder.proofs.filling.Filling.write_line.Goals as goal

pub returns-clause-refused : goal.returns-clause-refused
returns-clause-refused c =
    let a = c.args.self.now in
    let is : c.in_ok-step.step ≡ line_step c.args.line.now = c.in_ok-step.ensures in
    IfErr-weaker c.write.result _ _
    (λ e h. possible_mem c.normal_forms_are_unique.ensures a.config.sig (configuration a.config) (entries_of a) c.args.line.now e c.requires (subst (λ (s : PStep). IsRefused a.config.sig (configuration a.config) (entries_of a) s e) is h))
    c.write.ensures.refused
