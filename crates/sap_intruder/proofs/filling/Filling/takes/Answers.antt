use Rattle.std.proofs.lemmas.Result.{IfErr-weaker, on_ok_weaker}
use Rattle.sap_intruder.proofs.StepsFilled.{taker, no_taker}
use Rattle.sap_intruder.proofs.filling.Filling.takes.Goals as goal

pub returns-clause-ok : goal.returns-clause-ok
returns-clause-ok c = on_ok_weaker c.told_of_thread.result (λ h. taker c.args.self.now c.args.t c.in-Err.fault c.requires c.in-Err.ensures.refused h) c.told_of_thread.ensures.entry

pub returns-clause-refused : goal.returns-clause-refused
returns-clause-refused c =
    IfErr-weaker c.told_of_thread.result _ _ (λ u h. no_taker c.args.self.now c.args.t c.in-Err.fault u c.requires c.in-Err.ensures.refused h.1 h.0) c.told_of_thread.ensures.other
