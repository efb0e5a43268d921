use Rattle.sap_process.specs.ProcessSteps.{IsProcessTrace}
use Rattle.sap_rule.specs.RuleSteps.{IsFullTrace}
use Rattle.sap_gen.proofs.Carried.{carried}
use Rattle.sap_gen.proofs.laws.inlined_lemmas_hold.Goals as goal

pub returns-clause-rules : goal.returns-clause-rules
returns-clause-rules c = λ g rules us mode f. carried c.inlining_keeps_lemmas.ensures.for_all c.inlining_keeps_lemmas.ensures.for_some g (IsFullTrace g rules) us mode f

pub returns-clause-process : goal.returns-clause-process
returns-clause-process c = λ g p us mode f. carried c.inlining_keeps_lemmas.ensures.for_all c.inlining_keeps_lemmas.ensures.for_some g (IsProcessTrace g p) us mode f
