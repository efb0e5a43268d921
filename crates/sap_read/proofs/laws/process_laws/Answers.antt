use Rattle.std.proofs.Common.{[]}
use Rattle.sap_draft.specs.declared.limits.TheConstants.{FILE_LIMITS}
use Rattle.sap_read.proofs.laws.process_laws.Goals as goal

pub returns : goal.returns
returns c = record {
  one = λ g p q a r s. (c.one_process.ensures.whole g FILE_LIMITS r.levels s.levels p q a r.spelled s.spelled).0;
  too = λ g h p a r. let q = c.same_processes.ensures g h FILE_LIMITS r.levels p a [] r.spelled in (q.0, record { levels = r.levels; spelled = q.1; few_levels = r.few_levels });
  some = c.some_process.ensures;
}
