use Rattle.sap_restrict.specs.View.{machine}
use Rattle.sap_restrict.proofs.Telling.{answers, unchanged}
use Rattle.sap_restrict.proofs.guard.Guard.admit.Goals as goal

pub returns-clause-ok : goal.returns-clause-ok
returns-clause-ok c =
    answers c.normal_terms_decide.ensures c.args.acts.now c.requires c.admit_time.result (machine c.args.self.now) (machine c.admit_time.new.self) c.admit_time.ensures

pub returns-clause-err : goal.returns-clause-err
returns-clause-err c = unchanged c.args.acts.now c.admit_time.result (machine c.args.self.now) (machine c.admit_time.new.self) c.admit_time.ensures
