use Rattle.sap_run_texts.specs.declared.run.Kinds.TheVariants.{Rules, Either}
use Rattle.sap_replay.specs.RunRefusals.{IsIllegal, IsIllegalOfTheory, IsNeverIllegal}
use Rattle.sap_replay.proofs.JsonRefused.{one_json_cause}
use Rattle.sap_replay.proofs.OneRefusal.{one_run_cause}
use Rattle.sap_replay.proofs.ShortRefused.{Laws, one_short_cause}
use Rattle.sap_replay.proofs.laws.refused_runs_have_one_cause.Goals as goal

pub returns : goal.returns
returns c =
    let shorts : Laws = record {
      one = c.one_short_run.ensures.one;
      apart = c.one_short_answer.ensures.apart;
      first = c.one_short_answer.ensures.first;
    } in
    record {
      file = λ f kinds z why other runnable a b.
          one_run_cause c.one_run.ensures.either kinds z (IsIllegal f) (λ r w v. c.illegal_runs_have_one_cause.ensures.file f r w v runnable) why other a b;
      theory = λ t z why other hold made a b.
          one_run_cause c.one_run.ensures.either Rules z (IsIllegalOfTheory t) (λ r w v. c.illegal_runs_have_one_cause.ensures.theory t r w v hold made) why other a b;
      alone = λ z why other a b. one_run_cause c.one_run.ensures.either Either z IsNeverIllegal (λ r w v bad worse. absurd bad) why other a b;
      short = λ f z why other runnable a b.
          one_short_cause shorts z f runnable.builtins (c.annotations_are_ready.ensures.ready f.signature runnable.process f.process runnable.ready runnable.annotation) why other a b;
      json = λ bytes why other a b. one_json_cause c.one_json_run.ensures bytes why other a b;
    }
