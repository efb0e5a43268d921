use Rattle.std.proofs.Common.{refl, ap, ◌∙◌}
use Rattle.sap_outside.specs.RunPieces.{is_run}
use Rattle.sap_replay.specs.JsonRuns.{run_text}
use Rattle.sap_replay.proofs.JsonRefused.{same_json}
use Rattle.sap_replay.proofs.json_laws.json_comes_back.Goals as goal

pub returns-clause-back : goal.returns-clause-back
returns-clause-back c = λ z text t short. record { lines = t.lines; accepted = record { short = short; read = t.back }; layout = refl }

pub returns-clause-no_other : goal.returns-clause-no_other
returns-clause-no_other c = λ z text other t u. u.layout ∙ ap run_text (same_json c.one_json_run.ensures text u.lines t.lines u.accepted.read t.back)

pub returns-clause-forth : goal.returns-clause-forth
returns-clause-forth c = λ bytes text t short. record { lines = t.lines; read = is_run short t.back; layout = refl }
