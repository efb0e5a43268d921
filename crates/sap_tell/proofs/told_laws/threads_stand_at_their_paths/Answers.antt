use Rattle.sap_tell.proofs.AtPaths.{threads_stand}
use Rattle.sap_tell.proofs.told_laws.threads_stand_at_their_paths.Goals as goal

pub returns : goal.returns
returns c =
    threads_stand c.instances_of_processes.ensures.twice c.instances_of_processes.ensures.unchanged c.runs_stay_ground.ensures.runs
    c.lines_are_steps.ensures.small_runs
