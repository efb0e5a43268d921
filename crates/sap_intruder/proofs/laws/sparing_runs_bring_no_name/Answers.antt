use Rattle.sap_runs.specs.Limits.{HasFewNodes}
use Rattle.sap_intruder.proofs.Named as named
use Rattle.sap_intruder.proofs.laws.sparing_runs_bring_no_name.Goals as goal

pub returns-clause-names : goal.returns-clause-names
returns-clause-names c =
    named.sparing_runs_bring_no_name c.equality_is_kept.ensures c.symbols_reduce_once.ensures c.leaves_are_normal.ensures c.normal_forms_are_unique.ensures c.names_stand_in_runs.ensures
    c.filled_runs_are_legal.ensures.small_runs

pub returns-clause-few : goal.returns-clause-few
returns-clause-few c = named.entries_are_few HasFewNodes
