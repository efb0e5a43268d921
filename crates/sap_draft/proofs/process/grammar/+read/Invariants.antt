use Rattle.std.proofs.Common.{◌+◌, ◌*◌}
use Rattle.sap_draft.proofs.process.grammar.+read.Given as goal

abbrev pub decreases-read_seq : goal.decreases-read_seq
decreases-read_seq l = 8 * l.depth

abbrev pub decreases-read_par : goal.decreases-read_par
decreases-read_par l = 8 * l.depth + 1

abbrev pub decreases-read_beside : goal.decreases-read_beside
decreases-read_beside l = 8 * l.depth + 2

abbrev pub decreases-read_enclosed : goal.decreases-read_enclosed
decreases-read_enclosed l = 8 * l.depth + 2

abbrev pub decreases-read_replicated : goal.decreases-read_replicated
decreases-read_replicated l = 8 * l.depth + 2

abbrev pub decreases-read_on : goal.decreases-read_on
decreases-read_on l = 8 * l.depth + 2

abbrev pub decreases-read_call_or_action : goal.decreases-read_call_or_action
decreases-read_call_or_action l = 8 * l.depth + 3

abbrev pub decreases-read_second_branch : goal.decreases-read_second_branch
decreases-read_second_branch l = 8 * l.depth + 2

abbrev pub decreases-read_branches : goal.decreases-read_branches
decreases-read_branches l = 8 * l.depth + 3

abbrev pub decreases-read_condition : goal.decreases-read_condition
decreases-read_condition l = 8 * l.depth + 4

abbrev pub decreases-read_lookup : goal.decreases-read_lookup
decreases-read_lookup l = 8 * l.depth + 4
