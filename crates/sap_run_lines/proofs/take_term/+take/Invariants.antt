use Rattle.std.proofs.Common.{◌+◌, ◌*◌}
use Rattle.sap_run_lines.proofs.take_term.+take.Given as goal

abbrev pub decreases-take_term : goal.decreases-take_term
decreases-take_term l = 8 * l.calls

abbrev pub decreases-take_rest : goal.decreases-take_rest
decreases-take_rest l = 8 * l.calls

abbrev pub decreases-take_terms : goal.decreases-take_terms
decreases-take_terms l = 8 * l.calls

abbrev pub decreases-take_paired : goal.decreases-take_paired
decreases-take_paired l = 8 * l.calls + 1

abbrev pub decreases-take_listed : goal.decreases-take_listed
decreases-take_listed l = 8 * l.calls + 1

abbrev pub decreases-take_tuple : goal.decreases-take_tuple
decreases-take_tuple l = 8 * l.calls + 2

abbrev pub decreases-take_applied : goal.decreases-take_applied
decreases-take_applied l = 8 * l.calls + 2

abbrev pub decreases-take_symbol : goal.decreases-take_symbol
decreases-take_symbol l = 8 * l.calls + 3
