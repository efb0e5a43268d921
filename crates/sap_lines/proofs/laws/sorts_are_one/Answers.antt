use Rattle.sap_lines.proofs.Ready.{pattern_sort, one_sort}
use Rattle.sap_lines.proofs.laws.sorts_are_one.Goals as goal

pub returns-clause-pattern : goal.returns-clause-pattern
returns-clause-pattern c = pattern_sort

pub returns-clause-rule : goal.returns-clause-rule
returns-clause-rule c = one_sort
