use Rattle.sap_lines.proofs.MarksByHand.{legal, only, not_turned}
use Rattle.sap_lines.proofs.by_hand.marks_of_runs_by_hand.Goals as goal

pub returns-clause-legal : goal.returns-clause-legal
returns-clause-legal c = legal c.leaves_are_normal.ensures c.normal_forms_are_unique.ensures

pub returns-clause-only : goal.returns-clause-only
returns-clause-only c = only c.leaves_are_normal.ensures c.normal_forms_are_unique.ensures

pub returns-clause-not_turned : goal.returns-clause-not_turned
returns-clause-not_turned c = not_turned c.leaves_are_normal.ensures c.normal_forms_are_unique.ensures
