use Rattle.std.proofs.Common.{refl}
use Rattle.sap_rule.specs.RuleSteps.{empty_state, starts}
use Rattle.sap_rule.proofs.SmallRuns.{told, first_silent}
use Rattle.sap_rule.proofs.laws.runs_by_hand.Goals as goal

pub returns-clause-starts : goal.returns-clause-starts
returns-clause-starts c = λ g rules. (empty_state, starts)

pub returns-clause-tells : goal.returns-clause-tells
returns-clause-tells c = told c.names_are_messages.ensures

pub returns-clause-silent_first : goal.returns-clause-silent_first
returns-clause-silent_first c = λ g acts later run. first_silent run.1 acts later refl
