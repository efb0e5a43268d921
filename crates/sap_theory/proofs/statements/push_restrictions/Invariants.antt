use Rattle.std.proofs.Common.{◌≡◌, ◌++◌, drop}
use Rattle.sap_theory.specs.StatementText.{restrictions_text}
use Rattle.sap_theory.proofs.statements.push_restrictions.Given as goal

abbrev pub invariant-loop-restriction : goal.invariant-loop-restriction
invariant-loop-restriction l = l.text ++ restrictions_text (drop l.restriction-index l.restriction-items) ≡ l.initial.text ++ restrictions_text l.restriction-items
