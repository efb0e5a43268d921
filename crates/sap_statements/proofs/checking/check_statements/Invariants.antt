use Rattle.sap_statements.proofs.Faults.{AreCheckedUpTo}
use Rattle.sap_statements.proofs.checking.check_statements.Given as goal

abbrev pub invariant-loop-statement : goal.invariant-loop-statement
invariant-loop-statement l = AreCheckedUpTo l.fn.sig l.reserved l.statement-items l.statement-index l.checked.restrictions l.checked.lemmas
