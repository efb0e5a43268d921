use Rattle.std.proofs.Common.{◌≡◌, take}
use Rattle.sap_theory.specs.TheoryCauses.{statement_names}
use Rattle.sap_theory.proofs.checking.names.statement_names.Given as goal

abbrev pub invariant-loop-statement : goal.invariant-loop-statement
invariant-loop-statement l = l.names ≡ statement_names (take l.statement-index l.statement-items)
