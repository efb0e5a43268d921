use Rattle.std.proofs.Common.{◌≡◌, map, take}
use Rattle.sap_statements.specs.Statements.{name_of}
use Rattle.sap_read.proofs.taken.statement_names.Given as goal

abbrev pub invariant-loop-statement : goal.invariant-loop-statement
invariant-loop-statement l = l.names ≡ map name_of (take l.statement-index l.statement-items)
