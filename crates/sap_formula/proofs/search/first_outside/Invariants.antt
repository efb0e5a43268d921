use Rattle.std.proofs.Common.{◌≡◌, drop}
use Rattle.sap_formula.specs.code.Tests.{first_outside}
use Rattle.sap_formula.proofs.search.first_outside.Given as goal

abbrev pub invariant-loop-b : goal.invariant-loop-b
invariant-loop-b l = first_outside l.names l.bs ≡ first_outside l.names (drop l.b-index l.bs)
