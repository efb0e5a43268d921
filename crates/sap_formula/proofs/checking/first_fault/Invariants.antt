use Rattle.std.proofs.Common.{◌≡◌, [], drop}
use Rattle.sap_formula.specs.View.{form}
use Rattle.sap_formula.specs.Parts.{form_parts}
use Rattle.sap_formula.specs.code.Tests.{first_fault}
use Rattle.sap_formula.proofs.checking.first_fault.Given as goal

abbrev pub invariant-loop-which : goal.invariant-loop-which
invariant-loop-which l = first_fault l.sig l.reserved l.flaws (form_parts [] (form l.f)) ≡ first_fault l.sig l.reserved (drop l.which-index l.flaws) (form_parts [] (form l.f))
