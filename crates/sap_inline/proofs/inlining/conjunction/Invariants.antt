use Rattle.std.proofs.Common.{◌≡◌, drop}
use Rattle.sap_formula.specs.View.{form}
use Rattle.sap_inline.specs.Inline.{conjunction, formulas, joined}
use Rattle.sap_inline.proofs.inlining.conjunction.Given as goal

abbrev pub invariant-loop-k : goal.invariant-loop-k
invariant-loop-k l = conjunction (formulas l.restrictions) ≡ joined (form l.joined.value) (formulas (drop l.k l.restrictions))
