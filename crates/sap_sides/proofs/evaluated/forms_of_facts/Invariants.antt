use Rattle.std.proofs.Common.{take}
use Rattle.sap_terms.specs.Subst.{bound_to}
use Rattle.sap_sides.proofs.Formed.{AreFactsFormed}
use Rattle.sap_sides.proofs.evaluated.forms_of_facts.Given as goal

abbrev pub invariant-loop-k : goal.invariant-loop-k
invariant-loop-k l = AreFactsFormed l.sig (bound_to l.c) (take l.k l.fs) l.out
