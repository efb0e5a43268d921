use Rattle.std.proofs.Common.{map, take}
use Rattle.sap_terms.specs.Subst.{subst_tree}
use Rattle.sap_sides.proofs.Formed.{AreFormed}
use Rattle.sap_sides.proofs.evaluated.forms_of_args.Given as goal

abbrev pub invariant-loop-k : goal.invariant-loop-k
invariant-loop-k l = AreFormed l.sig (map (subst_tree l.c) (take l.k l.ts)) l.out
