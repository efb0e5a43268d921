use Rattle.std.proofs.Common.{take}
use Rattle.sap_terms.specs.Equations.{equations}
use Rattle.sap_terms.specs.declared.limits.TheConstants.{MOST_TERM_NODES}
use Rattle.sap_share.specs.Env.{AreSmallForms}
use Rattle.sap_sides.proofs.bindings.are_small_forms.Given as goal

abbrev pub invariant-loop-i : goal.invariant-loop-i
invariant-loop-i l = AreSmallForms (equations l.table.sig) MOST_TERM_NODES l.table.trees (take l.i l.env)
