use Rattle.std.proofs.Common.{take}
use Rattle.sap_sides.specs.Fitting.{facts_outer_vars, FactsFit, IsOnlyChoice}
use Rattle.sap_sides.proofs.matching.match_facts.Given as goal

abbrev pub invariant-loop-k : goal.invariant-loop-k
invariant-loop-k l = IsOnlyChoice (FactsFit l.sig (take l.k l.fs) (take l.k l.cited)) (facts_outer_vars l.sig (take l.k l.fs)) l.fn.b l.c
