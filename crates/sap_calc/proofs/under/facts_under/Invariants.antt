use Rattle.std.proofs.Common.{◌≡◌, map, take}
use Rattle.sap_terms.specs.Modulo.{instance_fact}
use Rattle.sap_share.specs.Env.{given}
use Rattle.sap_calc.proofs.under.facts_under.Given as goal

abbrev pub invariant-loop-k : goal.invariant-loop-k
invariant-loop-k l = l.made ≡ map (instance_fact (given l.table.trees l.env)) (take l.k l.fs)
