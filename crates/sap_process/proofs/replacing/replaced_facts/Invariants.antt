use Rattle.std.proofs.Common.{◌≡◌, map, take}
use Rattle.sap_terms.specs.Modulo.{instance_fact}
use Rattle.sap_process.proofs.replacing.replaced_facts.Given as goal

abbrev pub invariant-loop-k : goal.invariant-loop-k
invariant-loop-k g l = l.made ≡ map (instance_fact (g.R.Replacing.choice l.r)) (take l.k l.fs)
