use Rattle.std.proofs.Common.{◌≡◌, true, take}
use Rattle.sap_grammar.specs.Sizes.{are_small}
use Rattle.sap_grammar.proofs.fact.are_small.Given as goal

abbrev pub invariant-loop-k : goal.invariant-loop-k
invariant-loop-k l = are_small l.limits (take l.k l.args) ≡ true
