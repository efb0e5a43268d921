use Rattle.std.proofs.Common.{◌≡◌, ◌++◌, drop}
use Rattle.sap_gen.specs.code.Walks.{ahead_of}
use Rattle.sap_gen.proofs.settling.put_ahead.Given as goal

abbrev pub invariant-loop-k : goal.invariant-loop-k
invariant-loop-k l = ahead_of l.ahead.items ≡ drop l.k l.facts ++ ahead_of l.initial.ahead.items
