use Rattle.std.proofs.Common.{◌≡◌}
use Rattle.sap_layers.proofs.derivations.take_each.Given as goal

abbrev pub invariant-loop-t : goal.invariant-loop-t
invariant-loop-t l = l.search.sig ≡ l.sig
