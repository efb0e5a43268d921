use Rattle.std.proofs.Common.{◌≡◌, take}
use Rattle.sap_terms.specs.View.{tree}
use Rattle.sap_held.specs.code.Last.{last_open}
use Rattle.sap_held.proofs.held.last_open.Given as goal

abbrev pub invariant-loop-k : goal.invariant-loop-k
invariant-loop-k l = l.last ≡ last_open (tree l.t) (take l.k l.held)
