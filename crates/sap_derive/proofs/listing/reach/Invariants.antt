use Rattle.std.proofs.Common.{◌+◌, ◌-◌}
use Rattle.std.specs.Vec.{vec_len}
use Rattle.sap_derive.specs.code.Listed.{TellPlaces}
use Rattle.sap_derive.proofs.listing.reach.Given as goal

abbrev pub invariant-loop-places : goal.invariant-loop-places
invariant-loop-places l = TellPlaces l.places.items l.items

abbrev pub decreases-loop-places : goal.decreases-loop-places
decreases-loop-places l = l.n + 1 - vec_len l.places
