use Rattle.std.proofs.Common.{◌≤◌, ◌&&◌, length}
use Rattle.sap_restrict.specs.Restrictions.{is_generated}
use Rattle.sap_read.specs.code.Label.{AreSeen}
use Rattle.sap_read.proofs.taken.first_taken_at.Given as goal

abbrev pub invariant-loop-k : goal.invariant-loop-k
invariant-loop-k l = (l.k ≤ length l.names) × AreSeen (λ x. l.generated && is_generated x) l.names l.k l.behind l.found

abbrev pub decreases-loop-k : goal.decreases-loop-k
decreases-loop-k l = l.k
