use Rattle.std.proofs.Common.{length, ◌-◌}
use Rattle.sap_share.specs.code.Found.{IsIndexOf}
use Rattle.sap_share.proofs.index.Index.extend.Given as goal

abbrev pub invariant-loop-self : goal.invariant-loop-self
invariant-loop-self l = IsIndexOf l.self l.bound

abbrev pub decreases-loop-self : goal.decreases-loop-self
decreases-loop-self l = length l.bound - l.self.count
