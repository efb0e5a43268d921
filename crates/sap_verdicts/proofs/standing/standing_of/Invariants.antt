use Rattle.std.proofs.Common.{◌≡◌, ◌-◌, drop, length, map}
use Rattle.sap_verdicts.specs.Standing.{standing}
use Rattle.sap_verdicts.specs.View.{found}
use Rattle.sap_verdicts.proofs.standing.standing_of.Given as goal

abbrev pub invariant-loop-k : goal.invariant-loop-k
invariant-loop-k l = l.so_far ≡ standing (map found (drop (length l.findings - l.k) l.findings))
