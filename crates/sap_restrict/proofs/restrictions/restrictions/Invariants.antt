use Rattle.std.proofs.Common.{◌≡◌, map, take}
use Rattle.sap_restrict.specs.Restrictions.{named}
use Rattle.sap_restrict.proofs.restrictions.restrictions.Given as goal

abbrev pub invariant-loop-one : goal.invariant-loop-one
invariant-loop-one l = l.all ≡ map named (take l.one-index l.one-items)
