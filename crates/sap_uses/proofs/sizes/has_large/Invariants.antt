use Rattle.std.proofs.Common.{◌≡◌, drop}
use Rattle.sap_uses.specs.Sizes.{size_in}
use Rattle.sap_uses.specs.code.Walks.{has_heavy}
use Rattle.sap_uses.proofs.sizes.has_large.Given as goal

abbrev pub invariant-loop-k : goal.invariant-loop-k
invariant-loop-k l = has_heavy (size_in l.sizes) l.ts ≡ has_heavy (size_in l.sizes) (drop l.k l.ts)
