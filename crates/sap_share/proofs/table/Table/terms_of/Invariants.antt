use Rattle.std.proofs.Common.{◌≡◌, take}
use Rattle.sap_share.specs.Shared.{trees_at}
use Rattle.sap_share.proofs.table.Table.terms_of.Given as goal

abbrev pub invariant-loop-k : goal.invariant-loop-k
invariant-loop-k l = l.terms ≡ trees_at l.self.trees (take l.k-index l.k-items)
