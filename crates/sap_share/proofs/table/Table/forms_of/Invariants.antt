use Rattle.std.proofs.Common.{take, length}
use Rattle.std.specs.List.{AllZip}
use Rattle.sap_terms.specs.Equations.{equations}
use Rattle.sap_terms.specs.Normal.{IsNormalForm}
use Rattle.sap_share.specs.Shared.{trees_at, AreBelow}
use Rattle.sap_share.proofs.table.Table.forms_of.Given as goal

abbrev pub invariant-loop-k : goal.invariant-loop-k
invariant-loop-k l =
    AllZip (IsNormalForm (equations l.self.sig)) (trees_at l.self.trees (take l.k-index l.k-items)) (trees_at l.self.trees l.forms) × AreBelow (length l.self.trees) l.forms
