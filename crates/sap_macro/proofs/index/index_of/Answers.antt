use Rattle.std.proofs.Common.{ℕ, List, Some, subst}
use Rattle.sap_terms.specs.NameMap.{Puts}
use Rattle.sap_macro.specs.Sources.{definition_of, definitions}
use Rattle.sap_macro.proofs.Entries.{one_indexed, there}
use Rattle.sap_macro.proofs.index.index_of.Goals as goal

pub loop-k-preserved : goal.loop-k-preserved
loop-k-preserved c =
    one_indexed (definitions c.args.defs.now) c.loop-k.k (definition_of c.at.result.now) c.loop-k.index c.insert.new.self c.loop-k.invariant
    (there c.args.defs.now c.loop-k.k c.at.result.now c.at.ensures)
    (subst (λ (n : List ℕ). Puts c.loop-k.index c.insert.new.self n (Some c.loop-k.k)) c.in_ok-copy.ensures c.in_ok-insert.ensures.ok)
