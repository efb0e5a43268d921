use Rattle.std.proofs.Common.{◌-◌, ℕ, List, Some, arith, subst}
use Rattle.sap_terms.specs.NameMap.{Puts}
use Rattle.sap_macro.specs.Sources.{definition_of, definitions}
use Rattle.sap_uses.proofs.Counted.{one_counted}
use Rattle.sap_uses.proofs.Entries.{there}
use Rattle.sap_uses.proofs.counts.counts_of.Goals as goal

pub loop-k-preserved : goal.loop-k-preserved
loop-k-preserved c =
    let most = c.loop-k.invariant.0 in
    let d = c.at-d.result.now in (
      omega (arith, most),
      one_counted (definitions c.args.defs.now) c.loop-k.k (definition_of d) c.loop-k.counts c.insert.new.self c.loop-k-test.true
          (there c.args.defs.now (c.loop-k.k - 1) d c.at-d.ensures) c.loop-k.invariant.1
          (subst (λ (n : ℕ). Puts c.loop-k.counts c.insert.new.self d.name (Some n)) c.len.ensures
          (subst (λ (n : List ℕ). Puts c.loop-k.counts c.insert.new.self n (Some c.len.result)) c.in_ok-copy.ensures c.in_ok-insert.ensures.ok)),
    )
