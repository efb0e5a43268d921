use Rattle.std.proofs.Common.{[], subst, sym}
use Rattle.sap_gen.specs.Short.{AreShort, no_rules}
use Rattle.sap_gen.specs.code.Walks.{CanWalk}
use Rattle.sap_gen.proofs.Growing.{grown}
use Rattle.sap_gen.proofs.shortening.short_rules.Goals as goal

pub loop-k-init : goal.loop-k-init
loop-k-init c p tell = subst (λ z. AreShort p [] z) (sym c.new-short.ensures) no_rules

pub loop-k-preserved : goal.loop-k-preserved
loop-k-preserved c p tell =
    let can : CanWalk c.args.rules.now c.in_ok-takers.takers c.at.result.now.right p = record { tell = tell.takers c.in_ok-takers.takers c.in_ok-takers.ensures; told = tell.takers c.in_ok-takers.takers c.in_ok-takers.ensures c.loop-k.k c.at.result.now c.at.ensures } in
    grown p c.args.rules.now c.in_ok-takers.takers c.loop-k.k c.at.result.now c.loop-k.short c.add_short.new.short tell can c.at.ensures c.in_ok-add_short.ensures (c.loop-k.invariant p tell)
