use Rattle.std.proofs.Common.{refl, arith, ◌∙◌}
use Rattle.sap_derive.proofs.States.{stays-same, stays-then}
use Rattle.sap_derive.proofs.state.State.bring_all.Goals as goal

pub loop-init : goal.loop-init
loop-init c = record { state = c.requires; stays = stays-same c.args.self.now; brought = refl }

pub loop-preserved : goal.loop-preserved
loop-preserved c =
    let i = c.loop.invariant in
    let e = c.bring_next.ensures in
    record {
      state = e.state;
      stays = stays-then c.args.self.now c.loop.self c.bring_next.new.self i.stays e.stays;
      brought = c.in_ok-bring_next.ensures.ok ∙ (let l = i.brought in omega arith);
    }

pub returns-in_err-bring_next-clause-stays : goal.returns-in_err-bring_next-clause-stays
returns-in_err-bring_next-clause-stays c = stays-then c.args.self.now c.loop.self c.bring_next.new.self c.loop.invariant.stays c.bring_next.ensures.stays
