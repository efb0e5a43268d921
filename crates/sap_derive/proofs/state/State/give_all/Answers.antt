use Rattle.std.proofs.Common.{refl, arith, ◌∙◌}
use Rattle.sap_derive.proofs.States.{stays-same, stays-then}
use Rattle.sap_derive.proofs.state.State.give_all.Goals as goal

pub loop-init : goal.loop-init
loop-init c = record { state = c.requires; stays = stays-same c.args.self.now; terms = refl; brought = refl; given = refl }

pub loop-preserved : goal.loop-preserved
loop-preserved c =
    let i = c.loop.invariant in
    let e = c.give_next.ensures in
    record {
      state = e.state;
      stays = stays-then c.args.self.now c.loop.self c.give_next.new.self i.stays e.stays;
      terms = e.terms ∙ i.terms;
      brought = e.brought ∙ i.brought;
      given = c.in_ok-give_next.ensures.ok ∙ (let l = i.given in omega arith);
    }

pub returns-in_err-give_next-clause-stays : goal.returns-in_err-give_next-clause-stays
returns-in_err-give_next-clause-stays c = stays-then c.args.self.now c.loop.self c.give_next.new.self c.loop.invariant.stays c.give_next.ensures.stays
