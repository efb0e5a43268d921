use Rattle.std.proofs.Common.{refl, arith, ◌∙◌}
use Rattle.sap_derive.proofs.Settled.{grows-same, grows-then}
use Rattle.sap_derive.proofs.closure.Closure.place_all.Goals as goal

pub loop-init : goal.loop-init
loop-init c = record { closure = c.requires; grows = grows-same c.args.self.now; placed = refl }

pub loop-preserved : goal.loop-preserved
loop-preserved c =
    let i = c.loop.invariant in
    let e = c.place_next.ensures in
    record {
      closure = e.closure;
      grows = grows-then c.args.self.now c.loop.self c.place_next.new.self i.grows e.grows;
      placed = c.in_ok-place_next.ensures.ok ∙ (let l = i.placed in omega arith);
    }

pub returns-in_err-place_next-clause-grows : goal.returns-in_err-place_next-clause-grows
returns-in_err-place_next-clause-grows c = grows-then c.args.self.now c.loop.self c.place_next.new.self c.loop.invariant.grows c.place_next.ensures.grows
