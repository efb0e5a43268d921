use Rattle.std.proofs.Common.{ap, ◌∙◌, ◌+◌}
use Rattle.sap_judge.proofs.Marks.{bound_next, bound_noted, bound_slot}
use Rattle.sap_judge.specs.code.Laid.{place}
use Rattle.sap_judge.proofs.laying.mark_bound.Goals as goal

pub returns-then-new-clause-slot : goal.returns-then-new-clause-slot
returns-then-new-clause-slot c = bound_next (place c.args.spot.now) c.args.seen.now c.args.n.now c.in_ok-index.new c.requires c.in_ok-index.ensures.new c.if-new.true

pub returns-then-new-clause-seen : goal.returns-then-new-clause-seen
returns-then-new-clause-seen c = bound_noted (place c.args.spot.now) c.args.seen.now c.insert.new.self c.args.n.now c.requires c.in_ok-index.ensures.ok

pub returns-clause-slot : goal.returns-clause-slot
returns-clause-slot c =
    bound_slot (place c.args.spot.now) c.args.seen.now c.args.n.now c.in_ok-index.index c.in_ok-added.field-0 c.in_ok-index.new c.requires c.in_ok-index.ensures.new c.if-new.false c.in_ok-index.ensures.place
    (c.in_ok-added.ensures ∙ ap (λ k. k + c.in_ok-index.index) c.in_ok-slots_outside.ensures)

pub returns-clause-seen : goal.returns-clause-seen
returns-clause-seen c = bound_noted (place c.args.spot.now) c.args.seen.now c.insert.new.self c.args.n.now c.requires c.in_ok-index.ensures.ok
