use Rattle.std.proofs.Common.{◌≤◌, ◌-◌, ap, arith}
use Rattle.sap_macro.specs.Sources.{written}
use Rattle.sap_beyond.specs.code.Shapes.{shaped}
use Rattle.sap_beyond.specs.code.Steps.{IsOver, IsOverBoth}
use Rattle.sap_beyond.proofs.Walked.{at_both, at_one, at_place, first_next, not_past, of_use, second_next, uses_above, uses_above_both, uses_first}
use Rattle.sap_beyond.proofs.beyond.+look.Goals as goal

pub look_at_place-look_at-requires : goal.look_at_place-look_at-requires
look_at_place-look_at-requires t c =
    let further = c.in-One.ensures.further (λ f. 0) in
    let d = c.decreases in
    let some = c.if-wanted-eq0.false in
    let small = c.requires.small in
    (omega (arith, further, d), ((omega arith, omega arith), omega (arith, small)))

pub look_at_place-look_at_both-requires : goal.look_at_place-look_at_both-requires
look_at_place-look_at_both-requires t c =
    let further = c.in-Two.ensures.further (λ f. 0) in
    let d = c.decreases in
    let small = c.requires.small in
    (omega (arith, further, d), omega (arith, small))

pub look_at_both-look_at-requires-in-Past : goal.look_at_both-look_at-requires-in-Past
look_at_both-look_at-requires-in-Past t c =
    let d = c.decreases in
    let less : c.in-Past.left ≤ c.args.wanted = rw c.in-Past.is at c.in_ok-step.ensures.less in
    let small = c.requires in
    (omega (arith, d), ((omega arith, omega arith), omega (arith, less, small)))

pub look-returns-in-Call-clause-leads : goal.look-returns-in-Call-clause-leads
look-returns-in-Call-clause-leads t c = λ shapes names kept uses.
    of_use c.args.by shapes names c.args.index.now c.args.extents.now (written c.args.source.now) c.in-Call.name c.in-Call.field-2 c.args.wanted c.args.trail.now c.at_use.result (ap written c.in-Call.is) kept uses
    (c.at_use.ensures.leads shapes c.args.trail.now)

pub look_at_place-returns-then-wanted-eq0-clause-leads : goal.look_at_place-returns-then-wanted-eq0-clause-leads
look_at_place-returns-then-wanted-eq0-clause-leads t c = λ shapes names kept uses.
    at_place c.args.by shapes c.args.trail.now (shaped shapes (written c.args.source.now)) c.args.wanted c.if-wanted-eq0.true

pub look_at_place-returns-in_ok-step-in-One-clause-leads : goal.look_at_place-returns-in_ok-step-in-One-clause-leads
look_at_place-returns-in_ok-step-in-One-clause-leads t c = λ shapes names kept uses.
    let some = c.if-wanted-eq0.false in
    let over : IsOver (written c.args.source.now) (written c.in-One.p.now) = c.in-One.ensures in
    rw c.passed-in-One.ensures
    (at_one c.args.by shapes c.args.trail.now (written c.args.source.now) c.args.wanted (c.args.wanted - 1) (omega (arith, some)) (written c.in-One.p.now) c.look_at.new.trail c.in_ok-step-in-One.step over
    (c.in_ok-step-in-One.ensures.leads shapes names kept (over.uses names uses)))

pub look_at_place-returns-in_ok-step-in-One-clause-uses : goal.look_at_place-returns-in_ok-step-in-One-clause-uses
look_at_place-returns-in_ok-step-in-One-clause-uses t c =
    rw c.passed-in-One.ensures (uses_above c.args.by (written c.args.source.now) (written c.in-One.p.now) c.in_ok-step-in-One.step c.in-One.ensures c.in_ok-step-in-One.ensures.uses)

pub look_at_place-returns-in_ok-step-in-Two-clause-leads : goal.look_at_place-returns-in_ok-step-in-Two-clause-leads
look_at_place-returns-in_ok-step-in-Two-clause-leads t c = λ shapes names kept uses.
    let some = c.if-wanted-eq0.false in
    let over : IsOverBoth (written c.args.source.now) (written c.in-Two.p.now) (written c.in-Two.q.now) = c.in-Two.ensures in
    rw c.passed-in-Two.ensures
    (at_both c.args.by shapes c.args.trail.now (written c.args.source.now) c.args.wanted (c.args.wanted - 1) (omega (arith, some)) (written c.in-Two.p.now) (written c.in-Two.q.now) c.look_at_both.new.trail
    c.in_ok-step-in-Two.step over (c.in_ok-step-in-Two.ensures.leads shapes names kept (over.uses names uses).0 (over.uses names uses).1))

pub look_at_place-returns-in_ok-step-in-Two-clause-uses : goal.look_at_place-returns-in_ok-step-in-Two-clause-uses
look_at_place-returns-in_ok-step-in-Two-clause-uses t c =
    rw c.passed-in-Two.ensures
    (uses_above_both c.args.by (written c.args.source.now) (written c.in-Two.p.now) (written c.in-Two.q.now) c.in_ok-step-in-Two.step c.in-Two.ensures c.in_ok-step-in-Two.ensures.uses)

pub look_at_both-returns-in_ok-step-in-Past-clause-leads : goal.look_at_both-returns-in_ok-step-in-Past-clause-leads
look_at_both-returns-in_ok-step-in-Past-clause-leads t c = λ shapes names kept first second.
    second_next c.args.by shapes c.args.trail.now (shaped shapes (written c.args.first.now)) (shaped shapes (written c.args.second.now)) c.args.wanted c.in-Past.left c.look_at.new.trail c.look_at-in-Past.new.trail
    c.in_ok-step-in-Past.step (rw c.in-Past.is at (c.in_ok-step.ensures.leads shapes names kept first)) (c.in_ok-step-in-Past.ensures.leads shapes names kept second)

pub look_at_both-returns-in_default-clause-leads : goal.look_at_both-returns-in_default-clause-leads
look_at_both-returns-in_default-clause-leads t c = λ shapes names kept first second.
    first_next c.args.by shapes c.args.trail.now (shaped shapes (written c.args.first.now)) (shaped shapes (written c.args.second.now)) c.args.wanted c.look_at.new.trail c.in_ok-step.step
    (not_past c.in_ok-step.step c.in_default.not-Past) (c.in_ok-step.ensures.leads shapes names kept first)

pub look_at_both-returns-in_default-clause-uses : goal.look_at_both-returns-in_default-clause-uses
look_at_both-returns-in_default-clause-uses t c =
    uses_first (written c.args.first.now) (written c.args.second.now) c.in_ok-step.step c.in_ok-step.ensures.uses
