use Rattle.std.proofs.Common.{arith, List, [], subst, sym}
use Rattle.std.proofs.lemmas.Grind.{common_steps}
use Rattle.sap_macro.specs.Sources.{definitions, located}
use Rattle.sap_origin.specs.Definitions.{located_definitions}
use Rattle.sap_origin.specs.code.Steps.{Tells, noted}
use Rattle.sap_origin.specs.declared.trail.Use.{Use}
use Rattle.sap_origin.proofs.Walked.{begins_on, tells_next, way_smaller}
use Rattle.sap_origin.proofs.trail.trail_of.Goals as goal

pub loop-step-init : goal.loop-step-init
loop-step-init c =
    let ds = located_definitions c.args.defs.now c.args.behind.now in
    let es = definitions c.args.defs.now in
    let main = located c.args.main.now in
    subst (λ (us : List Use). Tells es ds c.args.replaced c.args.path.now c.args.behind_main main us c.step_from-step.result) (sym c.new-uses.ensures)
    (tells_next ds c.args.replaced es c.args.path.now c.args.behind_main main [] _ c.step_from-step.result
    (begins_on ds c.args.replaced es c.args.path.now c.args.behind_main c.args.main c.len.result (grind (arith, common_steps, c.len.ensures)) c.requires.uses) c.step_from-step.ensures)

pub loop-step-preserved : goal.loop-step-preserved
loop-step-preserved c =
    let ds = located_definitions c.args.defs.now c.args.behind.now in
    let es = definitions c.args.defs.now in
    let main = located c.args.main.now in
    subst (λ (us : List Use). Tells es ds c.args.replaced c.args.path.now c.args.behind_main main us c.step_from-step-in-On.result) (sym c.in_ok-note.ensures)
    (tells_next ds c.args.replaced es c.args.path.now c.args.behind_main main (noted c.loop-step.uses c.in-On.used) c.in-On.next c.step_from-step-in-On.result
    (rw c.in-On.is at c.loop-step.invariant) c.step_from-step-in-On.ensures)

pub loop-step-smaller : goal.loop-step-smaller
loop-step-smaller c =
    let ds = located_definitions c.args.defs.now c.args.behind.now in
    let es = definitions c.args.defs.now in
    let main = located c.args.main.now in
    rw c.in-On.is (way_smaller ds c.args.replaced es c.args.path.now c.args.behind_main main (noted c.loop-step.uses c.in-On.used) c.in-On.next c.step_from-step-in-On.result
    (rw c.in-On.is at c.loop-step.invariant) c.step_from-step-in-On.ensures)
