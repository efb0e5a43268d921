use Rattle.std.proofs.Common.{arith}
use Rattle.std.proofs.lemmas.Grind.{common_steps}
use Rattle.sap_macro.specs.Sources.{definitions, located}
use Rattle.sap_origin.specs.Definitions.{located_definitions}
use Rattle.sap_roles.proofs.Answered.{other_answers, there_answers}
use Rattle.sap_roles.proofs.Plain.{zeros, zeros_for_each}
use Rattle.sap_roles.proofs.Walked.{begins_on, tells_next, way_smaller}
use Rattle.sap_roles.proofs.role.role_of.Goals as goal

pub loop-step-init : goal.loop-step-init
loop-step-init c = λ ns behind count.
    let ds = located_definitions c.args.defs.now ns in
    let es = definitions c.args.defs.now in
    tells_next ds es c.args.path.now behind (located c.args.main.now) _ c.step_from-step.result
    (begins_on ds es c.args.path.now behind c.args.main c.len.result (grind (arith, common_steps, c.len.ensures)) c.requires.uses) (λ s. c.step_from-step.ensures ns s count)

pub loop-step-preserved : goal.loop-step-preserved
loop-step-preserved c = λ ns behind count.
    let ds = located_definitions c.args.defs.now ns in
    let es = definitions c.args.defs.now in
    tells_next ds es c.args.path.now behind (located c.args.main.now) c.in-On.next c.step_from-step-in-On.result
    (rw c.in-On.is at c.loop-step.invariant ns behind count) (λ s. c.step_from-step-in-On.ensures ns s count)

pub loop-step-smaller : goal.loop-step-smaller
loop-step-smaller c =
    let ns = zeros c.args.defs.now in
    let count = zeros_for_each c.args.defs.now in
    let ds = located_definitions c.args.defs.now ns in
    let es = definitions c.args.defs.now in
    rw c.in-On.is (way_smaller ds es c.args.path.now 0 (located c.args.main.now) c.in-On.next c.step_from-step-in-On.result
    (rw c.in-On.is at c.loop-step.invariant ns 0 count) (λ s. c.step_from-step-in-On.ensures ns s count))

pub returns-in-There : goal.returns-in-There
returns-in-There c = λ ns behind count.
    let ds = located_definitions c.args.defs.now ns in
    let es = definitions c.args.defs.now in
    there_answers es ds c.args.path.now behind (located c.args.main.now) c.in-There.role (rw c.in-There.is at c.loop-step.invariant ns behind count)

pub returns-in_default-step : goal.returns-in_default-step
returns-in_default-step c = λ ns behind count.
    let ds = located_definitions c.args.defs.now ns in
    let es = definitions c.args.defs.now in
    other_answers es ds c.args.path.now behind (located c.args.main.now) c.loop-step.step (c.loop-step.invariant ns behind count) c.in_default-step.not-There c.in_default.not-On
