use Rattle.std.proofs.Common.{◌≤◌, ap, ◌∙◌, subst, arith}
use Rattle.sap_macro.specs.Sources.{definition_of, definitions, written}
use Rattle.sap_macro.specs.Walked.{steps_in}
use Rattle.sap_macro.specs.code.Steps.{built}
use Rattle.sap_macro.proofs.Built.{built_same, built_use, steps_use}
use Rattle.sap_macro.proofs.building.passed.Goals as goal

pub returns-clause-same : goal.returns-clause-same
returns-clause-same c =
    let ds = definitions c.args.defs.now in
    let inner = c.in_ok-inner.inner in
    let later = c.entered.new.chosen in
    built_same ds (written c.form_of.result.now) (written c.deref.result.now) c.form_of.ensures.same inner later
    ∙ ap (λ b. built ds inner (written b) later) c.deref.ensures
    ∙ ap (λ n. built ds inner (written c.args.d.now.body.value) n) c.in_ok-inner.ensures.taken
    ∙ built_use ds (definition_of c.args.d.now) c.args.args.now c.args.s.now inner c.args.chosen.now c.requires.resolved c.requires.formed
    c.in_ok-inner.ensures.inner

pub returns-clause-steps : goal.returns-clause-steps
returns-clause-steps c =
    let ds = definitions c.args.defs.now in
    let less = steps_use ds (definition_of c.args.d.now) c.args.args.now c.requires.resolved in
    let no_more : steps_in ds (written c.form_of.result.now) ≤ steps_in ds (written c.args.d.now.body.value) =
    subst (λ s. steps_in ds (written c.form_of.result.now) ≤ steps_in ds (written s)) c.deref.ensures c.form_of.ensures.steps in
    omega (arith, less, no_more)
