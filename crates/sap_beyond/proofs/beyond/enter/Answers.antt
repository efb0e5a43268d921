use Rattle.std.proofs.Common.{ap, sym, ◌∙◌}
use Rattle.std.specs.Option.{option_copied}
use Rattle.sap_macro.specs.Sources.{definition_of, definitions, written}
use Rattle.sap_beyond.proofs.Entered.{further, goes_in}
use Rattle.sap_beyond.proofs.Indices.{not_absent, one_indexed}
use Rattle.sap_beyond.proofs.beyond.enter.Goals as goal

pub returns-in-None-clause-comes : goal.returns-in-None-clause-comes
returns-in-None-clause-comes c =
    absurd (not_absent c.args.defs.now c.args.index.now c.requires.index c.args.name.now c.args.at c.requires.at (sym c.get.ensures ∙ ap option_copied c.in-None.is))

pub returns-in_ok-step-in-Some-clause-comes : goal.returns-in_ok-step-in-Some-clause-comes
returns-in_ok-step-in-Some-clause-comes c =
    goes_in c.args.by (definitions c.args.defs.now) c.args.index.now c.args.extents.now c.requires.kept c.requires.order c.args.name.now (definition_of c.in-Some.d.now)
    (one_indexed c.args.defs.now c.args.index.now c.requires.index c.args.name.now c.args.at c.requires.at c.in-Some.d.now (sym c.get.ensures ∙ ap option_copied c.in-Some.is))
    (written c.deref.result.now) (ap written c.deref.ensures) c.args.trail.now c.args.wanted c.look.new.trail c.in_ok-step-in-Some.step c.requires.small
    c.in_ok-step-in-Some.ensures.less c.in_ok-step-in-Some.ensures.uses c.in_ok-step-in-Some.ensures.leads

pub returns-in_ok-step-in-Some-clause-further : goal.returns-in_ok-step-in-Some-clause-further
returns-in_ok-step-in-Some-clause-further c =
    further c.args.by (definitions c.args.defs.now) c.args.index.now c.args.extents.now c.requires.kept c.requires.order c.args.name.now (definition_of c.in-Some.d.now)
    (one_indexed c.args.defs.now c.args.index.now c.requires.index c.args.name.now c.args.at c.requires.at c.in-Some.d.now (sym c.get.ensures ∙ ap option_copied c.in-Some.is))
    (written c.deref.result.now) (ap written c.deref.ensures) c.in_ok-step-in-Some.step c.in_ok-step-in-Some.ensures.uses
