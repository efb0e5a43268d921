use Rattle.sap_macro.specs.Sources.{definitions, written}
use Rattle.sap_beyond.proofs.Entered.{begins_so}
use Rattle.sap_beyond.proofs.beyond.find.Goals as goal

pub loop-step-init : goal.loop-step-init
loop-step-init c = (
  begins_so c.args.by (definitions c.args.defs.now) c.args.index.now c.in_ok-extents.extents c.in_ok-extents.ensures
      (written c.args.main.now) c.args.wanted c.look.new.trail c.in_ok-step.step c.requires.uses c.requires.small c.in_ok-step.ensures.less c.in_ok-step.ensures.uses
      (rw c.new-trail.ensures at c.in_ok-step.ensures.leads),
  c.in_ok-step.ensures.at,
)
