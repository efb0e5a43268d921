use Rattle.sap_macro.specs.Sources.{definition_of, definitions, written}
use Rattle.sap_uses.specs.Sizes.{size_in}
use Rattle.sap_uses.proofs.Heads.{reached_on, reached_smaller}
use Rattle.sap_uses.proofs.large.behind_uses.Goals as goal

pub loop-r-init : goal.loop-r-init
loop-r-init c = c.in_ok-r.ensures (definitions c.args.defs.now)

pub loop-r-smaller : goal.loop-r-smaller
loop-r-smaller c =
    rw c.in-Body.is
    (reached_smaller (definitions c.args.defs.now) (size_in c.in-Body.inner) (definition_of c.in-Use.e.now) c.in-Use.further.now (written c.in-Body.at.now) c.in_ok-r-in-Use.r
    c.in-Use.ensures (c.in_ok-r-in-Use.ensures (definitions c.args.defs.now)))

pub loop-r-preserved : goal.loop-r-preserved
loop-r-preserved c =
    let before = rw c.in-Body.is at c.loop-r.invariant in
    reached_on (definitions c.args.defs.now) (size_in c.args.sizes.now) (definition_of c.args.d.now) c.args.args.now (size_in c.in-Body.inner) (written c.in-Body.at.now)
    (definition_of c.in-Use.e.now) c.in-Use.further.now c.in_ok-r-in-Use.r before c.in-Use.ensures (c.in_ok-r-in-Use.ensures (definitions c.args.defs.now))
