use Rattle.std.proofs.Common.{◌+◌, ◌-◌, arith, subst, sym, ◌∙◌}
use Rattle.sap_theory.specs.code.Named.{AreSeen}
use Rattle.sap_theory.proofs.Named.{repeated_here, single_here}
use Rattle.sap_theory.proofs.checking.names.first_repeated_at.Goals as goal

pub loop-k-preserved-then-branch : goal.loop-k-preserved-then-branch
loop-k-preserved-then-branch c =
    let before : AreSeen c.args.names.now (c.loop-k.k - 1 + 1) c.loop-k.behind c.loop-k.found =
    subst (λ n. AreSeen c.args.names.now n c.loop-k.behind c.loop-k.found) (omega (arith, c.loop-k-test.true)) c.loop-k.invariant.1 in
    (omega (arith, c.loop-k.invariant.0), repeated_here c.args.names.now (c.loop-k.k - 1) c.at.result.now c.loop-k.behind c.is_repeated.new.names c.loop-k.found c.at.ensures before c.in_ok-is_repeated.ensures.more (sym c.in_ok-is_repeated.ensures.is ∙ c.if-branch.true))

pub loop-k-preserved : goal.loop-k-preserved
loop-k-preserved c =
    let before : AreSeen c.args.names.now (c.loop-k.k - 1 + 1) c.loop-k.behind c.loop-k.found =
    subst (λ n. AreSeen c.args.names.now n c.loop-k.behind c.loop-k.found) (omega (arith, c.loop-k-test.true)) c.loop-k.invariant.1 in
    (omega (arith, c.loop-k.invariant.0), single_here c.args.names.now (c.loop-k.k - 1) c.at.result.now c.loop-k.behind c.is_repeated.new.names c.loop-k.found c.at.ensures before c.in_ok-is_repeated.ensures.more (sym c.in_ok-is_repeated.ensures.is ∙ c.if-branch.false))
