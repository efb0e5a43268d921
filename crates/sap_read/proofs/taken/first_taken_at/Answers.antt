use Rattle.std.proofs.Common.{◌+◌, ◌-◌, ◌&&◌, arith, subst, sym, ◌∙◌}
use Rattle.sap_restrict.specs.Restrictions.{is_generated}
use Rattle.sap_read.specs.code.Label.{AreSeen}
use Rattle.sap_read.proofs.Labelled.{taken_here, free_here}
use Rattle.sap_read.proofs.taken.first_taken_at.Goals as goal

pub loop-k-preserved-then-branch : goal.loop-k-preserved-then-branch
loop-k-preserved-then-branch c =
    let before : AreSeen (λ x. c.args.generated && is_generated x) c.args.names.now (c.loop-k.k - 1 + 1) c.loop-k.behind c.loop-k.found =
    subst (λ n. AreSeen (λ x. c.args.generated && is_generated x) c.args.names.now n c.loop-k.behind c.loop-k.found) (omega (arith, c.loop-k-test.true)) c.loop-k.invariant.1 in
    (omega (arith, c.loop-k.invariant.0), taken_here (λ x. c.args.generated && is_generated x) c.args.names.now (c.loop-k.k - 1) c.at.result.now c.loop-k.behind c.is_taken.new.names c.loop-k.found c.at.ensures before c.in_ok-is_taken.ensures.more (sym c.in_ok-is_taken.ensures.is ∙ c.if-branch.true))

pub loop-k-preserved : goal.loop-k-preserved
loop-k-preserved c =
    let before : AreSeen (λ x. c.args.generated && is_generated x) c.args.names.now (c.loop-k.k - 1 + 1) c.loop-k.behind c.loop-k.found =
    subst (λ n. AreSeen (λ x. c.args.generated && is_generated x) c.args.names.now n c.loop-k.behind c.loop-k.found) (omega (arith, c.loop-k-test.true)) c.loop-k.invariant.1 in
    (omega (arith, c.loop-k.invariant.0), free_here (λ x. c.args.generated && is_generated x) c.args.names.now (c.loop-k.k - 1) c.at.result.now c.loop-k.behind c.is_taken.new.names c.loop-k.found c.at.ensures before c.in_ok-is_taken.ensures.more (sym c.in_ok-is_taken.ensures.is ∙ c.if-branch.false))
