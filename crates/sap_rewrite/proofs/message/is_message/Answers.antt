use Rattle.std.proofs.Common.{sym, ◌∙◌}
use Rattle.sap_rewrite.proofs.Messages.{is_message_where}
use Rattle.sap_rewrite.proofs.message.is_message.Goals as goal

pub returns-then-not-fits : goal.returns-then-not-fits
returns-then-not-fits c = (λ h. cc, λ m. cc (m.sorted, c.fits.ensures, c.if-not-fits.true))

pub returns-then-not-is_ground : goal.returns-then-not-is_ground
returns-then-not-is_ground c = (λ h. cc, λ m. cc (c.is_ground.ensures.ground.1 m.ground, c.if-not-is_ground.true))

pub returns-then-not-is_over : goal.returns-then-not-is_over
returns-then-not-is_over c = (λ h. cc, λ m. cc (c.is_over.ensures.over.1 m.over, c.if-not-is_over.true))

pub returns : goal.returns
returns c =
    let fit = sym c.fits.ensures ∙ c.if-not-fits.false in
    let ground = c.is_ground.ensures.ground.0 c.if-not-is_ground.false in
    let over = c.is_over.ensures.over.0 c.if-not-is_over.false in
    let w = is_message_where c.args.sig.now c.args.sort c.args.t.now c.in_ok-form.form fit ground over c.in_ok-form.ensures in
    (λ h. w.0 (c.same.ensures.equal.0 h), λ m. c.same.ensures.equal.1 (w.1 m))
