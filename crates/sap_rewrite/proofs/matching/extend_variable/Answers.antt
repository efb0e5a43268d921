use Rattle.std.proofs.Common.{sym, ◌∙◌}
use Rattle.sap_rewrite.proofs.WalkLemmas.{new_binding}
use Rattle.sap_rewrite.proofs.matching.extend_variable.Goals as goal

pub returns-in_ok-push-in-None : goal.returns-in_ok-push-in-None
returns-in_ok-push-in-None c =
    new_binding c.args.v.now c.args.t.now c.args.b.now c.push.new.self (record { var = c.in_ok-var-in-None.var; term = c.in_ok-term-in-None.term }) (sym c.in-None.ensures) (sym c.fits.ensures ∙ c.if-not-fits.false) c.in_ok-var-in-None.ensures c.in_ok-term-in-None.ensures c.in_ok-push-in-None.ensures.ok
