use Rattle.std.proofs.Common.{◌≡◌, ◌+◌, ◌-◌, ◌++◌, ◌∷◌, [], List, take, arith, subst, ap, ◌∙◌}
use Rattle.sap_formula.specs.Checked.{enter}
use Rattle.sap_formula.specs.declared.binder.Binder.{Binder}
use Rattle.sap_formula.proofs.Firsts.{entered_more}
use Rattle.sap_formula.proofs.scope.entered.Goals as goal

pub loop-k-preserved : goal.loop-k-preserved
loop-k-preserved c =
    let bs = c.args.bs.now in
    let k = c.loop-k.k - 1 in
    let one : c.loop-k.k ≡ k + 1 = omega arith in
    let before : (scope : List Binder) → enter bs scope ≡ c.loop-k.turned ++ enter (take (k + 1) bs) scope = λ scope. subst (λ j. enter bs scope ≡ c.loop-k.turned ++ enter (take j bs) scope) one (c.loop-k.invariant.1 scope) in
    (omega arith, entered_more bs c.loop-k.turned c.push.new.self k c.at.result.now c.at.ensures (c.in_ok-push.ensures.ok ∙ ap (λ b. c.loop-k.turned ++ b ∷ []) c.in_ok-copy.ensures) before)
