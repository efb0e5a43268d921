use Rattle.std.specs.Global.{Box}
use Rattle.sap_teller.proofs.Found.{if_ok}
use Rattle.sap_teller.proofs.Kept.{is_before}
use Rattle.sap_teller.specs.declared.before.Before.{Before}
use Rattle.sap_teller.specs.code.Heads.{IsKept, IsBefore}
use Rattle.sap_teller.proofs.before.kept_before.Goals as goal

pub returns-clause-ok : goal.returns-clause-ok
returns-clause-ok c =
    let z = c.stored_at.new.config in
    let head = c.in_ok-head.head in
    let sender = c.in_ok-sender.sender in
    let cited = c.in_ok-cited.cited in
    let stored = c.in_ok-stored.stored in
    if_ok c.kept_of.result (λ (b : Box Before). IsKept z c.args.facts cited stored head sender b.value) (λ (b : Box Before). IsBefore c.args.config.now c.args.step.now b.value)
    (λ (b : Box Before) k. is_before c.args.config.now z c.args.facts cited c.args.step.now stored head sender b.value c.in_ok-stored.ensures.kept k c.requires c.in_ok-cited.ensures c.in_ok-stored.ensures.ok c.in_ok-head.ensures c.in_ok-sender.ensures) c.kept_of.ensures
