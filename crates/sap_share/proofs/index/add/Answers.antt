use Rattle.std.proofs.Common.{Some, sym, subst, ◌∙◌}
use Rattle.sap_terms.specs.NameMap.{Puts}
use Rattle.sap_share.proofs.Indexed.{told_old, told_new}
use Rattle.sap_share.proofs.index.add.Goals as goal

pub returns-then-contains_key-clause-ok : goal.returns-then-contains_key-clause-ok
returns-then-contains_key-clause-ok c = λ es t. told_old c.args.numbers.now c.args.e.now es (sym c.contains_key.ensures ∙ c.if-contains_key.true) t

pub returns-clause-ok : goal.returns-clause-ok
returns-clause-ok c =
    let put = subst (λ k. Puts c.args.numbers.now c.insert.new.self k (Some c.args.e.now.id)) c.in_ok-name.ensures c.in_ok-insert.ensures.ok in
    λ es t. told_new c.args.numbers.now c.insert.new.self c.args.e.now es put (sym c.contains_key.ensures ∙ c.if-contains_key.false) t
