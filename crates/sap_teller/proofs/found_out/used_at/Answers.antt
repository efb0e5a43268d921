use Rattle.std.specs.Global.{Box}
use Rattle.sap_teller.specs.code.Heads.{form_of, IsUsedAt}
use Rattle.sap_teller.specs.declared.doing.Doing.{Doing}
use Rattle.sap_teller.proofs.Found.{if_ok}
use Rattle.sap_teller.proofs.Kept.{used_given}
use Rattle.sap_teller.proofs.found_out.used_at.Goals as goal

pub returns : goal.returns
returns c =
    let first = c.args.before.now.facts in
    if_ok c.used.result _ (λ (x : Box Doing). IsUsedAt c.args.before.now.cited c.args.config.now.facts first c.args.chosen (form_of c.args.form) x.value)
    (λ (x : Box Doing) h. used_given _ c.in_ok-right.right c.args.config.now.facts first c.added_count.result c.args.chosen (form_of c.args.form) x.value c.in_ok-right.ensures c.added_count.ensures h) c.used.ensures
