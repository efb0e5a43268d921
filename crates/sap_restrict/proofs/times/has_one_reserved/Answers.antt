use Rattle.std.proofs.Common.{sym, ap, ◌∙◌}
use Rattle.std.specs.Option.{option_copied}
use Rattle.sap_restrict.proofs.Singles.{all_from_one, one_from_all}
use Rattle.sap_restrict.proofs.times.has_one_reserved.Goals as goal

pub returns-in-Some : goal.returns-in-Some
returns-in-Some c =
    let first = sym c.reserved_fact.ensures ∙ ap option_copied c.in-Some.is in (
      λ t. one_from_all c.args.acts.now c.in-Some.first.now (c.is_only_reserved.ensures.0 t),
      λ o. c.is_only_reserved.ensures.1 (all_from_one c.args.acts.now c.in-Some.first.now first o),
    )
