use Rattle.std.proofs.Common.{sym, ap, ◌∙◌}
use Rattle.std.specs.Option.{option_copied}
use Rattle.sap_terms.specs.NameMap.{value_at}
use Rattle.sap_share.proofs.NodeKeys.{number_put, number_there}
use Rattle.sap_share.proofs.nodes.number.Goals as goal

pub returns-clause-number : goal.returns-clause-number
returns-clause-number c = rw (← c.in_ok-copied.ensures) (number_there c.args.names.now c.insert.new.self c.in_ok-copied.copied c.args.next c.in_ok-insert.ensures.ok)

pub returns-clause-keeps : goal.returns-clause-keeps
returns-clause-keeps c =
    let none = ap (value_at c.args.names.now) c.in_ok-copied.ensures ∙ sym c.get.ensures ∙ ap option_copied c.in_default.is in
    number_put c.args.names.now c.insert.new.self c.in_ok-copied.copied none c.args.next c.in_ok-insert.ensures.ok
