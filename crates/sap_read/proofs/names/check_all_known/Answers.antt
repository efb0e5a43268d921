use Rattle.std.proofs.Common.{◌≡◌, Some, ap, rules, sym, ◌∙◌}
use Rattle.std.specs.Option.{option_map}
use Rattle.sap_read.specs.declared.fault.ReadFault.TheVariants.{UnknownProcess as IsUnknown}
use Rattle.sap_read.specs.code.Known.{used_name}
use Rattle.sap_read.proofs.Known.{unknown_none, unknown_some}
use Rattle.sap_read.proofs.names.check_all_known.Goals as goal

pub returns-in-None-clause-known : goal.returns-in-None-clause-known
returns-in-None-clause-known c =
    unknown_none c.located_is_written.ensures c.args.entries.now (ap (option_map used_name) (sym c.in-None.is) ∙ c.in_ok-first_undefined.ensures)

pub returns-in_ok-copy-in-Some-clause-unknown : goal.returns-in_ok-copy-in-Some-clause-unknown
returns-in_ok-copy-in-Some-clause-unknown c = λ e h more.
    let same : IsUnknown c.in_ok-copy-in-Some.field-0 ≡ e = search (rules, h) in
    ap (option_map IsUnknown) (unknown_some c.located_is_written.ensures c.args.entries.now c.in-Some.found (ap (option_map used_name) (sym c.in-Some.is) ∙ c.in_ok-first_undefined.ensures))
    ∙ ap (λ x. Some (IsUnknown x)) (sym c.in_ok-copy-in-Some.ensures) ∙ ap Some same
