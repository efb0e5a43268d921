use Rattle.std.proofs.Common.{sym, ap, ◌∙◌}
use Rattle.std.specs.Option.{option_copied}
use Rattle.sap_macro.proofs.Entries.{none_named, one_named, index_within}
use Rattle.sap_macro.proofs.index.definition_named.Goals as goal

pub returns-in-None : goal.returns-in-None
returns-in-None c = none_named c.args.defs.now c.args.index.now c.args.name.now c.requires (sym c.get.ensures ∙ ap option_copied c.in-None.is)

pub at-requires : goal.at-requires
at-requires c = index_within c.args.defs.now c.args.index.now c.args.name.now c.in-Some.k.now c.requires (sym c.get.ensures ∙ ap option_copied c.in-Some.is)

pub returns-in-Some : goal.returns-in-Some
returns-in-Some c =
    one_named c.args.defs.now c.args.index.now c.args.name.now c.in-Some.k.now c.at.result.now c.requires (sym c.get.ensures ∙ ap option_copied c.in-Some.is) c.at.ensures
