use Rattle.std.proofs.Common.{sym, ap, ◌∙◌}
use Rattle.std.specs.Option.{option_copied}
use Rattle.sap_macro.proofs.Endings.{end_index, end_within_all, ends_with}
use Rattle.sap_macro.proofs.Entries.{none_named, one_named}
use Rattle.sap_macro.proofs.ends.definition_with_end.Goals as goal

pub returns-in-None : goal.returns-in-None
returns-in-None c = none_named c.args.defs.now c.args.index.now c.args.name.now c.requires.index (sym c.get.ensures ∙ ap option_copied c.in-None.is)

pub at-requires : goal.at-requires
at-requires c =
    end_within_all c.args.defs.now c.args.index.now c.args.ends.now c.args.name.now c.in-Some.k.now c.requires.index c.requires.ends (sym c.get.ensures ∙ ap option_copied c.in-Some.is)

pub at-end-requires : goal.at-end-requires
at-end-requires c =
    end_index c.args.defs.now c.args.index.now c.args.ends.now c.args.name.now c.in-Some.k.now c.at.result.now c.requires.index c.requires.ends
    (sym c.get.ensures ∙ ap option_copied c.in-Some.is) c.at.ensures

pub returns-in-Some : goal.returns-in-Some
returns-in-Some c = (
  one_named c.args.defs.now c.args.index.now c.args.name.now c.in-Some.k.now c.at-d.result.now c.requires.index (sym c.get.ensures ∙ ap option_copied c.in-Some.is) c.at-d.ensures,
  ends_with c.args.defs.now c.args.ends.now c.in-Some.k.now c.at.result.now c.at-d.result.now c.at-end.result.now c.deref.result.now c.requires.ends c.at-d.ensures c.at.ensures
      c.at-end.ensures c.deref.ensures,
)
