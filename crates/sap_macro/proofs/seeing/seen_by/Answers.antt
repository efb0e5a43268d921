use Rattle.std.proofs.Common.{◌∙◌}
use Rattle.sap_macro.specs.Sources.{definitions, written}
use Rattle.sap_macro.proofs.Watched.{seen_whole}
use Rattle.sap_macro.proofs.seeing.seen_by.Goals as goal

pub returns : goal.returns
returns c = c.in_ok-made.ensures ∙ seen_whole (definitions c.args.defs.now) (written c.args.source.now)
