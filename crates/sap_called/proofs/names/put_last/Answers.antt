use Rattle.std.proofs.Common.{◌∙◌, nat_eq}
use Rattle.indexmap.proofs.CallerLemmas.{insert_entry-new}
use Rattle.sap_called.proofs.Kept.{where_ok}
use Rattle.sap_called.proofs.names.put_last.Goals as goal

pub returns : goal.returns
returns c =
    where_ok c.insert.result _ c.insert.ensures.entries (c.insert.ensures.succeeds c.requires.spare)
    ∙ insert_entry-new nat_eq c.args.drawn.now c.args.number (record { word = c.args.word; which = c.args.which }) c.requires.new
