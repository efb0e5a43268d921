use Rattle.std.proofs.Common.{◌∙◌, sym}
use Rattle.sap_judge.proofs.Marks.{unseen}
use Rattle.sap_judge.specs.code.Laid.{place}
use Rattle.sap_judge.proofs.laying.mark_free.Goals as goal

pub note-requires : goal.note-requires
note-requires c = unseen (place c.args.spot.now) c.args.seen.now c.args.n.now (sym c.in_ok-k.ensures ∙ c.in-None.is)
