use Rattle.std.proofs.Common.{true}
use Rattle.sap_tell.specs.ToldText.{shows_text}
use Rattle.sap_teller.proofs.Pieces.{pushed_next}
use Rattle.sap_teller.proofs.outcomes.push_shows.Goals as goal

pub loop-k-preserved : goal.loop-k-preserved
loop-k-preserved c = pushed_next (shows_text c.args.names.now) true c.args.label.now c.loop-k.k c.at.result.now c.args.text.now c.loop-k.text c.push_show.new.text c.at.ensures c.loop-k.invariant c.in_ok-push_show.ensures
