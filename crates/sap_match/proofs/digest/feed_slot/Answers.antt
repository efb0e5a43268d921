use Rattle.std.proofs.Common.{map}
use Rattle.sap_match.specs.View.{held}
use Rattle.sap_match.proofs.Digests.{slot_got}
use Rattle.sap_terms.specs.View.{tree}
use Rattle.sap_match.proofs.digest.feed_slot.Goals as goal

pub returns-in-Some : goal.returns-in-Some
returns-in-Some c =
    slot_got c.args.marks.now c.args.at c.args.v.now (map held c.args.values.now.items) c.args.state.now c.hash.new.state (tree c.in-Some.t.now) c.in-Some.ensures.term c.in-Some.ensures.within c.hash.ensures
