use Rattle.sap_read.proofs.Parting.{located_tried}
use Rattle.sap_read.proofs.whole.put.Goals as goal

pub returns-in_ok-push-in-Some-clause-definitions_at :
    goal.returns-in_ok-push-in-Some-clause-definitions_at
returns-in_ok-push-in-Some-clause-definitions_at c =
    rw c.in-Some.is (located_tried c.push-in-Some.result c.args.parts.now.defs c.push-in-Some.new.self c.args.parts.now.behind c.push.new.self
    (record { name = c.in-Some.name; params = c.args.entry.params; body = c.args.entry.source }) c.args.entry.behind c.push-in-Some.ensures.ok c.in_ok-push-in-Some.ensures.ok c.requires)
