use Rattle.sap_sides.proofs.Kept.{messages_ground, messages_over}
use Rattle.sap_sides.proofs.shared_fact.share_fact.Goals as goal

pub put_all-requires-clause-ground : goal.put_all-requires-clause-ground
put_all-requires-clause-ground c = messages_ground c.args.table.now.sig c.args.f.now.args c.requires

pub put_all-requires-clause-over : goal.put_all-requires-clause-over
put_all-requires-clause-over c = messages_over c.args.table.now.sig c.args.f.now.args c.requires
