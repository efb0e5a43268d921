use Rattle.std.proofs.Common.{◌+◌, length}
use Rattle.sap_process.specs.Proc.{proc}
use Rattle.sap_captures.proofs.AllTold.{all_set, as_many}
use Rattle.sap_captures.proofs.told.flags_of.Goals as goal

pub returns-clause-flags : goal.returns-clause-flags
returns-clause-flags c =
    all_set c.args.desk.now c.args.kind (proc c.args.process.now) _ c.walk_from.new.walk (length c.args.desk.now.tokens.now + 1) c.new-trail.ensures c.new-scope.ensures c.in_ok-flags.ensures (c.in_ok-walk_from.ensures.walked 0)

pub returns-clause-count : goal.returns-clause-count
returns-clause-count c =
    as_many c.args.desk.now c.args.kind (proc c.args.process.now) _ c.walk_from.new.walk (length c.args.desk.now.tokens.now + 1) c.new-trail.ensures c.new-scope.ensures c.in_ok-flags.ensures (c.in_ok-walk_from.ensures.walked 0)
