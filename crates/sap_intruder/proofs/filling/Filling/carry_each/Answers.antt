use Rattle.sap_intruder.proofs.Entering.{carried_more}
use Rattle.sap_intruder.proofs.Possible.{next_possible}
use Rattle.sap_intruder.proofs.filling.Filling.carry_each.Goals as goal

pub loop-k-preserved : goal.loop-k-preserved
loop-k-preserved c = carried_more c.normal_forms_are_unique.ensures c.args.self.now c.loop-k.self c.write_line.new.self c.args.lines.now c.loop-k.k c.at.result.now c.at.ensures c.loop-k.invariant c.in_ok-write_line.ensures.ok

pub write_line-requires : goal.write_line-requires
write_line-requires c = next_possible c.args.self.now c.loop-k.self c.args.lines.now c.loop-k.k c.at.result.now c.requires c.at.ensures c.loop-k.invariant
