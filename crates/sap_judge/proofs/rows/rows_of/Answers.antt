use Rattle.sap_judge.proofs.RowLaws.{times_more}
use Rattle.sap_judge.proofs.rows.rows_of.Goals as goal

pub loop-k-preserved : goal.loop-k-preserved
loop-k-preserved c = times_more c.args.trace.now c.loop-k.rows c.note_facts.new.rows c.loop-k.k c.at.result.now c.loop-k.invariant c.at.ensures c.in_ok-note_facts.ensures
