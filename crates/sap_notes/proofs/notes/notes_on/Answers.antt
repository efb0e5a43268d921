use Rattle.std.proofs.Common.{arith}
use Rattle.sap_notes.specs.code.Ranked.{AreRanked}
use Rattle.sap_notes.proofs.Whole.{all_ranked, on_ok}
use Rattle.sap_notes.proofs.notes.notes_on.Goals as goal

pub returns-clause-notes : goal.returns-clause-notes
returns-clause-notes c =
    on_ok _ _ _ (λ notes ranked. all_ranked c.args.bytes.now notes ranked)
    (c.both.ensures c.args.bytes.now 0 5 7 (omega arith) (omega arith) c.in_ok-words.ensures c.in_ok-names.ensures)

pub returns-clause-inside : goal.returns-clause-inside
returns-clause-inside c =
    on_ok _ (AreRanked 0 7 c.args.bytes.now) _ (λ notes ranked. ranked.inside)
    (c.both.ensures c.args.bytes.now 0 5 7 (omega arith) (omega arith) c.in_ok-words.ensures c.in_ok-names.ensures)
