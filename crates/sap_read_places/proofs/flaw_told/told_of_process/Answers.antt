use Rattle.sap_read_places.proofs.FlawTold.{spoken_answers, unspoken_answer}
use Rattle.sap_read_places.proofs.flaw_told.told_of_process.Goals as goal

pub returns-in-None-clause-is : goal.returns-in-None-clause-is
returns-in-None-clause-is c =
    unspoken_answer c.args.bytes.now c.args.tokens.now c.args.file.now c.args.which c.args.path.now (rw c.in-None.is at c.in_ok-spoken_at.ensures)

pub returns-clause-is : goal.returns-clause-is
returns-clause-is c =
    spoken_answers c.args.bytes.now c.args.tokens.now c.args.file.now c.args.which c.args.path.now c.in-Some.spoken c.requires.free (rw c.in-Some.is at c.in_ok-spoken_at.ensures)
    c.spoken_told.result (rw c.as_slice.ensures.is at c.spoken_told.ensures.is)
