use Rattle.sap_process.specs.Proc.{proc}
use Rattle.sap_read_places.proofs.OtherFlaws.{spoken_answers, unspoken_answer}
use Rattle.sap_read_places.proofs.other_flaw_told.other_of_process.Goals as goal

pub returns-in-None-clause-is : goal.returns-in-None-clause-is
returns-in-None-clause-is c =
    unspoken_answer c.args.bytes.now c.args.tokens.now c.args.file.now c.args.which c.args.path.now (rw c.in-None.is at c.in_ok-spoken_at.ensures)

pub returns-clause-is : goal.returns-clause-is
returns-clause-is c =
    spoken_answers c.args.bytes.now c.args.tokens.now c.args.file.now c.args.which c.args.path.now c.in-Some.spoken (proc c.args.process.now) c.requires.is
    (rw c.in-Some.is at c.in_ok-spoken_at.ensures) c.other_spoken_told.result c.other_spoken_told.ensures.is
