use Rattle.std.proofs.Common.{rules, ◌≡◌, Ok, arith}
use Rattle.std.specs.Prelude.{codes}
use Rattle.sap_answer.specs.declared.refusal.Refusal.TheVariants as refusals
use Rattle.sap_replay.specs.AcceptedFile.{too_long}
use Rattle.sap_replay.proofs.reading.accepted_file.Goals as goal

pub returns-then-bytes-gt-MOST_BYTES-clause-refused : goal.returns-then-bytes-gt-MOST_BYTES-clause-refused
returns-then-bytes-gt-MOST_BYTES-clause-refused c = λ line h.
    let same : c.told.result ≡ refusals.Told line = search (rules, h) in
    let written : c.long_file_line.result ≡ Ok line = c.told.ensures.only line same in
    record {
      why = codes "longer than 1048576 bytes";
      refused = too_long (omega (arith, c.if-bytes-gt-MOST_BYTES.true));
      layout = rw written at c.long_file_line.ensures;
    }
