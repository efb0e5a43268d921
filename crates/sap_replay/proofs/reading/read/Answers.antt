use Rattle.std.proofs.Common.{rules, ◌≡◌, Ok, refl}
use Rattle.sap_answer.specs.declared.refusal.Refusal.TheVariants as refusals
use Rattle.sap_refusals.specs.Refusals.{fault_text}
use Rattle.sap_replay.specs.AcceptedFile.{unread}
use Rattle.sap_replay.proofs.reading.read.Goals as goal

pub returns-in-Err-clause-refused : goal.returns-in-Err-clause-refused
returns-in-Err-clause-refused c = λ line h.
    let same : c.told.result ≡ refusals.Told line = search (rules, h) in
    let written : c.file_line.result ≡ Ok line = c.told.ensures.only line same in
    let told = rw written at c.file_line.ensures in
    record {
      why = fault_text c.in-Err.fault;
      refused = unread c.requires (c.in-Err.ensures.refused c.in-Err.fault refl told.0);
      layout = told.1;
    }
