use Rattle.std.proofs.Common.{rules, ◌≡◌, Ok}
use Rattle.sap_refusals.specs.RunFaultTexts.{json_fault_text}
use Rattle.sap_answer.specs.declared.refusal.Refusal.TheVariants as refusals
use Rattle.sap_replay.specs.JsonRuns.{no_run}
use Rattle.sap_replay.proofs.JsonRefused.{told_of}
use Rattle.sap_replay.proofs.json.read.Goals as goal

pub returns-in-Err-clause-refused : goal.returns-in-Err-clause-refused
returns-in-Err-clause-refused c = λ line h.
    let same : c.told.result ≡ refusals.Told line = search (rules, h) in
    let written : c.json_line.result ≡ Ok line = c.told.ensures.only line same in
    let told = rw written at c.json_line.ensures in
    record {
      why = json_fault_text c.in-Err.fault;
      cause = no_run c.requires (told_of c.args.bytes.now c.in-Err.fault c.in-Err.ensures told.0);
      layout = told.1;
    }
