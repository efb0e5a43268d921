use Rattle.std.proofs.Common.{rules, ◌≡◌, Ok}
use Rattle.sap_refusals.specs.ShortFaultTexts.{short_fault_text}
use Rattle.sap_answer.specs.declared.refusal.Refusal.TheVariants as refusals
use Rattle.sap_replay.specs.ShortRuns.{no_run}
use Rattle.sap_replay.proofs.ShortRefused.{short_stops, told_of}
use Rattle.sap_replay.proofs.fill.read.Goals as goal

pub returns-in-Err-clause-refused : goal.returns-in-Err-clause-refused
returns-in-Err-clause-refused c = λ line h.
    let same : c.told.result ≡ refusals.Told line = search (rules, h) in
    let written : c.short_line.result ≡ Ok line = c.told.ensures.only line same in
    let told = rw written at c.short_line.ensures in
    record {
      why = short_fault_text c.in-Err.fault;
      cause = no_run c.requires.short (told_of c.args.bytes.now c.in-Err.fault c.in-Err.ensures told.0);
      layout = told.1;
    }

pub returns-in-Ok-clause-refused : goal.returns-in-Ok-clause-refused
returns-in-Ok-clause-refused c = λ line h.
    short_stops _ c.args.bytes.now _ line (record { few = c.requires.short; read = c.in-Ok.ensures }) (c.text_of_short.ensures.refused line h)
