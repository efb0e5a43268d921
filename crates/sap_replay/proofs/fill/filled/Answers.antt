use Rattle.std.proofs.Common.{rules, ◌≡◌, Ok, arith}
use Rattle.sap_outside.specs.declared.run_refusal.RunRefusal.TheVariants as refusal
use Rattle.sap_refusals.specs.RunFaultTexts.{run_refusal_text}
use Rattle.sap_answer.specs.declared.refusal.Refusal.TheVariants as refusals
use Rattle.sap_replay.specs.ShortRuns.{too_long}
use Rattle.sap_replay.proofs.fill.filled.Goals as goal

pub returns-then-bytes-gt-MOST_RUN_BYTES-clause-refused : goal.returns-then-bytes-gt-MOST_RUN_BYTES-clause-refused
returns-then-bytes-gt-MOST_RUN_BYTES-clause-refused c = λ line h.
    let same : c.told.result ≡ refusals.Told line = search (rules, h) in
    let written : c.no_run_line.result ≡ Ok line = c.told.ensures.only line same in
    record {
      why = run_refusal_text refusal.TooLong;
      cause = too_long (omega (arith, c.if-bytes-gt-MOST_RUN_BYTES.true));
      layout = rw written at c.no_run_line.ensures;
    }
