use Rattle.std.proofs.Common.{rules, ◌≡◌, Ok, arith}
use Rattle.std.specs.Prelude.{codes}
use Rattle.sap_answer.specs.declared.refusal.Refusal.TheVariants as refusals
use Rattle.sap_replay.specs.AcceptedTheory.{too_long}
use Rattle.sap_replay.proofs.theory_reading.accepted_theory.Goals as goal

pub returns-then-bytes-gt-MOST_THEORY_BYTES-clause-refused : goal.returns-then-bytes-gt-MOST_THEORY_BYTES-clause-refused
returns-then-bytes-gt-MOST_THEORY_BYTES-clause-refused c = λ line h.
    let same : c.told.result ≡ refusals.Told line = search (rules, h) in
    let written : c.long_theory_line.result ≡ Ok line = c.told.ensures.only line same in
    record {
      why = codes "longer than 16777216 bytes";
      refused = too_long (omega (arith, c.if-bytes-gt-MOST_THEORY_BYTES.true));
      layout = rw written at c.long_theory_line.ensures;
    }
