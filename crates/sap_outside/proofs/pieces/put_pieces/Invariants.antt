use Rattle.std.proofs.Common.{◌≤◌, ◌-◌, length}
use Rattle.sap_outside.specs.code.PutUpTo.{IsPutUpTo}
use Rattle.sap_outside.proofs.pieces.put_pieces.Given as goal

abbrev pub invariant-loop-at : goal.invariant-loop-at
invariant-loop-at g l = record {
  put : IsPutUpTo (g.O.Sink.seen l.initial.out).written (g.O.Sink.seen l.out).written (g.O.Sink.seen l.initial.out).asked (g.O.Sink.seen l.out).asked l.text l.at;
  faults : (g.O.Sink.seen l.initial.out).faults ≤ (g.O.Sink.seen l.out).faults;
  wants : (g.O.Sink.seen l.initial.out).wants ≤ (g.O.Sink.seen l.out).wants;
}

abbrev pub decreases-loop-at : goal.decreases-loop-at
decreases-loop-at g l = length l.text - l.at
