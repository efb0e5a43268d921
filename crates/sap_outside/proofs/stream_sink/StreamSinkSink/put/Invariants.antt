use Rattle.std.proofs.Common.{◌≡◌}
use Rattle.sap_outside.proofs.stream_sink.StreamSinkSink.put.Given as goal

abbrev pub invariant-loop : goal.invariant-loop
invariant-loop g l = l.self.count ≡ l.initial.self.count
