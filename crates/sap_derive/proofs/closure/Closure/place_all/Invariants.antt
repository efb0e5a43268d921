use Rattle.std.proofs.Common.{◌≡◌}
use Rattle.sap_derive.specs.code.Closed.{IsClosure, Grows}
use Rattle.sap_derive.proofs.closure.Closure.place_all.Given as goal

abbrev pub invariant-loop : goal.invariant-loop
invariant-loop l = record {
  closure : IsClosure l.self;
  grows : Grows l.fn.self l.self;
  placed : l.self.placed ≡ l.counter;
}
