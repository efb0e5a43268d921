use Rattle.std.proofs.Common.{◌≡◌}
use Rattle.sap_derive.specs.code.States.{IsState, Stays}
use Rattle.sap_derive.proofs.state.State.give_all.Given as goal

abbrev pub invariant-loop : goal.invariant-loop
invariant-loop l = record {
  state : IsState l.self;
  stays : Stays l.fn.self l.self;
  terms : l.self.terms ≡ l.fn.self.terms;
  brought : l.self.brought ≡ l.fn.self.brought;
  given : l.self.given ≡ l.counter;
}
