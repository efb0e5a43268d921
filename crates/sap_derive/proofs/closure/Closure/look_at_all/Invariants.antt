use Rattle.std.proofs.Common.{◌≡◌, ◌<◌, ℕ, Some}
use Rattle.std.specs.Prelude.{slice_get}
use Rattle.sap_derive.specs.code.Closed.{IsClosure, Grows, IsWaitAt}
use Rattle.sap_derive.specs.declared.grounds.Wait.{Wait}
use Rattle.sap_derive.proofs.closure.Closure.look_at_all.Given as goal

abbrev pub invariant-loop : goal.invariant-loop
invariant-loop l = record {
  closure : IsClosure l.self;
  grows : Grows l.fn.self l.self;
  placed : l.self.placed ≡ l.fn.self.placed;
  done : l.self.done ≡ l.fn.self.done;
  looked : l.self.looked ≡ l.counter;
  known : slice_get l.self.known l.self.done ≡ Some l.number;
  within : (k : ℕ) (w : Wait) → IsWaitAt l.self.waiting.items l.number k w → k < l.count;
  all : (k : ℕ) → k < l.count → (w : Wait) × IsWaitAt l.self.waiting.items l.number k w;
}
