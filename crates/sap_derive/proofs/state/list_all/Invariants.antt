use Rattle.std.proofs.Common.{◌≡◌, ◌⊎◌, ℕ, Some}
use Rattle.std.specs.Prelude.{slice_get}
use Rattle.sap_derive.specs.code.Listed.{IsListed, AreListedBefore}
use Rattle.sap_derive.proofs.state.list_all.Given as goal

abbrev pub invariant-loop-n : goal.invariant-loop-n
invariant-loop-n l = record {
  only : (m : ℕ) → IsListed l.items m → IsListed l.fn.items m ⊎ IsListed l.fn.ns m;
  places : (k m : ℕ) → slice_get l.fn.items k ≡ Some m → slice_get l.items k ≡ Some m;
  done : AreListedBefore l.items l.fn.ns l.n-index;
}
