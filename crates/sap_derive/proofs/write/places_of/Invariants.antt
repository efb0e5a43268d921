use Rattle.std.proofs.Common.{◌≡◌, ◌<◌, ℕ, length, Some}
use Rattle.std.specs.Prelude.{slice_get}
use Rattle.sap_derive.proofs.write.places_of.Given as goal

abbrev pub invariant-loop-n : goal.invariant-loop-n
invariant-loop-n l = record {
  count : length l.places ≡ l.n-index;
  each : (k n : ℕ) → k < l.n-index → slice_get l.fn.numbers k ≡ Some n → (p : ℕ) × (slice_get l.places k ≡ Some p) × (slice_get l.fn.items p ≡ Some n);
}
