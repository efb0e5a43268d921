use Rattle.std.proofs.Common.{◌≡◌, ◌<◌, ◌⊎◌, ℕ, Some}
use Rattle.std.specs.Prelude.{slice_get}
use Rattle.sap_derive.specs.code.Listed.{IsListed, StandOnce}
use Rattle.sap_derive.specs.code.Needed.{IsNewRankOf, IsCovered}
use Rattle.sap_derive.proofs.needed.need_all.Given as goal

abbrev pub invariant-loop-n : goal.invariant-loop-n
invariant-loop-n l = record {
  kept : (k j : ℕ) → slice_get l.fn.ranks k ≡ Some j → slice_get l.ranks k ≡ Some j;
  only : (j : ℕ) → IsListed l.ranks j → IsListed l.fn.ranks j ⊎ IsNewRankOf l.fn.known l.fn.entries l.fn.numbers j;
  once : StandOnce l.fn.ranks → StandOnce l.ranks;
  done : (k n : ℕ) → k < l.n-index → slice_get l.fn.numbers k ≡ Some n → IsCovered l.fn.known l.fn.entries l.ranks n;
}
