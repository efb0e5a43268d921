use Rattle.std.proofs.Common.{◌≡◌, ◌-◌, ℕ, List, drop, length, map}
use Rattle.std.specs.List.{list_any}
use Rattle.std.specs.Str.{bytes_eq}
use Rattle.sap_formula.specs.Slim.{binds, lasts}
use Rattle.sap_judge.specs.code.Claiming.{slots_of}
use Rattle.sap_judge.specs.code.Laid.{layers}
use Rattle.sap_search.specs.View.{slotted}
use Rattle.sap_judge.proofs.claiming.slots_of.Given as goal

abbrev pub invariant-loop-k : goal.invariant-loop-k
invariant-loop-k l = record {
  later : (n : List ℕ) → list_any (bytes_eq n) l.later ≡ binds (drop (length l.bs - l.k) l.bs) n;
  out : map slotted l.out ≡ slots_of (layers l.levels) (lasts (drop (length l.bs - l.k) l.bs));
}
