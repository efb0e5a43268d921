use Rattle.std.proofs.Common.{◌≡◌, ◌+◌, drop}
use Rattle.std.specs.Prelude.{option_map}
use Rattle.sap_text.specs.code.Front.{close_at}
use Rattle.sap_text.proofs.bytes.find_close.Given as goal

abbrev pub invariant-loop-k : goal.invariant-loop-k
invariant-loop-k l = close_at l.bytes ≡ option_map (λ n. n + l.k) (close_at (drop l.k l.bytes))
