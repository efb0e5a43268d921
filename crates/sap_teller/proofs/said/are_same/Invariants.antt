use Rattle.std.proofs.Common.{◌≡◌, drop, length}
use Rattle.sap_tell.specs.Said.{are_same}
use Rattle.sap_teller.proofs.said.are_same.Given as goal

abbrev pub invariant-loop-k : goal.invariant-loop-k
invariant-loop-k l = (length l.ts ≡ length l.us) × (are_same l.ts l.us ≡ are_same (drop l.k l.ts) (drop l.k l.us))
