use Rattle.std.proofs.Common.{◌≡◌, ◌++◌, ℕ, drop}
use Rattle.sap_match.specs.code.Digests.{bucket, of_digest}
use Rattle.sap_match.proofs.moment.buckets_of.Given as goal

abbrev pub invariant-loop-x : goal.invariant-loop-x
invariant-loop-x l = (d : ℕ) → of_digest d l.x-items ≡ bucket l.buckets d ++ of_digest d (drop l.x-index l.x-items)
