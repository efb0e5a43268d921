use Rattle.std.proofs.Common.{◌≡◌, ◌≤◌, length, drop}
use Rattle.sap_uses.specs.Sizes.{size_in}
use Rattle.sap_uses.specs.code.Walks.{put_sizes, sizes_of}
use Rattle.sap_uses.proofs.sizes.by_params.Given as goal

abbrev pub invariant-loop-k : goal.invariant-loop-k
invariant-loop-k l = record {
  params : l.k ≤ length l.params;
  args : l.k ≤ length l.args;
  same : size_in l.inner ≡ put_sizes (drop l.k l.params) (sizes_of (size_in l.sizes) (drop l.k l.args));
}

abbrev pub decreases-loop-k : goal.decreases-loop-k
decreases-loop-k l = l.k
