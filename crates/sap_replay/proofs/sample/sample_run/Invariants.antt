use Rattle.std.proofs.Common.{◌≡◌, ◌≤◌, ◌-◌}
use Rattle.sap_replay.specs.Sample.{sample_lines}
use Rattle.sap_replay.proofs.sample.sample_run.Given as goal

abbrev pub invariant-loop-before : goal.invariant-loop-before
invariant-loop-before l = record {
  run : l.run ≡ sample_lines l.before;
  within : l.before ≤ l.n;
}

abbrev pub decreases-loop-before : goal.decreases-loop-before
decreases-loop-before l = l.n - l.before
