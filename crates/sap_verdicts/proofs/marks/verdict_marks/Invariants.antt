use Rattle.std.proofs.Common.{◌≡◌, ◌++◌, drop}
use Rattle.std.specs.Prelude.{flat_map}
use Rattle.sap_verdicts.specs.VerdictText.{found_marks}
use Rattle.sap_verdicts.specs.View.{found}
use Rattle.sap_verdicts.proofs.marks.verdict_marks.Given as goal

abbrev pub invariant-loop-k : goal.invariant-loop-k
invariant-loop-k l =
    l.out ++ flat_map (λ y. found_marks l.lines (found y)) (drop l.k l.findings) ≡ flat_map (λ y. found_marks l.lines (found y)) l.findings
