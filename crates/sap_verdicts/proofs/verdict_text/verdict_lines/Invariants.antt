use Rattle.std.proofs.Common.{◌≡◌, ◌++◌, drop, map}
use Rattle.sap_verdicts.specs.VerdictText.{verdict_line}
use Rattle.sap_verdicts.specs.View.{found}
use Rattle.sap_verdicts.proofs.verdict_text.verdict_lines.Given as goal

abbrev pub invariant-loop-k : goal.invariant-loop-k
invariant-loop-k l =
    l.out ++ map (λ y. verdict_line l.names l.lines l.standing (found y)) (drop l.k l.findings)
    ≡ map (λ y. verdict_line l.names l.lines l.standing (found y)) l.findings
