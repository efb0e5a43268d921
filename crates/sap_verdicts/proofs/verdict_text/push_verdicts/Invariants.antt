use Rattle.std.proofs.Common.{◌≡◌, ◌++◌, drop, codes}
use Rattle.std.specs.Prelude.{flat_map}
use Rattle.sap_verdicts.specs.VerdictText.{verdict_line}
use Rattle.sap_verdicts.specs.View.{found}
use Rattle.sap_verdicts.proofs.verdict_text.push_verdicts.Given as goal

abbrev pub invariant-loop-k : goal.invariant-loop-k
invariant-loop-k l =
    l.text ++ flat_map (λ y. verdict_line l.names l.lines l.standing (found y) ++ codes "\n") (drop l.k l.findings)
    ≡ l.initial.text ++ flat_map (λ y. verdict_line l.names l.lines l.standing (found y) ++ codes "\n") l.findings
