use Rattle.std.proofs.Common.{◌≡◌, ◌++◌, take}
use Rattle.sap_chart.specs.ChartText.{heads_text}
use Rattle.sap_chart.proofs.lifelines.push_heads.Given as goal

abbrev pub invariant-loop-k : goal.invariant-loop-k
invariant-loop-k l = l.text ≡ l.initial.text ++ heads_text 1 (take l.k l.lifelines.entries)
