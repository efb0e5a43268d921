use Rattle.std.proofs.Common.{◌≡◌, ◌++◌, drop, map}
use Rattle.sap_search.specs.View.{chosen_value}
use Rattle.sap_verdicts.specs.VerdictText.{more_choices}
use Rattle.sap_verdicts.proofs.verdict_text.push_more.Given as goal

abbrev pub invariant-loop-k : goal.invariant-loop-k
invariant-loop-k l = l.text ++ more_choices l.names l.lines (map chosen_value (drop l.k l.reason)) ≡ l.initial.text ++ more_choices l.names l.lines (map chosen_value (drop 1 l.reason))
