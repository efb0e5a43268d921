use Rattle.std.proofs.Common.{◌≡◌, ◌++◌, true, map, take}
use Rattle.sap_tell.specs.ToldText.{shows_text}
use Rattle.sap_teller.specs.code.Outcomes.{outcomes_from}
use Rattle.sap_teller.proofs.outcomes.push_shows.Given as goal

abbrev pub invariant-loop-k : goal.invariant-loop-k
invariant-loop-k l = l.text ≡ l.initial.text ++ outcomes_from true (map (shows_text l.names) (take l.k l.label))
