use Rattle.std.proofs.Common.{◌≡◌, take}
use Rattle.std.specs.List.{All}
use Rattle.sap_steps.specs.code.Ready.{IsReady, rules_of}
use Rattle.sap_steps.proofs.state.made_ready.Given as goal

abbrev pub invariant-loop-r : goal.invariant-loop-r
invariant-loop-r l = All (IsReady l.sig) l.ready × (rules_of l.ready ≡ take l.r-index l.r-items)
