use Rattle.std.proofs.Common.{◌≡◌, ◌++◌, take}
use Rattle.sap_process.proofs.scope.Scope.push_all.Given as goal

abbrev pub invariant-loop-v : goal.invariant-loop-v
invariant-loop-v l = l.self ≡ l.initial.self ++ take l.v-index l.v-items
