use Rattle.std.proofs.Common.{◌≡◌, []}
use Rattle.std.proofs.Math.ListN.{replicate}
use Rattle.sap_players.proofs.numbers.RoleNumbers.new.Given as goal

abbrev pub invariant-loop : goal.invariant-loop
invariant-loop l = l.roles.items ≡ replicate l.counter []
